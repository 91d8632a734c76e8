-- `counting::units_to` meets its contract: the array has the units of the branches so far. Assumes nothing.
use Prim.Native.Nat.{◌-◌, ◌^◌}
use mathlib.Core.List.{map}
use lib.ListN.{length, take, drop, length-drop}
use mathlib.Core.Path.{◌≡◌, ap, ◌∙◌}
use native.Mathlib.Omega.{arith}
use Rattle.std.proofs.lemmas.Iterator.{YieldsList-from_slice, YieldsList-from_take}
use Rattle.std.proofs.lemmas.Iterator.Consumers.{YieldsList-end}
use Rattle.std.specs.Iterator.Adapters.{take_source, take_count}
use Rattle.std.specs.Slice.Iter.{iter_rest}
use Rattle.std.proofs.lemmas.List.{length_push, take_all, drop_min}
use Rattle.card.specs.Limits.{most_states}
use Rattle.card.specs.Laid.{branch_of}
use Rattle.panel_numbers.specs.Taking.{units_to_each}
use Rattle.meaning.proofs.Sums.{map_append}
use Rattle.counting.proofs.Weighed.{each_none, each_next, zeros_small, sums_next}
use Rattle.counting.proofs.units_to.Goals as goal

pub loop-branch-init : goal.loop-branch-init
loop-branch-init c = (each_none, zeros_small most_states)

pub loop-branch-preserved : goal.loop-branch-preserved
loop-branch-preserved c =
    let more = each_next (map (λ b. b.now) c.loop-branch.yielded) c.in-Some.branch.now c.end_of.ensures.part c.units_of.ensures c.end_of.ensures.small c.loop-branch.invariant.0 in
    let small = sums_next c.loop-branch.units c.end_of.result c.units_of.result (2 ^ 32) _ c.loop-branch.invariant.1 (omega arith) in
    (rw map_append more, rw length_push small)

pub returns : goal.returns
returns c =
    let branches = c.args.branches.now in
    let there : take (length branches - c.min.result) (drop c.min.result branches) ≡ drop c.args.at branches =
    take_all _ _ (omega (arith, length-drop c.min.result branches)) ∙ rw c.min.ensures (drop_min c.args.at branches) in
    let rest = ap (λ s. iter_rest (take_source s)) c.into_iter-branch-iterator.ensures.into_iter_gives ∙ ap iter_rest c.take-branch-items.ensures.source ∙ c.iter.ensures.rest ∙ there in
    let many = ap take_count c.into_iter-branch-iterator.ensures.into_iter_gives ∙ c.take-branch-items.ensures.count ∙ c.min-2.ensures in
    let road = YieldsList-from_take _ (YieldsList-from_slice (drop c.args.at branches) rest) many in
    let e = YieldsList-end road c.loop-branch.yielded _ c.loop-branch.yielded_by _ _ c.in-None.is c.next.ensures.steps in
    c.loop-branch.invariant.0 ∙ ap (λ l. units_to_each (map branch_of l)) e.0
