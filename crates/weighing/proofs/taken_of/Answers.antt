-- `weighing::taken_of` meets its contract: after i turns the sum is that of the first i statements, and no more than all seats for each.
-- Assumes nothing.
use Prim.Native.Nat.{◌+◌, ◌<◌}
use borrow.Rule.Slice.PartMut.{mid_len}
use mathlib.Core.Path.{ap, ◌∙◌}
use native.Mathlib.Omega.{arith}
use Rattle.card.specs.Card.{nondeterministic, probabilistic}
use Rattle.card.specs.Laid.{either}
use Rattle.weighing.proofs.Laws.{in_part, taken_start, taken_next, taken_end, taken_most, taken_more}
use Rattle.panel_numbers.specs.Table.{ables_from, counts_as}
use Rattle.weighing.proofs.taken_of.Goals as goal

pub loop-able-init : goal.loop-able-init
loop-able-init c = taken_start (either nondeterministic probabilistic c.args.mode) c.args.table.now

pub overflow_add-taken : goal.overflow_add-taken
overflow_add-taken c =
    let mode = either nondeterministic probabilistic c.args.mode in
    let i = c.loop-able.able-index in
    let here : i < c.args.count = omega arith in
    let this = in_part c.args.table.now ables_from _ i c.loop-able-test.true in
    let most = taken_most mode c.args.table.now c.requires i (omega arith) in
    let more = taken_more mode c.args.table.now c.requires i here in
    omega (arith, c.loop-able.invariant, c.counts_as-taken.ensures ∙ ap (counts_as mode) this, c.requires.statements, most, more)

pub loop-able-preserved : goal.loop-able-preserved
loop-able-preserved c =
    let mode = either nondeterministic probabilistic c.args.mode in
    let this = in_part c.args.table.now ables_from _ c.loop-able.able-index c.loop-able-test.true in
    taken_next mode c.args.table.now c.loop-able.able-index c.loop-able.invariant (c.counts_as-taken.ensures ∙ ap (counts_as mode) this)

pub returns : goal.returns
returns c =
    let mode = either nondeterministic probabilistic c.args.mode in
    c.loop-able.invariant ∙ taken_end mode c.args.table.now c.loop-able.able-index c.args.count (omega arith) (omega (arith, mid_len ables_from (ables_from + c.args.count) c.args.table.now (omega (arith, c.requires.statements))))
