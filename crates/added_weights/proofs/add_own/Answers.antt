-- `added_weights::add_own` meets its contract: after each turn the branches so far are added, but for those that lead elsewhere. Assumes nothing.
use Rattle.panel_numbers.proofs.Raised.{stays_none, stays_next, stays_else, sums_next, sums_still}
use Rattle.panel_numbers.specs.Fitting.{heaviest}
use Rattle.panel_numbers.specs.Table.{added_stays}
use Rattle.card.specs.Limits.{most_seats}
use Rattle.card.specs.Laid.{branch_of}
use mathlib.Core.List.{List, map}
use mathlib.Core.Path.{refl, ap, ◌∙◌}
use native.Mathlib.Omega.{arith}
use native.Mathlib.Nat.{mul-le-mul}
use lib.Seq.{take_all}
use Prim.Native.Nat.{ℕ, ◌≤◌, ◌*◌, ◌^◌}
use Rattle.added_weights.proofs.add_own.Goals as goal
use Rattle.added_weights.proofs.add_own.Goals.{then-end_of-own, else-end_of-own}

pub loop-branch-init : goal.loop-branch-init
loop-branch-init c =
    (stays_none c.args.shared c.args.able c.args.own c.args.stays.now c.told-stays, λ t. omega (arith, c.requires.light t))

pub overflow_add-stays : goal.overflow_add-stays
overflow_add-stays c =
    let small : c.units_of.result ≤ 2 ^ 32 = omega arith in
    let more : c.args.able * c.units_of.result ≤ most_seats * 2 ^ 32 = mul-le-mul c.requires.few small in
    omega (arith, more, c.requires.fit, c.loop-branch.invariant.1 c.becomes-to.result)

pub loop-branch-preserved : goal.loop-branch-preserved
loop-branch-preserved c =
    let a = c.args in
    let s = a.branches.now in
    let j = c.loop-branch.branch-index in
    elim c.if-end_of-own.branch [
      | then-end_of-own w ↦
          let small : w.units_of.result ≤ 2 ^ 32 = omega arith in
          let next = stays_next a.shared a.able s j _ refl c.loop-branch-test.true c.end_of.ensures.part w.becomes-to.ensures.is w.units_of.ensures w.becomes-to.ensures.small a.own a.stays.now c.loop-branch.invariant.0 w.if-end_of-own.true in
          let fits = sums_next c.loop-branch.stays w.becomes-to.result (a.able * w.units_of.result) heaviest (most_seats * 2 ^ 32) j c.loop-branch.invariant.1 (mul-le-mul c.requires.few small) in
          (w.stays-is ∙ next, rw w.stays-is fits)
      | else-end_of-own w ↦
          let next = stays_else a.shared a.able s j _ refl c.loop-branch-test.true c.end_of.ensures.part a.own a.stays.now c.loop-branch.invariant.0 w.if-end_of-own.false in
          (w.stays-is ∙ next, rw w.stays-is (sums_still c.loop-branch.stays heaviest (most_seats * 2 ^ 32) j c.loop-branch.invariant.1))
    ]

pub returns : goal.returns
returns c =
    c.loop-branch.invariant.0
    ∙ ap (λ (l : List ℕ). added_stays c.args.shared c.args.own c.args.able (map branch_of l) c.args.stays.now) (take_all c.loop-branch.branch-index c.args.branches.now c.loop-branch-test.false)
