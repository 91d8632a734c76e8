-- `added_weights::add_moves` meets its contract: after each turn the branches so far are added. Assumes nothing.
use Rattle.panel_numbers.proofs.Raised.{added_none, added_next, sums_next}
use Rattle.panel_numbers.specs.Fitting.{heaviest}
use Rattle.panel_numbers.specs.Table.{place_of, added}
use Rattle.card.specs.Limits.{most_seats}
use Rattle.card.specs.Laid.{branch_of}
use mathlib.Core.List.{List, map}
use mathlib.Core.Path.{refl, ap, ◌∙◌}
use native.Mathlib.Omega.{arith}
use native.Mathlib.Nat.{mul-le-mul}
use lib.Seq.{take_all}
use Prim.Native.Nat.{ℕ, ◌≤◌, ◌*◌, ◌^◌}
use Rattle.added_weights.proofs.add_moves.Goals as goal

pub loop-branch-init : goal.loop-branch-init
loop-branch-init c =
    (added_none c.args.shared c.args.able c.args.row.now c.told-row, λ t. omega (arith, c.requires.light t))

pub overflow_add-row : goal.overflow_add-row
overflow_add-row c =
    let small : c.units_of.result ≤ 2 ^ 32 = omega arith in
    let more : c.args.able * c.units_of.result ≤ most_seats * 2 ^ 32 = mul-le-mul c.requires.few small in
    omega (arith, more, c.requires.fit, c.loop-branch.invariant.1 (place_of c.end_of.result c.becomes-to.result))

pub loop-branch-preserved : goal.loop-branch-preserved
loop-branch-preserved c =
    let a = c.args in
    let s = a.branches.now in
    let j = c.loop-branch.branch-index in
    let small : c.units_of.result ≤ 2 ^ 32 = omega arith in
    let next = added_next a.shared a.able s j _ refl c.loop-branch-test.true c.end_of.ensures.part c.becomes-to.ensures.is c.units_of.ensures c.becomes-to.ensures.small c.end_of.ensures.small a.row.now c.loop-branch.invariant.0 in
    let fits = sums_next c.loop-branch.row (place_of c.end_of.result c.becomes-to.result) (a.able * c.units_of.result) heaviest (most_seats * 2 ^ 32) j c.loop-branch.invariant.1 (mul-le-mul c.requires.few small) in
    (next, fits)

pub returns : goal.returns
returns c =
    c.loop-branch.invariant.0
    ∙ ap (λ (l : List ℕ). added c.args.shared c.args.able (map branch_of l) c.args.row.now) (take_all c.loop-branch.branch-index c.args.branches.now c.loop-branch-test.false)
