-- `seating::count_by` meets its contract: after i turns the array has the counts of the first i seats, and none is above i. Assumes nothing.
use Prim.Native.Nat.{ℕ}
use mathlib.Core.Path.{ap, ◌∙◌}
use mathlib.Core.List.{List, map}
use native.Mathlib.Omega.{arith}
use lib.ListN.{take, length-take}
use Rattle.std.proofs.lemmas.List.{take_all, take_min}
use Rattle.meaning.specs.Sums.{upto}
use Rattle.meaning.specs.Seats.{count}
use Rattle.seating.proofs.Counted.{none_yet, tally_none, tally_next, tally_over, one_more}
use Rattle.seating.proofs.count_by.Goals as goal
use Rattle.seating.proofs.count_by.Goals.{then-kind, else-kind}

pub loop-seat-init : goal.loop-seat-init
loop-seat-init g c = (none_yet g.row.N, λ f p. tally_none g.row.N f (take c.min.result c.args.seats.now))

pub overflow_add-counts : goal.overflow_add-counts
overflow_add-counts g c = omega (arith, c.loop-seat.invariant.0 c.of-kind.result, length-take c.min.result c.args.seats.now)

pub loop-seat-preserved : goal.loop-seat-preserved
loop-seat-preserved g c =
    let counted = take c.min.result c.args.seats.now in
    let i = c.loop-seat.seat-index in
    elim c.if-kind.branch [
      | then-kind w ↦ (
        rw w.counts-is (one_more c.loop-seat.counts c.of-kind.result i c.loop-seat.invariant.0),
        λ f p. w.counts-is ∙ tally_next f counted i c.loop-seat-test.true (p _ _ c.of-kind.ensures) g.row.N (c.loop-seat.invariant.1 f p) w.if-kind.true,
      )
      | else-kind w ↦ (
        λ t. rw w.counts-is (omega (arith, c.loop-seat.invariant.0 t)),
        λ f p. w.counts-is ∙ tally_over f counted i c.loop-seat-test.true (p _ _ c.of-kind.ensures) g.row.N (c.loop-seat.invariant.1 f p) w.if-kind.false,
      )
    ]

pub returns : goal.returns
returns g c = λ f p.
    let counted = take c.min.result c.args.seats.now in
    c.loop-seat.invariant.1 f p
    ∙ ap (λ (l : List ℕ). upto g.row.N (λ d. count d (map f l))) (take_all c.loop-seat.seat-index counted c.loop-seat-test.false ∙ rw c.min.ensures (take_min c.args.n c.args.seats.now))
