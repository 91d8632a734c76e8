-- Invariant: an answer to the modules that are left answers the whole (Going, proofs/ModuleLaws.antt). Assumes nothing.
use mathlib.Core.Path.{◌≡◌}
use native.Mathlib.Omega.{arith}
use Rattle.card.specs.Limits.{most_seats}
use Rattle.parts.proofs.Steps.{next_at}
use Rattle.parts.proofs.Answers.{returned}
use Rattle.copies.proofs.ModuleLaws.{going_start, going_ended, going_past, going_stops, going_more}
use Rattle.copies.proofs.modules.Goals as goal

pub loop-seats-init : goal.loop-seats-init
loop-seats-init c = going_start c.args.state.now

pub returns-then-mark-ne-MODULE : goal.returns-then-mark-ne-MODULE
returns-then-mark-ne-MODULE c =
    going_ended c.loop-seats.invariant (next_at c.args.card.now c.loop-seats.next c.step_module-step.result
    c.step_module-step.ensures) c.if-mark-ne-MODULE.true c.ended.ensures

pub returns-in_err-next : goal.returns-in_err-next
returns-in_err-next c =
    rw (returned _ _ c.from_residual.ensures.1)
    (going_stops c.loop-seats.invariant (next_at c.args.card.now c.loop-seats.next c.step_module-step.result
    c.step_module-step.ensures) c.if-mark-ne-MODULE.false c.loop-seats-test.true c.in_err-next.ensures)

pub loop-seats-preserved : goal.loop-seats-preserved
loop-seats-preserved c =
    going_more c.loop-seats.invariant (next_at c.args.card.now c.loop-seats.next c.step_module-step.result
    c.step_module-step.ensures) c.if-mark-ne-MODULE.false c.loop-seats-test.true c.in_ok-next.ensures

pub returns-then-mark-eq-MODULE : goal.returns-then-mark-eq-MODULE
returns-then-mark-eq-MODULE c =
    going_past c.loop-seats.invariant (next_at c.args.card.now c.loop-seats.next c.step-step.result c.step-step.ensures)
    c.if-mark-eq-MODULE.true c.loop-seats-test.false _

pub returns : goal.returns
returns c =
    let all : c.loop-seats.seats ≡ most_seats = omega arith in
    let g = rw all at c.loop-seats.invariant in
    going_ended g (next_at c.args.card.now c.loop-seats.next c.step-step.result c.step-step.ensures)
    c.if-mark-eq-MODULE.false c.ended-2.ensures
