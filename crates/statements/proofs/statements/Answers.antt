-- Invariant: an answer to the statements that are left answers the whole (Going, proofs/StatementsLaws.antt). Assumes nothing.
use native.Mathlib.Omega.{arith}
use Rattle.parts.proofs.Steps.{next_at}
use Rattle.parts.proofs.Answers.{returned}
use Rattle.statements.proofs.StatementsLaws.{open_stops, going_start, going_stops, going_unended, going_ended, going_more, going_past}
use Rattle.statements.proofs.statements.Goals as goal

pub returns-in_err-next : goal.returns-in_err-next
returns-in_err-next c = rw (returned _ _ c.from_residual.ensures.1) (open_stops c.args.state.now c.in_err-next.ensures)

pub loop-count-init : goal.loop-count-init
loop-count-init c = going_start c.args.state.now c.in_ok-next.ensures

pub returns-in_err-read : goal.returns-in_err-read
returns-in_err-read c =
    rw (returned _ _ c.from_residual-in_err-read.ensures.1) (going_stops c.loop-count.invariant (omega arith) c.in_err-read.ensures)

pub returns-then-mark-ne-ENDMODULE : goal.returns-then-mark-ne-ENDMODULE
returns-then-mark-ne-ENDMODULE c =
    going_unended c.loop-count.invariant (omega arith) c.in_ok-read.ensures
    (next_at c.args.card.now c.in_ok-read.read c.step_square-step.result c.step_square-step.ensures)
    c.if-mark-ne-SQUARE_OPEN.true c.if-mark-ne-ENDMODULE.true

pub returns-then-mark-ne-SQUARE_OPEN : goal.returns-then-mark-ne-SQUARE_OPEN
returns-then-mark-ne-SQUARE_OPEN c =
    going_ended c.loop-count.invariant (omega arith) c.in_ok-read.ensures
    (next_at c.args.card.now c.in_ok-read.read c.step_square-step.result c.step_square-step.ensures)
    c.if-mark-ne-SQUARE_OPEN.true c.if-mark-ne-ENDMODULE.false

pub loop-count-preserved : goal.loop-count-preserved
loop-count-preserved c =
    going_more c.loop-count.invariant (omega arith) c.in_ok-read.ensures
    (next_at c.args.card.now c.in_ok-read.read c.step_square-step.result c.step_square-step.ensures)
    c.if-mark-ne-SQUARE_OPEN.false

pub returns : goal.returns
returns c = going_past c.loop-count.invariant (omega arith)
