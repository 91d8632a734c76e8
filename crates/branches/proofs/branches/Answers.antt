-- Invariant: an answer to the branches that are left answers the whole (Going, proofs/BranchLaws.antt). Assumes nothing.
use native.Mathlib.Omega.{arith}
use Rattle.parts.proofs.Steps.{next_at}
use Rattle.parts.proofs.Answers.{returned}
use Rattle.branches.proofs.BranchLaws.{going_start, going_stops, going_closed, going_more, going_past, branch_few}
use Rattle.branches.proofs.branches.Goals as goal

pub loop-count-init : goal.loop-count-init
loop-count-init c = going_start c.args.state.now

pub returns-in_err-read : goal.returns-in_err-read
returns-in_err-read c =
    rw (returned _ _ c.from_residual.ensures.1) (going_stops c.loop-count.invariant c.loop-count-test.true c.in_err-read.ensures)

pub overflow_add-total : goal.overflow_add-total
overflow_add-total c =
    omega (arith, branch_few c.in_ok-read.ensures, c.loop-count.invariant.small, c.loop-count-test.true)

pub returns-then-mark-ne-PLUS : goal.returns-then-mark-ne-PLUS
returns-then-mark-ne-PLUS c =
    going_closed c.loop-count.invariant c.loop-count-test.true c.in_ok-read.ensures
    (next_at c.args.card.now c.in_ok-read.read c.step_further-step.result c.step_further-step.ensures)
    c.if-mark-ne-PLUS.true c.closed.ensures

pub loop-count-preserved : goal.loop-count-preserved
loop-count-preserved c =
    going_more c.loop-count.invariant c.loop-count-test.true c.in_ok-read.ensures
    (next_at c.args.card.now c.in_ok-read.read c.step_further-step.result c.step_further-step.ensures)
    c.if-mark-ne-PLUS.false

pub returns : goal.returns
returns c =
    going_past c.loop-count.invariant c.loop-count-test.false
    (next_at c.args.card.now c.loop-count.next c.step-step.result c.step-step.ensures) c.past.ensures
