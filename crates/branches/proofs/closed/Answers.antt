-- At the `;` the sum is judged, and anything else is a stop. Assumes nothing.
use Rattle.branches.proofs.BranchLaws.{close_stops, close_read}
use Rattle.branches.proofs.closed.Goals as goal

pub returns-then-mark-ne-SEMICOLON : goal.returns-then-mark-ne-SEMICOLON
returns-then-mark-ne-SEMICOLON c = close_stops _ c.if-mark-ne-SEMICOLON.true

pub returns : goal.returns
returns c = close_read c.args.state.now c.if-mark-ne-SEMICOLON.false c.judge_sum.ensures
