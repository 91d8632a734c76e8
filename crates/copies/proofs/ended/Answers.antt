-- By whether anything stands behind the last module. Assumes nothing.
use Rattle.copies.proofs.ModuleLaws.{end_stops, end_read}
use Rattle.copies.proofs.ended.Goals as goal

pub returns-then-mark-ne-END : goal.returns-then-mark-ne-END
returns-then-mark-ne-END c = end_stops _ c.if-mark-ne-END.true

pub returns : goal.returns
returns c = end_read c.args.state.now c.if-mark-ne-END.false
