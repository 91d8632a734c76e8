-- `gathering::keep_rows` meets its contract: each turn leaves one entry less to be kept. Assumes nothing.
use Rattle.gathering.proofs.Keeping.{keep_none, keep_all, keep_more}
use Rattle.gathering.proofs.keep_rows.Goals as goal

pub loop-i-init : goal.loop-i-init
loop-i-init c = keep_none c.args.deck.now c.args.count

pub loop-i-preserved : goal.loop-i-preserved
loop-i-preserved c = keep_more _ _ c.loop-i.invariant c.loop-i-test.true c.keep_row-to.ensures

pub returns : goal.returns
returns c = keep_all _ _ c.loop-i.invariant c.loop-i-test.false
