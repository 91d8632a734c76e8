-- `placing::spot_for` meets its contract: entries are passed as long as their numbers are lower. Assumes nothing.
use Rattle.placing.proofs.Spotting.{spot_here, spot_on}
use Rattle.placing.proofs.spot_for.Goals as goal

pub returns-then-number-word_at : goal.returns-then-number-word_at
returns-then-number-word_at c = spot_here _ _ _ c.loop-i.invariant c.loop-i-test.true c.word_at.ensures.0 c.if-number-word_at.true

pub loop-i-preserved : goal.loop-i-preserved
loop-i-preserved c = spot_on _ _ _ c.loop-i.invariant c.loop-i-test.true c.word_at.ensures.0 c.if-number-word_at.false c.word_at-body.ensures
