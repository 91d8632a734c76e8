-- `phrases::divisor` meets its contract: a round of the division keeps the greatest common divisor, and the second number falls. Assumes nothing.
use Rattle.phrases.proofs.Lowest.{round, round_last, divisor_rounds, divisor_positive}
use mathlib.Core.Path.{sym, ◌∙◌}
use Rattle.phrases.proofs.divisor.Goals as goal

pub loop-b-init : goal.loop-b-init
loop-b-init c = divisor_rounds _ c.requires

pub loop-b-preserved : goal.loop-b-preserved
loop-b-preserved c = c.loop-b.invariant ∙ round _ _ c.loop-b-test.true

pub returns : goal.returns
returns c = let e = sym (c.loop-b.invariant ∙ round_last _ _ c.loop-b-test.false) in (e, rw e (divisor_positive _ c.requires))
