-- `seating::judge_each` meets its contract: the judgement is that of those not yet looked at. Assumes nothing.
use mathlib.Core.Path.{sym, ◌∙◌}
use native.Mathlib.Omega.{arith}
use Rattle.seating.proofs.Judging.{judged_above, judged_next, judged_end}
use Rattle.seating.proofs.judge_each.Goals as goal

pub returns-then-most-value : goal.returns-then-most-value
returns-then-most-value c =
    sym (c.loop-i.invariant ∙ judged_above _ _ _ _ c.loop-i-test.true (omega arith))

pub loop-i-preserved : goal.loop-i-preserved
loop-i-preserved c = c.loop-i.invariant ∙ judged_next _ _ _ _ c.loop-i-test.true (omega arith)

pub returns : goal.returns
returns c = sym (c.loop-i.invariant ∙ judged_end _ _ _ _ (omega arith))
