-- `class_counts::judge_classes` meets its contract: the length first, then each class. Assumes nothing.
use Rattle.class_counts.proofs.Laws.{right_length, wrong_length}
use native.Mathlib.Omega.{arith}
use mathlib.Core.Path.{◌∙◌}
use Rattle.class_counts.proofs.judge_classes.Goals as goal

pub returns-then-classes-top-eq1 : goal.returns-then-classes-top-eq1
returns-then-classes-top-eq1 c = c.judge_each.ensures ∙ right_length _ _ c.if-top-classes.true c.if-classes-top-eq1.true

pub returns-else-classes-top-eq1 : goal.returns-else-classes-top-eq1
returns-else-classes-top-eq1 c = wrong_length _ _ (λ e. c.if-classes-top-eq1.false (omega (arith, e)))

pub returns-else-top-classes : goal.returns-else-top-classes
returns-else-top-classes c = wrong_length _ _ (λ e. omega (arith, e, c.if-top-classes.false))
