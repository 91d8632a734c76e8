-- What is settled is due, or nothing is (proofs/Judging.antt). Assumes nothing.
use mathlib.Core.Path.{sym, ◌∙◌}
use Rattle.outline.proofs.Judging.{due_refuses, none_due}
use Rattle.outline.proofs.judged.Goals as goal

pub returns-in-Err : goal.returns-in-Err
returns-in-Err c = due_refuses (sym c.in-Err.is ∙ c.settle.ensures) c.clear.ensures

pub returns : goal.returns
returns c = none_due (sym c.in_default.is ∙ c.settle.ensures)
