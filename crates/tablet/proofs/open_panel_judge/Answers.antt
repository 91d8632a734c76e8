-- `tablet::open_panel_judge` meets its contract: the reader's verdict, in numbers. Assumes nothing.
use mathlib.Core.Path.{ap, sym, ◌∙◌}
use Rattle.card.specs.Verdict.{verdict_in}
use Rattle.answers.specs.Numbered.{verdict_numbers}
use Rattle.outline.proofs.ReadInto.{arrays_none}
use Rattle.outline.specs.ReadingOf.{Outline}
use Rattle.tablet.proofs.Laws.{judge_told}
use Rattle.tablet.proofs.open_panel_judge.Goals as goal

pub read_into-requires : goal.read_into-requires
read_into-requires c = arrays_none

pub returns-in-Ok : goal.returns-in-Ok
returns-in-Ok c = judge_told c.read_into.ensures (sym (ap (λ (x : Outline). verdict_numbers (verdict_in x)) c.in-Ok.is))

pub returns-in-Err : goal.returns-in-Err
returns-in-Err c = judge_told c.read_into.ensures (c.from.ensures ∙ sym (ap (λ (x : Outline). verdict_numbers (verdict_in x)) c.in-Err.is))
