-- What the look found is what the step finds (proofs/Words.antt of looks). Assumes nothing.
use mathlib.Core.Path.{refl, sym, ap, ◌∙◌}
use lib.Dec.{eqb}
use Rattle.marks.specs.declared.Step.{Step}
use Rattle.marks_on_a_card.specs.Kinds.{kind}
use Rattle.card.specs.Text.{bytes}
use Rattle.looks.proofs.Quick.{past_line_step}
use Rattle.looks.proofs.Words.{keyword_step}
use Rattle.frame.proofs.shared.declared.Goals as goal

pub returns-then-word_here : goal.returns-then-word_here
returns-then-word_here c =
    let a = c.args in
    ap (λ (x : Step). eqb x.mark.kind (kind "global"))
    (sym (keyword_step a.card.now c.past_line-from.result 109 (bytes "odule") (sym c.word_here.ensures ∙ c.if-word_here.true) refl refl) ∙ past_line_step a.card.now a.at c.past_line-from.ensures)

pub returns : goal.returns
returns c =
    let a = c.args in
    ap (λ (x : Step). eqb x.mark.kind (kind "global"))
    (c.step_from-step.ensures ∙ past_line_step a.card.now a.at c.past_line-from.ensures)
