-- What the look found is what the step finds (proofs/Words.antt of looks).
use mathlib.Core.Path.{refl, sym, ◌∙◌}
use Rattle.card.specs.Text.{bytes}
use Rattle.looks.proofs.Words.{keyword_step}
use Rattle.looks.proofs.Quick.{past_line_step}
use Rattle.due_words.proofs.step_module.Goals as goal

pub returns-then-word_here : goal.returns-then-word_here
returns-then-word_here c =
    c.bare.ensures
    ∙ sym (keyword_step c.args.card.now c.past_line-from.result 109 (bytes "odule") (sym c.word_here.ensures ∙ c.if-word_here.true) refl refl)
    ∙ past_line_step c.args.card.now c.args.at c.past_line-from.ensures
