-- What the look found is what the step finds (proofs/Quick.antt of looks).
use mathlib.Core.Path.{sym, ◌∙◌}
use Rattle.looks.proofs.Quick.{process_step, past_step}
use Rattle.due_words.proofs.step_process.Goals as goal

pub returns-in-Some : goal.returns-in-Some
returns-in-Some c =
    c.valued.ensures ∙ sym (process_step c.args.card.now c.past_blank-from.result c.in-Some.value c.in-Some.ensures)
    ∙ past_step c.args.card.now c.args.at c.past_blank-from.ensures
