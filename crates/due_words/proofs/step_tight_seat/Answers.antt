-- What the look found is what the step finds (proofs/Quick.antt of looks).
use mathlib.Core.Path.{sym, ◌∙◌}
use Rattle.looks.proofs.Quick.{teen_step}
use Rattle.due_words.proofs.step_tight_seat.Goals as goal

pub returns-in-Some-teen_here : goal.returns-in-Some-teen_here
returns-in-Some-teen_here c = c.valued-in-Some-teen_here.ensures ∙ sym (teen_step c.args.card.now c.args.at c.in-Some-teen_here.units c.in-Some-teen_here.ensures)
