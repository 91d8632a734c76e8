-- What the look found is what the step finds (proofs/Quick.antt of looks).
use mathlib.Core.Path.{sym, ◌∙◌}
use native.Mathlib.Omega.{arith}
use Rattle.looks.proofs.Quick.{teen_small, teen_step, past_step}
use Rattle.due_words.proofs.step_seat.Goals as goal

pub returns-in-Some-teen_here : goal.returns-in-Some-teen_here
returns-in-Some-teen_here c = c.valued-in-Some-teen_here.ensures ∙ sym (teen_step c.args.card.now c.args.at c.in-Some-teen_here.teen c.in-Some-teen_here.ensures)

pub overflow_add-units : goal.overflow_add-units
overflow_add-units c = omega (arith, teen_small c.args.card.now c.past_blank-from.result c.in-Some-teen_here-2.units c.in-Some-teen_here-2.ensures)

pub returns-in-Some-teen_here-2 : goal.returns-in-Some-teen_here-2
returns-in-Some-teen_here-2 c =
    c.valued-in-Some-teen_here-2.ensures
    ∙ sym (teen_step c.args.card.now c.past_blank-from.result c.in-Some-teen_here-2.units c.in-Some-teen_here-2.ensures)
    ∙ past_step c.args.card.now c.args.at c.past_blank-from.ensures
