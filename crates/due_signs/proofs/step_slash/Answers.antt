-- What the look found is what the step finds (proofs/Quick.antt of looks).
use mathlib.Core.Path.{sym, ◌∙◌}
use Rattle.looks.proofs.Quick.{slash_step, past_step}
use Rattle.due_signs.proofs.step_slash.Goals as goal

pub returns-then-not-stands : goal.returns-then-not-stands
returns-then-not-stands c =
    c.bare.ensures
    ∙ sym (slash_step c.args.card.now c.past_blank-from.result (sym c.stands.ensures ∙ c.if-stands.true) (sym c.stands-then-stands.ensures ∙ c.if-not-stands.true))
    ∙ past_step c.args.card.now c.args.at c.past_blank-from.ensures
