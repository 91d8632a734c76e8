-- What the look found is what the step finds (proofs/Quick.antt of looks).
use Prim.Native.Nat.{◌+◌}
use mathlib.Core.Path.{◌≡◌, sym, ◌∙◌}
use native.Mathlib.Omega.{arith}
use Rattle.looks.proofs.Quick.{arrow_step, past_step}
use Rattle.due_signs.proofs.step_arrow.Goals as goal

pub returns-then-stands-2 : goal.returns-then-stands-2
returns-then-stands-2 c =
    let from = c.past_blank-from.result in
    let to : from + 2 ≡ from + 1 + 1 = omega arith in
    c.bare.ensures
    ∙ rw to (sym (arrow_step c.args.card.now from (sym c.stands.ensures ∙ c.if-stands.true) (sym c.stands-then-stands.ensures ∙ c.if-stands-2.true)))
    ∙ past_step c.args.card.now c.args.at c.past_blank-from.ensures
