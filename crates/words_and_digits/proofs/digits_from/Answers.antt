-- The digits passed, and the value kept (`Held`). Assumes nothing.
use Prim.Native.Nat.{◌+◌}
use mathlib.Core.Path.{sym, subst, ◌∙◌}
use native.Mathlib.Omega.{arith}
use Rattle.marks_on_a_card.proofs.Numbers.{Held, held_next}
use Rattle.words_and_digits.proofs.digits_from.Goals as goal

pub loop-at-preserved : goal.loop-at-preserved
loop-at-preserved c = (
  subst (λ v. Held c.args.card.now c.args.from (c.loop-at.at + 1) v) (sym c.grown.ensures)
      (held_next c.args.card.now c.args.from c.loop-at.at c.loop-at.digits.value c.loop-at-test.true (sym c.is_digit.ensures ∙ c.if-not-is_digit.false) c.loop-at.invariant.0),
  omega (arith, c.loop-at.invariant.1),
)
