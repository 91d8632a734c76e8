-- The digits passed, and the value kept (`Held`). Assumes nothing.
use Prim.Native.Nat.{◌+◌}
use mathlib.Core.Path.{◌≡◌}
use Rattle.marks_on_a_card.proofs.Numbers.{Held}
use Rattle.words_and_digits.proofs.digits_from.Given as goal

abbrev pub invariant-loop-at : goal.invariant-loop-at
invariant-loop-at l = Held l.card l.from l.at l.digits.value × (l.from + l.digits.count ≡ l.at)
