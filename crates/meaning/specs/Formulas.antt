-- The value of a formula of `!`, `&` and `|` from the values of its atoms. Assumes nothing.
use Rattle.std.specs.Prelude.{Bool, true, not, ◌&&◌, ◌||◌}
use Rattle.std.proofs.Math.Option.{Option, none, some}
use Rattle.card.specs.Card.{Formula, atom, neg, and, or}

abbrev pub value : {A : Type 0} → (A → Bool) → Formula A → Bool
value p (atom a) = p a
value p (neg g) = not (value p g)
value p (and g h) = value p g && value p h
value p (or g h) = value p g || value p h

-- where there is none, nothing is asked for
abbrev pub value_or : {A : Type 0} → (A → Bool) → Option (Formula A) → Bool
value_or p none = true
value_or p (some g) = value p g
