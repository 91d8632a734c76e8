-- How long a text can be: the bounds of its pieces, added up. Assumes nothing.
use Prim.Native.Nat.{ℕ, suc, ◌+◌, ◌-◌, ◌/◌, ◌^◌, ◌≤◌, ◌<◌}
use Prim.Native.String.{String}
use mathlib.Core.Path.{◌≡◌, refl}
use mathlib.Core.Bool.{Bool, true, false}
use mathlib.Core.List.{List}
use native.Mathlib.Nat.{div-le_self}
use native.Mathlib.Omega.{arith}
use borrow.Author.Tests.{leb-false}
use lib.Dec.{eqb, leb}
use lib.ListN.{length, length-append}
use Rattle.card.specs.Limits.{most_seats, top_state, number_digits, numbers, unit}
use Rattle.card.specs.Text.{bytes, when◌then◌else◌}
use Rattle.card.specs.Card.{Mode, nondeterministic, probabilistic}
use Rattle.card.specs.Weight.{Weight, whole}
use Rattle.room.specs.Digits.{decimal}
use Rattle.room.proofs.Decimal.{decimal_length}
use Rattle.phrases.specs.Phrases.{◌▸◌, num, mode_text, divisor, spell, weight_most, weight_text}
use Rattle.phrases.proofs.Counted.{Text}

-- a text adds so many bytes at most
pub record Adds (most : ℕ) (f : Text) : Type 0 where
  pub long : (r : List ℕ) → length (f r) ≤ most + length r

pub adds_then : {a b : ℕ} {f g : Text} → Adds a f → Adds b g → Adds (a + b) (λ r. f (g r))
adds_then {g = g} p q = record { long = λ r. omega (arith, p.long (g r), q.long r) }

pub adds_up : {a : ℕ} {f : Text} (b : ℕ) → a ≤ b → Adds a f → Adds b f
adds_up b h p = record { long = λ r. omega (arith, p.long r) }

pub adds_none : Adds 0 (λ r. r)
adds_none = record { long = λ r. omega arith }

pub adds_bytes : (s : String) → Adds (length (bytes s)) (λ r. s ▸ r)
adds_bytes s = record { long = λ r. omega (arith, length-append (bytes s) r) }

-- a number of k + 1 digits at most
pub adds_digits : (k v : ℕ) → v < 10 ^ suc k → Adds (suc k) (num v)
adds_digits k v h = record { long = λ r. omega (arith, length-append (decimal v) r, decimal_length k v h) }

pub adds_number : (v : ℕ) → v < numbers → Adds number_digits (num v)
adds_number v h = adds_digits (number_digits - 1) v h

pub adds_state : (d : ℕ) → d ≤ top_state → Adds 1 (num d)
adds_state d h = adds_digits 0 d (omega arith)

pub adds_seats : (v : ℕ) → v ≤ most_seats → Adds 2 (num v)
adds_seats v h = adds_digits 1 v (omega arith)

pub adds_choice : (b : Bool) (x y : Weight) → (b ≡ true → Adds weight_most (spell x)) → (b ≡ false → Adds weight_most (spell y))
    → Adds weight_most (spell (when b then x else y))
adds_choice true x y p q = p refl
adds_choice false x y p q = q refl

pub adds_weight : (u : ℕ) → Adds weight_most (weight_text u)
unfolding weight_text
adds_weight u =
    adds_choice (eqb u 0) (whole 0) _ (λ e. adds_up weight_most (omega arith) (adds_number 0 (omega arith)))
    (λ e. adds_choice (leb unit u) (whole 1) _ (λ f. adds_up weight_most (omega arith) (adds_number 1 (omega arith)))
    (λ f. adds_up weight_most (omega arith)
    (adds_then (adds_number (u / divisor u) (omega (arith, leb-false unit u f, div-le_self u (divisor u))))
    (adds_then (adds_bytes "/") (adds_number (unit / divisor u) (omega (arith, div-le_self unit (divisor u))))))))

pub adds_mode : (m : Mode) → Adds 16 (mode_text m)
adds_mode nondeterministic = adds_bytes "nondeterministic"
adds_mode probabilistic = adds_up 16 (omega arith) (adds_bytes "probabilistic")
