-- Digits as numbers ("Marks on a card"). Assumes nothing.
use Rattle.std.specs.Prelude.{ℕ, ◌+◌, ◌-◌, ◌*◌, ◌^◌, ◌≤◌, ◌≡◌, Bool, false, not, ◌&&◌, ◌||◌, List, [], ◌∷◌, eqb, leb, ltb, length}
use Rattle.std.proofs.Math.Option.{Option, none, some}
use Rattle.card.specs.Text.{same, when◌then◌else◌}
use Rattle.marks_on_a_card.specs.Bytes.{is_digit, run, begins, every}
use Rattle.marks_on_a_card.specs.declared.Digits.{Digits}

abbrev pub value_from : ℕ → List ℕ → ℕ
value_from v [] = v
value_from v (b ∷ s) = value_from (v * 10 + (b - 48)) s

-- digits: `0` or without a leading zero, and at most so many
abbrev pub plain : ℕ → List ℕ → Bool
plain most [] = false
plain most (b ∷ s) = every is_digit (b ∷ s) && (not (eqb b 48) || same s []) && leb (length (b ∷ s)) most

abbrev pub number_spelt : ℕ → List ℕ → Option ℕ
number_spelt most s = when plain most s then some (value_from 0 s) else none

-- a point and a digit
abbrev pub pointed : List ℕ → Bool
pointed [] = false
pointed (a ∷ s) = eqb a 46 && begins is_digit s

-- so many digits spell a number that the machine holds
abbrev pub held_digits : ℕ
held_digits = 18

abbrev pub grown_by : ℕ → ℕ → ℕ
grown_by v b = when ltb v (10 ^ held_digits) then v * 10 + (b - 48) else v

-- the digits at the front: how many, and, if they are few enough, the number that they spell
pub record Counted (s : List ℕ) (d : Digits) : Type 0 where
  pub count_is : d.count ≡ length (run is_digit s)
  pub value_is : length (run is_digit s) ≤ held_digits → d.value ≡ value_from 0 (run is_digit s)
