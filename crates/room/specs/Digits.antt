-- A number in decimal. That it is the only way to write the number with digits and without a zero in front is proved in
-- proofs/Decimal.antt. Assumes nothing.
use Rattle.std.specs.Prelude.{ℕ, zero, suc, ◌+◌, ◌-◌, ◌*◌, ◌/◌, ◌%◌, ◌≤◌, ◌<◌, List, [], ◌∷◌, ◌++◌, ltb, length, get_or}
use Rattle.card.specs.Text.{when◌then◌else◌}

-- the byte of a digit
abbrev pub digit : ℕ → ℕ
digit d = 48 + d

-- n in decimal, of which the last so many digits at most
unfoldable pub last_digits : ℕ → ℕ → List ℕ
last_digits zero n = []
last_digits (suc most) n =
    let longer = last_digits most (n / 10) ++ (digit (n % 10) ∷ []) in
    when ltb n 10 then digit n ∷ [] else longer

-- all of its digits: there are never more than n + 1
unfoldable pub decimal : ℕ → List ℕ
unfolding last_digits
decimal n = last_digits (suc n) n

-- ---- what decimal notation is: digits, one at least, and no zero in front of others

abbrev pub AllDigits : List ℕ → Type 0
AllDigits [] = Unit {0}
AllDigits (b ∷ s) = (digit 0 ≤ b) × (b ≤ digit 9) × AllDigits s

pub record Numeral (s : List ℕ) : Type 0 where
  pub digits : AllDigits s
  pub some : 0 < length s
  pub front : 1 < length s → digit 0 < get_or s 0 0

-- the number that digits stand for, after a number that is read already
unfoldable pub value_from : ℕ → List ℕ → ℕ
value_from v [] = v
value_from v (b ∷ s) = value_from (v * 10 + (b - digit 0)) s

abbrev pub value : List ℕ → ℕ
value s = value_from 0 s
