-- A weight as it stands on a card, the units that it is worth ("Shape of a card"), and the rule by which it may stand there (document 02,
-- 2026-06 and 2026-11). Assumes nothing.
use Rattle.std.specs.Prelude.{ℕ, ◌+◌, ◌*◌, ◌/◌, ◌%◌, ◌^◌, ◌≤◌, ◌≡◌, Bool, true, false, ◌&&◌, eqb, leb}
use Rattle.std.specs.Int.{◌∣◌}
use Rattle.std.proofs.Math.Option.{Option, none, some}
use Rattle.card.specs.Limits.{unit, weight_digits}
use Rattle.card.specs.Refusals.{wrong_weight, decimal_weight}
use Rattle.card.specs.Text.{when◌then◌else◌}

pub data Weight : Type 0 where
  whole : ℕ → Weight  -- 1
  decimal : ℕ → ℕ → ℕ → Weight  -- 0.25: before the point, how many digits after it, and the number they spell
  ratio : ℕ → ℕ → Weight  -- 1/4

-- a decimal without its point
abbrev pub shifted : ℕ → ℕ → ℕ → ℕ
shifted v n f = v * 10 ^ n + f

-- ---- what it means: the weight is worth u units

abbrev pub Worth : Weight → ℕ → Type 0
Worth (whole v) u = (v ≤ 1) × (u ≡ v * unit)
Worth (decimal v n f) u = (1 ≤ n) × (n ≤ weight_digits) × (shifted v n f ≤ 10 ^ n) × (u * 10 ^ n ≡ shifted v n f * unit)
Worth (ratio a b) u = (b ∣ unit) × (a ≤ b) × (u * b ≡ a * unit)

-- ---- the same, computed

abbrev pub given : Bool → ℕ → Option ℕ
given true u = some u
given false u = none

unfoldable pub units_of : Weight → Option ℕ
units_of (whole v) = given (leb v 1) (v * unit)
units_of (decimal v n f) = given (leb 1 n && leb n weight_digits && leb (shifted v n f) (10 ^ n)) (shifted v n f * (unit / 10 ^ n))
units_of (ratio a b) = given (leb 1 b && eqb (unit % b) 0 && leb a b) (a * (unit / b))

-- ---- the rule of a weight

-- may a decimal be a weight?
abbrev pub Rule : Type 0
Rule = Bool

-- the rule by which every entry reads, but for the converter, which reads by both; the crate `weights` has it for the code
abbrev pub card_rule : Rule
card_rule = false

-- may a weight of this form stand on a card?
abbrev pub allowed : Rule → Weight → Bool
allowed decimals (whole v) = true
allowed decimals (decimal v n f) = decimals
allowed decimals (ratio a b) = true

-- the refusal that is due where it may not, or where it may and has no worth
abbrev pub weight_refusal : Rule → Weight → ℕ
weight_refusal decimals w = when allowed decimals w then wrong_weight else decimal_weight
