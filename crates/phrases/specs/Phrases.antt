-- Pieces that several texts have in common ("Texts, byte for byte"). A text is a function of the bytes that follow it, so that
-- texts are joined by writing one before the other. Assumes nothing.
use Rattle.std.specs.Prelude.{ℕ, zero, suc, ◌+◌, ◌*◌, ◌/◌, ◌%◌, ◌<◌, ◌≡◌, List, ◌++◌, eqb, leb}
use Rattle.std.specs.Int.{◌∣◌}
use Prim.Native.String.{String}
use Rattle.card.specs.Limits.{number_digits, unit}
use Rattle.card.specs.Text.{bytes, when◌then◌else◌}
use Rattle.card.specs.Card.{Mode, nondeterministic, probabilistic}
use Rattle.card.specs.Weight.{Weight, whole, decimal as point, ratio}
use Rattle.room.specs.Digits.{decimal}

abbrev pub Text : Type 0
Text = List ℕ → List ℕ

infixr 50 ◌▸◌
abbrev pub ◌▸◌ : String → List ℕ → List ℕ
t ▸ r = bytes t ++ r

-- a number in decimal
abbrev pub num : ℕ → List ℕ → List ℕ
num v r = decimal v ++ r

abbrev pub mode_word : Mode → String
mode_word nondeterministic = "nondeterministic"
mode_word probabilistic = "probabilistic"

abbrev pub mode_text : Mode → List ℕ → List ℕ
mode_text m r = mode_word m ▸ r

-- the text of i, of i + 1 and so on, of so many
unfoldable pub counted : (ℕ → Text) → ℕ → ℕ → Text
counted f i zero r = r
counted f i (suc c) r = f i (counted f (suc i) c r)

-- ---- weights, `0`, `1` or a fraction in lowest terms

-- a fraction has two numbers and a sign between them at most
abbrev pub weight_most : ℕ
weight_most = 1 + 2 * number_digits

-- a/b is u units, and no number but 1 divides both
pub record LowestTerms (u a b : ℕ) : Type 0 where
  pub below : 0 < b
  pub value : a * unit ≡ u * b
  pub coprime : (d : ℕ) → d ∣ a → d ∣ b → d ≡ 1

-- the greatest common divisor, in at most so many rounds
unfoldable pub gcd : ℕ → ℕ → ℕ → ℕ
gcd zero a b = a
gcd (suc rounds) a b =
    let more = gcd rounds b (a % b) in
    when eqb b 0 then a else more

unfoldable pub divisor : ℕ → ℕ
divisor u = gcd (suc unit) unit u

-- no weight has more units than the unit
abbrev pub lowest : ℕ → Weight
lowest u = when eqb u 0 then whole 0 else (when leb unit u then whole 1 else ratio (u / divisor u) (unit / divisor u))

-- a weight as it stands, but no decimal: none is written
abbrev pub spell : Weight → List ℕ → List ℕ
spell (whole v) r = num v r
spell (point v n f) r = r
spell (ratio a b) r = num a ("/" ▸ num b r)

unfoldable pub weight_text : ℕ → List ℕ → List ℕ
weight_text u r = spell (lowest u) r
