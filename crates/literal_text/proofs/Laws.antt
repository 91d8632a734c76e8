-- A literal's text in the form in which the code puts it: byte for byte, of a seat up to 19 and a state of one digit, behind a sign. Assumes
-- nothing.
use Prim.Native.Nat.{ℕ, ◌-◌, ◌/◌, ◌%◌, ◌≤◌, ◌<◌}
use mathlib.Core.Path.{◌≡◌, refl, ◌∙◌}
use mathlib.Core.Bool.{Bool, true, false}
use mathlib.Core.List.{List, [], ◌∷◌, ◌++◌}
use native.Mathlib.Omega.{arith}
use borrow.Author.Tests.{eq-eqb, ne_eqb}
use lib.Dec.{eqb}
use Rattle.card.specs.Text.{when◌then◌else◌}
use Rattle.card.specs.Card.{all, any, is, isnt}
use Rattle.card.specs.Laid.{either}
use Rattle.room.specs.Digits.{digit, decimal}
use Rattle.room.proofs.Decimal.{decimal_one, decimal_more}
use Rattle.phrases.specs.Phrases.{Text, ◌▸◌}
use Rattle.texts.specs.Writing.{sign_text, literal}

-- a number of two digits whose first is 1
pub decimal_teen : (n : ℕ) → 10 ≤ n → n < 20 → decimal n ≡ 49 ∷ digit (n - 10) ∷ []
decimal_teen n l h =
    let tens : n / 10 ≡ 1 = omega arith in
    let units : n % 10 ≡ n - 10 = omega arith in
    decimal_more n l ∙ rw (tens, units, decimal_one 1 (omega arith))

-- a sign, byte for byte
signed : (t : Bool) (r : List ℕ) → 32 ∷ (when t then 38 else 124) ∷ 32 ∷ r ≡ sign_text (when t then all else any) ▸ r
signed true r = refl
signed false r = refl

pub sign_bytes : (sign : ℕ) {joint : ℕ} → joint ≡ either 38 124 sign → (r : List ℕ) → 32 ∷ joint ∷ 32 ∷ r ≡ sign_text (either all any sign) ▸ r
sign_bytes sign e r = rw e (signed (eqb sign 0) r)

-- a sign and a literal, byte for byte, by the digits of its seat
module _ (sign relation d i : ℕ) (hd : d < 10) {seat : List ℕ} (hi : decimal i ≡ seat) where
  abbrev Further : Text → Type 0
  Further f = (r : List ℕ) → f r ≡ sign_text (either all any sign) ▸ literal (either is isnt relation) d i r

  module _ {joint : ℕ} (e : joint ≡ either 38 124 sign) where
    pub further_is : relation ≡ 0 → Further (λ r. 32 ∷ joint ∷ 32 ∷ 115 ∷ (seat ++ (61 ∷ digit d ∷ r)))
    further_is q r = rw (e, eq-eqb relation 0 q, hi, decimal_one d hd) (signed (eqb sign 0) _)

    pub further_isnt : (relation ≡ 0 → ⊥) → Further (λ r. 32 ∷ joint ∷ 32 ∷ 115 ∷ (seat ++ (33 ∷ 61 ∷ digit d ∷ r)))
    further_isnt q r = rw (e, ne_eqb relation 0 q, hi, decimal_one d hd) (signed (eqb sign 0) _)
