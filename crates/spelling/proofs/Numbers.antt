-- Numbers: the scan's test and value are those of the spelling. The value that grows digit by digit is the sum of digits times powers of ten.
use Prim.Native.Nat.{ℕ, suc, ◌+◌, ◌-◌, ◌*◌, ◌^◌, ◌<◌}
use mathlib.Core.Path.{◌≡◌, refl, sym, ap, ◌∙◌}
use mathlib.Core.Bool.{Bool, true, false, not, ◌&&◌, ◌||◌}
use mathlib.Core.List.{List, [], ◌∷◌, head-eq_of_cons-eq, tail-eq_of_cons-eq}
use mathlib.Core.Option.{none, some}
use native.Mathlib.Nat.{pow-suc, add-mul, mul_assoc, mul_comm}
use native.Mathlib.Omega.{arith}
use borrow.Author.Tests.{eqb-true, eqb-false, leb-true, le-leb, not-true}
use lib.Dec.{eqb, leb}
use lib.ListN.{length}
use Rattle.card.specs.Text.{same}
use Rattle.marks_on_a_card.specs.Bytes.{is_digit, every}
use Rattle.marks_on_a_card.specs.Digits.{value_from, plain, number_spelt}
use Rattle.marks_on_a_card.proofs.Lists.{cases, not_both, and_left, and_right, or_true, none_left}
use Rattle.marks_on_a_card.proofs.KindLaws.{same_eq}
use Rattle.spelling.specs.Spells.{Digits, none as no_digit, digit, Numeral, Number}

-- the number that digits spell
abbrev worth : List ℕ → ℕ
worth [] = 0
worth (b ∷ s) = (b - 48) * 10 ^ length s + worth s

value_worth : (v : ℕ) (s : List ℕ) → value_from v s ≡ v * 10 ^ length s + worth s
value_worth v [] = omega arith
value_worth v (b ∷ s) =
    let d = b - 48 in
    let t = 10 ^ length s in
    let grown : (v * 10 + d) * t ≡ v * 10 * t + d * t = add-mul (v * 10) d t in
    let tens : v * 10 * t ≡ v * (10 * t) = mul_assoc v 10 t in
    let power : 10 ^ suc (length s) ≡ 10 * t = pow-suc 10 (length s) ∙ mul_comm t 10 in
    value_worth (v * 10 + d) s ∙ rw power (omega (arith, grown, tens))

digits_of : (s : List ℕ) → every is_digit s ≡ true → Digits s (worth s)
digits_of [] e = no_digit
digits_of (b ∷ s) e = digit (and_left (is_digit b) (every is_digit s) e) (digits_of s (and_right (is_digit b) (every is_digit s) e))

pub digits_every : (s : List ℕ) (v : ℕ) → Digits s v → every is_digit s ≡ true
digits_every s v no_digit = refl
digits_every s v (digit {v = u} {s = t} e d) = rw (e, digits_every t u d)

digits_worth : (s : List ℕ) (v : ℕ) → Digits s v → worth s ≡ v
digits_worth s v no_digit = refl
digits_worth s v (digit {b = b} {v = u} {s = t} e d) = ap (λ (n : ℕ). (b - 48) * 10 ^ length t + n) (digits_worth t u d)

value_zero : (s : List ℕ) → value_from 0 s ≡ worth s
value_zero s = value_worth 0 s ∙ omega arith

pub numeral_of : (s : List ℕ) → every is_digit s ≡ true → 0 < length s → Numeral s (value_from 0 s)
numeral_of s e h = record { digits = rw (value_zero s) (digits_of s e); some = omega arith }

pub numeral_value : (s : List ℕ) (v : ℕ) → Numeral s v → value_from 0 s ≡ v
numeral_value s v n = value_zero s ∙ digits_worth s v n.digits

pub numeral_every : (s : List ℕ) (v : ℕ) → Numeral s v → every is_digit s ≡ true
numeral_every s v n = digits_every s v n.digits

-- ---- numbers

plain_number : (most : ℕ) (s : List ℕ) → plain most s ≡ true → Number most s (value_from 0 s)
plain_number most [] e = not_both false e refl
plain_number most (b ∷ s) e =
    let whole = and_left (every is_digit (b ∷ s) && (not (eqb b 48) || same s [])) (leb (length (b ∷ s)) most) e in
    let short = and_right (every is_digit (b ∷ s) && (not (eqb b 48) || same s [])) (leb (length (b ∷ s)) most) e in
    record {
      numeral = numeral_of (b ∷ s) (and_left (every is_digit (b ∷ s)) (not (eqb b 48) || same s []) whole) (omega arith);
      short = leb-true (length (b ∷ s)) most short;
      leading = λ t q. or_true (not (eqb b 48)) (same s []) (and_right (every is_digit (b ∷ s)) (not (eqb b 48) || same s []) whole)
          (λ n. absurd (eqb-false b 48 (not-true (eqb b 48) n) (head-eq_of_cons-eq q)))
          (λ z. omega (arith, ap length (sym (tail-eq_of_cons-eq q) ∙ same_eq s [] z)));
    }

number_plain : (most : ℕ) (s : List ℕ) (v : ℕ) → Number most s v → plain most s ≡ true
number_plain most [] v n = absurd (omega (arith, n.numeral.some))
number_plain most (b ∷ s) v n = rw (numeral_every (b ∷ s) v n.numeral, le-leb (length (b ∷ s)) most n.short) (front (eqb b 48) refl)
  where
    front : (t : Bool) → eqb b 48 ≡ t → ((not t || same s []) && true) ≡ true
    front true q = rw (none_left s (omega (arith, n.leading s (ap (λ (c : ℕ). c ∷ s) (eqb-true b 48 q)))))
    front false q = refl

module _ (most : ℕ) (s : List ℕ) where
  pub number_of : (v : ℕ) → number_spelt most s ≡ some v → Number most s v
  number_of v e = cases (plain most s)
      (λ p. let z : value_from 0 s ≡ v = cc in rw (← z) (plain_number most s p))
      (λ p. let f : none ≡ some v = rw p at e in let z : ◌≡◌ {A = ℕ} 0 1 = cc in absurd (omega arith))

  pub of_number : (v : ℕ) → Number most s v → number_spelt most s ≡ some v
  of_number v n = rw (number_plain most s v n) (ap some (numeral_value s v n.numeral))

  pub no_number : number_spelt most s ≡ none → (v : ℕ) → Number most s v → ⊥
  no_number e v n = let z : ◌≡◌ {A = ℕ} 0 1 = let q = of_number v n in cc in absurd (omega arith)

  pub not_number : ((v : ℕ) → Number most s v → ⊥) → number_spelt most s ≡ none
  not_number f = cases (plain most s) (λ p. absurd (f (value_from 0 s) (plain_number most s p))) (λ p. rw p)
