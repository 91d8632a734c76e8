-- What starts at a byte, told from its class and from the byte behind it. The definitions are rewritten by the tests on these bytes.
use Prim.Native.Nat.{ℕ, zero, suc, ◌+◌, ◌≤◌}
use mathlib.Core.Path.{◌≡◌, refl}
use mathlib.Core.Bool.{Bool, true, false, ◌&&◌}
use mathlib.Core.List.{List, [], ◌∷◌}
use mathlib.Core.Option.{Option, none, some}
use native.Mathlib.Omega.{arith}
use lib.Dec.{eqb, leb}
use lib.ListN.{length, drop}
use borrow.Author.Tests.{lt-leb, leb-true, eqb-true, ne_eqb}
use Rattle.card.specs.Limits.{number_digits, further_digits}
use Rattle.card.specs.Text.{bytes, when◌then◌else◌}
use Rattle.marks_on_a_card.specs.Bytes.{within, is_digit, is_letter, in_word, is_blank, is_sign, one_of, not_lf, run, begins, every}
use Rattle.marks_on_a_card.specs.Digits.{value_from, number_spelt, pointed}
use Rattle.marks_on_a_card.specs.Marks.{text, number, decimal, outside, second, Start, mark, word, decimal_mark, numeral_mark, numeral, sign1, sign2, sign, start_at, gap_of, marks}
use Rattle.marks_on_a_card.specs.Kinds.{knowns, kind_in}
use Rattle.marks_on_a_card.proofs.Lists.{cases, not_both, and_left, and_right, or_true}
use Rattle.marks_on_a_card.proofs.Runs.{run_length}

-- ---- words

pub digit_in_word : (b : ℕ) → is_digit b ≡ true → in_word b ≡ true
digit_in_word b e = rw e

pub letter_in_word : (b : ℕ) → is_letter b ≡ true → in_word b ≡ true
letter_in_word b e = cases (is_digit b) (λ d. rw d) (λ d. rw (d, e))

-- ---- signs

-- what holds of each of some bytes
pub among : (f : ℕ → Bool) (s : List ℕ) (b : ℕ) → every f s ≡ true → one_of s b ≡ true → f b ≡ true
among f [] b e o = not_both false o refl
among f (a ∷ s) b e o = or_true (eqb b a) (one_of s b) o
    (λ q. rw (eqb-true b a q) (and_left (f a) (every f s) e))
    (λ q. among f s b (and_right (f a) (every f s) e) q)

kinds_right : ℕ → Bool
kinds_right b = eqb (kind_in knowns (b ∷ [])) b

pub sign_kind : (b : ℕ) → is_sign b ≡ true → kind_in knowns (b ∷ []) ≡ b
unfolding kinds_right
sign_kind b e = eqb-true (kind_in knowns (b ∷ [])) b (among kinds_right (bytes "[]:;=!&|()+',/") b refl e)

pub no_second : (a : ℕ) → (a ≡ 33 → ⊥) → (a ≡ 46 → ⊥) → (a ≡ 45 → ⊥) → second a ≡ none
no_second a x y z = rw (ne_eqb a 46 y, ne_eqb a 45 z, ne_eqb a 33 x)

pub sign_second : (a : ℕ) → (a ≡ 33 → ⊥) → is_sign a ≡ true → second a ≡ none
sign_second a x e = no_second a x (λ q. not_both (is_sign a) e (rw q)) (λ q. not_both (is_sign a) e (rw q))

-- ---- what starts at a byte

pub not_blank : (b : ℕ) → 33 ≤ b → is_blank b ≡ false
not_blank b h = rw (ne_eqb b 32 (λ q. omega arith), ne_eqb b 9 (λ q. omega arith), ne_eqb b 13 (λ q. omega arith), ne_eqb b 10 (λ q. omega arith))

letter_high : (b : ℕ) → is_letter b ≡ true → 65 ≤ b
letter_high b e = or_true (within 65 90 b) (within 97 122 b) e
    (λ q. leb-true 65 b (and_left (leb 65 b) (leb b 90) q))
    (λ q. omega (arith, leb-true 97 b (and_left (leb 97 b) (leb b 122) q)))

pub letter_starts : (b : ℕ) (s : List ℕ) → is_letter b ≡ true → start_at b s ≡ word b s
letter_starts b s e = rw (not_blank b (omega (arith, letter_high b e)), ne_eqb b 47 (λ q. omega (arith, letter_high b e)), e)

pub digit_starts : (b : ℕ) (s : List ℕ) → is_digit b ≡ true → start_at b s ≡ numeral b s
digit_starts b s e =
    let low : 48 ≤ b = leb-true 48 b (and_left (leb 48 b) (leb b 57) e) in
    let high : b ≤ 57 = leb-true b 57 (and_right (leb 48 b) (leb b 57) e) in
    rw (not_blank b (omega arith), ne_eqb b 47 (λ q. omega arith), lt-leb 65 b (omega arith), lt-leb 97 b (omega arith), e)

-- a mark starts at each byte that is neither blank nor begins a comment
gap_pick : (t : Bool) (x y : Start) → gap_of x ≡ 0 → gap_of y ≡ 0 → gap_of (when t then x else y) ≡ 0
gap_pick true x y p q = p
gap_pick false x y p q = q

numeral_gap : (o : Option ℕ) (more : ℕ) (z : List ℕ) → gap_of (numeral_mark o more z) ≡ 0
numeral_gap none more z = refl
numeral_gap (some v) more z =
    let f = run is_digit (drop 1 z) in
    gap_pick (pointed z) (decimal_mark v more f) (mark (number v) more)
    (gap_pick (leb (length f) further_digits) (mark (decimal v (length f) (value_from 0 f)) (more + 1 + length f)) (mark outside 0) refl refl) refl

sign_gap : (a : ℕ) (o : Option ℕ) (s : List ℕ) → gap_of (sign2 a o s) ≡ 0
sign_gap a none s = gap_pick (is_sign a) (mark (text (a ∷ [])) 0) (mark outside 0) refl refl
sign_gap a (some b) s =
    gap_pick (begins (eqb b) s) (mark (text (a ∷ b ∷ [])) 1) (sign1 a) refl (gap_pick (is_sign a) (mark (text (a ∷ [])) 0) (mark outside 0) refl refl)

mark_gap : (b : ℕ) (s : List ℕ) → gap_of (when is_letter b then word b s else (when is_digit b then numeral b s else sign b s)) ≡ 0
mark_gap b s =
    gap_pick (is_letter b) (word b s) (when is_digit b then numeral b s else sign b s) refl
    (gap_pick (is_digit b) (numeral b s) (sign b s)
    (numeral_gap (number_spelt number_digits (b ∷ run is_digit s)) (length (run is_digit s)) (drop (length (run is_digit s)) s))
    (sign_gap b (second b) s))

module _ (b : ℕ) (s : List ℕ) where
  pub gap_blank : is_blank b ≡ true → gap_of (start_at b s) ≡ 1
  gap_blank e = rw e

  pub gap_none : is_blank b ≡ false → (eqb b 47 && begins (eqb 47) s) ≡ false → gap_of (start_at b s) ≡ 0
  gap_none e c = rw (e, c) (mark_gap b s)

  pub sign_starts : is_letter b ≡ false → is_digit b ≡ false → gap_of (start_at b s) ≡ 0 → start_at b s ≡ sign b s
  sign_starts l d g = cases (is_blank b)
      (λ e. absurd (omega (arith, rw e at g)))
      (λ e. cases (eqb b 47 && begins (eqb 47) s)
      (λ c. absurd (omega (arith, rw (e, c) at g)))
      (λ c. rw (e, c, l, d)))

  -- a blank or a comment lies within the text
  pub gap_fits : gap_of (start_at b s) ≤ suc (length s)
  gap_fits = cases (is_blank b)
      (λ e. rw e (omega arith))
      (λ e. cases (eqb b 47 && begins (eqb 47) s)
      (λ c. rw (e, c) (omega (arith, run_length not_lf s)))
      (λ c. rw (gap_none e c) (omega arith)))

-- ---- skipped bytes are dropped

pub marks_skip : (e k : ℕ) (s : List ℕ) → marks e k s ≡ marks e 0 (drop k s)
marks_skip e zero s = refl
marks_skip e (suc k) [] = refl
marks_skip e (suc k) (b ∷ s) = marks_skip e k s
