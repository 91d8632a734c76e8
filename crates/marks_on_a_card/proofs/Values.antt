-- The numbers in marks are small: a number of so many digits is below that power of 10.
use Prim.Native.Nat.{ℕ, suc, ◌+◌, ◌-◌, ◌*◌, ◌^◌, ◌≤◌, ◌<◌}
use mathlib.Core.Path.{◌≡◌, refl}
use mathlib.Core.Bool.{Bool, true, false, ◌&&◌}
use mathlib.Core.List.{List, [], ◌∷◌}
use mathlib.Core.Option.{Option, none, some}
use native.Mathlib.Nat.{pow-suc, pow-le-pow_right, mul-le-mul_right, mul_assoc}
use native.Mathlib.Omega.{arith}
use borrow.Author.Tests.{leb-true}
use lib.Dec.{eqb, leb}
use lib.ListN.{length, drop}
use Rattle.card.specs.Limits.{number_digits, further_digits, word_digits}
use Rattle.card.specs.Text.{bytes, when◌then◌else◌}
use Rattle.marks_on_a_card.specs.Bytes.{is_digit, is_letter, is_blank, is_sign, in_word, run, begins, every, after}
use Rattle.marks_on_a_card.specs.Digits.{value_from, plain, number_spelt, pointed}
use Rattle.marks_on_a_card.proofs.Lists.{and_left, and_right}
use Rattle.marks_on_a_card.proofs.Runs.{run_passes}
use Rattle.marks_on_a_card.proofs.Numbers.{plain_short, plain_digits}
use Rattle.marks_on_a_card.specs.Marks.{Mark, text, seat, process, number, decimal, outside, second, Start, blank, mark, made, numbered, word, decimal_mark, numeral_mark, numeral, sign1, sign2, sign, comment, start_at}

-- the numbers in a mark have so many digits at most
abbrev pub Small : Mark → Type 0
Small (text s) = Unit {0}
Small (seat i) = i < 10 ^ word_digits
Small (process i) = i < 10 ^ word_digits
Small (number v) = v < 10 ^ number_digits
Small (decimal v n f) = (v < 10 ^ number_digits) × (n ≤ further_digits) × (f < 10 ^ n)
Small outside = Unit {0}

value_below : (v : ℕ) (s : List ℕ) → every is_digit s ≡ true → value_from v s < suc v * 10 ^ length s
value_below v [] e = omega arith
value_below v (b ∷ s) e =
    let next = value_below (v * 10 + (b - 48)) s (and_right (is_digit b) (every is_digit s) e) in
    let hi = and_right (leb 48 b) (leb b 57) (and_left (is_digit b) (every is_digit s) e) in
    let top : suc (v * 10 + (b - 48)) ≤ suc v * 10 = omega (arith, leb-true b 57 hi) in
    let grown = mul-le-mul_right (10 ^ length s) top in
    let power : suc v * 10 * 10 ^ length s ≡ suc v * (10 * 10 ^ length s) = mul_assoc (suc v) 10 (10 ^ length s) in
    let last : 10 ^ suc (length s) ≡ 10 * 10 ^ length s = omega (arith, pow-suc 10 (length s)) in
    rw last (omega (arith, next, grown, power))

plain_below : (most : ℕ) (s : List ℕ) → plain most s ≡ true → value_from 0 s < 10 ^ most
plain_below most s e = omega (arith, value_below 0 s (plain_digits most s e).0, pow-le-pow_right {n = 10} (omega arith) (plain_short most s e))

number_below : (most : ℕ) (s : List ℕ) (v : ℕ) → number_spelt most s ≡ some v → v < 10 ^ most
number_below most s v e = go (plain most s) refl e
  where
    go : (b : Bool) → plain most s ≡ b → (when b then some (value_from 0 s) else none) ≡ some v → v < 10 ^ most
    go true q e = let z : value_from 0 s ≡ v = cc in rw (← z) (plain_below most s q)
    go false q e = let z : ◌≡◌ {A = ℕ} 0 1 = cc in absurd (omega arith)

-- ---- whatever starts at a byte

abbrev pub SmallStart : Start → Type 0
SmallStart (blank more) = Unit {0}
SmallStart (mark m more) = Small m

choose : (b : Bool) (x y : Start) → SmallStart x → SmallStart y → SmallStart (when b then x else y)
choose true x y p q = p
choose false x y p q = q

numbered_small : (f : ℕ → Mark) → ((v : ℕ) → v < 10 ^ word_digits → Small (f v)) → (o : Option (List ℕ)) (other : Mark) → Small other → Small (numbered f o other)
numbered_small f h none other k = k
numbered_small f h (some s) other k = go (number_spelt word_digits s) refl
  where
    go : (o : Option ℕ) → number_spelt word_digits s ≡ o → Small (made f o other)
    go none e = k
    go (some v) e = h v (number_below word_digits s v e)

decimal_small : (v more : ℕ) (f : List ℕ) → v < 10 ^ number_digits → every is_digit f ≡ true → SmallStart (decimal_mark v more f)
decimal_small v more f h d = go (leb (length f) further_digits) refl
  where
    go : (b : Bool) → leb (length f) further_digits ≡ b → SmallStart (when b then mark (decimal v (length f) (value_from 0 f)) (more + 1 + length f) else mark outside 0)
    go true e = (h, leb-true (length f) further_digits e, omega (arith, value_below 0 f d))
    go false e = tt

numeral_small : (more : ℕ) (z : List ℕ) (o : Option ℕ) → ((v : ℕ) → o ≡ some v → v < 10 ^ number_digits) → SmallStart (numeral_mark o more z)
numeral_small more z none h = tt
numeral_small more z (some v) h =
    choose (pointed z) (decimal_mark v more (run is_digit (drop 1 z))) (mark (number v) more) (decimal_small v more (run is_digit (drop 1 z)) (h v refl) (run_passes is_digit (drop 1 z))) (h v refl)

sign_small : (a : ℕ) (s : List ℕ) → SmallStart (sign a s)
sign_small a s = two (second a)
  where
    one : SmallStart (sign1 a)
    one = choose (is_sign a) (mark (text (a ∷ [])) 0) (mark outside 0) tt tt

    two : (o : Option ℕ) → SmallStart (sign2 a o s)
    two none = one
    two (some b) = choose (begins (eqb b) s) (mark (text (a ∷ b ∷ [])) 1) (sign1 a) tt one

pub start_small : (b : ℕ) (s : List ℕ) → SmallStart (start_at b s)
start_small b s =
    choose (is_blank b) (blank 0) _ tt
    (choose (eqb b 47 && begins (eqb 47) s) (comment s) _ tt
    (choose (is_letter b) (word b s) _
    (let w = b ∷ run in_word s in
    numbered_small seat (λ v h. h) (after (bytes "s") w) (numbered process (after (bytes "process") w) (text w))
    (numbered_small process (λ v h. h) (after (bytes "process") w) (text w) tt))
    (choose (is_digit b) (numeral b s) (sign b s)
    (numeral_small (length (run is_digit s)) (drop (length (run is_digit s)) s) (number_spelt number_digits (b ∷ run is_digit s)) (number_below number_digits (b ∷ run is_digit s)))
    (sign_small b s))))
