-- Numbers and words, once written, are the marks they were written for: a run of digits or letters ends where the next text begins.
use Prim.Native.Nat.{ℕ, zero, suc, ◌-◌, ◌^◌, ◌≤◌, ◌<◌}
use mathlib.Core.Path.{◌≡◌, refl, ap}
use mathlib.Core.Bool.{Bool, true, false, not, ◌&&◌, ◌||◌, false≢true}
use mathlib.Core.List.{List, [], ◌∷◌, ◌++◌}
use mathlib.Core.Option.{some}
use native.Mathlib.Omega.{arith}
use borrow.Author.Tests.{le-leb, lt-leb, ne_eqb, leb-true}
use lib.Dec.{eqb, leb}
use lib.ListN.{length, get_or}
use lib.Seq.{drop-append_seam}
use Rattle.card.specs.Limits.{number_digits, word_digits}
use Rattle.card.specs.Text.{same}
use Rattle.marks_on_a_card.specs.Bytes.{is_digit, in_word, run, begins, every}
use Rattle.marks_on_a_card.specs.Digits.{value_from, plain, number_spelt, pointed}
use Rattle.marks_on_a_card.specs.Marks.{seat, process, number, Placed, placed, start_at, numeral, marks}
use Rattle.room.specs.Digits.{decimal, AllDigits}
use Rattle.room.proofs.Decimal.{decimal_digits, decimal_some, decimal_front, decimal_length, decimal_read}
use Rattle.phrases.specs.Phrases.{◌▸◌, num}

-- ---- digits

every_digit : (s : List ℕ) → AllDigits s → every is_digit s ≡ true
every_digit [] d = refl
every_digit (b ∷ s) d = rw (le-leb 48 b d.0, le-leb b 57 d.1) (every_digit s d.2)

one_alone : (s : List ℕ) → length s ≡ 0 → same s [] ≡ true
one_alone [] e = refl
one_alone (b ∷ s) e = absurd (omega arith)

-- a list of digits, with no zero in front of others, of so many at most
plain_of : (most : ℕ) (s : List ℕ) → AllDigits s → 0 < length s → (1 < length s → 48 < get_or s 0 0) → length s ≤ most → plain most s ≡ true
plain_of most [] d h f l = absurd (omega arith)
plain_of most (b ∷ s) d h f l = rw (every_digit (b ∷ s) d, le-leb (length (b ∷ s)) most l) (front (length s) refl)
  where
    or_true : (a : Bool) → (a || true) ≡ true
    or_true true = refl
    or_true false = refl

    front : (n : ℕ) → length s ≡ n → ((not (eqb b 48) || same s []) && true) ≡ true
    front zero e = rw (one_alone s e, or_true (not (eqb b 48)))
    front (suc n) e = rw (ne_eqb b 48 (λ z. omega (arith, f (omega arith))))

module _ (most v : ℕ) (some-digit : 0 < most) (small : v < 10 ^ most) where
  plain_decimal : plain most (decimal v) ≡ true
  plain_decimal = plain_of most (decimal v) (decimal_digits v) (decimal_some v) (front v) (length_of most some-digit small)
    where
      length_of : (most : ℕ) → 0 < most → v < 10 ^ most → length (decimal v) ≤ most
      length_of zero h l = absurd (omega arith)
      length_of (suc k) h l = decimal_length k v l

      front : (v : ℕ) → 1 < length (decimal v) → 48 < get_or (decimal v) 0 0
      front zero h = absurd (omega (arith, one_digit))
        where
          one_digit : length (decimal 0) ≤ 1
          one_digit = decimal_length 0 0 (omega arith)
      front (suc v) h = decimal_front (suc v) (omega arith)

  number_decimal : number_spelt most (decimal v) ≡ some v
  number_decimal = rw (plain_decimal, decimal_read value_from (λ v. refl) (λ v b s. refl) v)

-- ---- the scan

skip : (e : ℕ) (s r : List ℕ) → marks e (length s) (s ++ r) ≡ marks e 0 r
skip e [] r = refl
skip e (b ∷ s) r = skip e s r

and_true : (a b : Bool) → (a && b) ≡ true → (a ≡ true) × (b ≡ true)
and_true true b e = (refl, e)
and_true false b e = absurd (false≢true e)

run_all : (p : ℕ → Bool) (s r : List ℕ) → every p s ≡ true → begins p r ≡ false → run p (s ++ r) ≡ s
run_all p [] [] e f = refl
run_all p [] (b ∷ r) e f = rw f
run_all p (b ∷ s) r e f =
    let (x, y) = and_true (p b) (every p s) e in
    rw (x, run_all p s r y f)

in_word_law : (s : List ℕ) → every is_digit s ≡ true → every in_word s ≡ true
in_word_law [] e = refl
in_word_law (b ∷ s) e = let (x, y) = and_true (is_digit b) (every is_digit s) e in rw (x, in_word_law s y)

digit_starts : (b : ℕ) (s : List ℕ) → is_digit b ≡ true → start_at b s ≡ numeral b s
digit_starts b s e =
    let (x, y) = and_true (leb 48 b) (leb b 57) e in
    let l : 48 ≤ b = leb-true 48 b x in
    let u : b ≤ 57 = leb-true b 57 y in
    rw (ne_eqb b 32 (λ z. omega arith), ne_eqb b 9 (λ z. omega arith), ne_eqb b 13 (λ z. omega arith), ne_eqb b 10 (λ z. omega arith), ne_eqb b 47 (λ z. omega arith), lt-leb 65 b (omega arith), lt-leb 97 b (omega arith), x, y)

number_scanned : (e : ℕ) (l r : List ℕ) (v : ℕ) → every is_digit l ≡ true → number_spelt number_digits l ≡ some v → begins is_digit r ≡ false → pointed r ≡ false
    → marks e 0 (l ++ r) ≡ placed (number v) (e - length (l ++ r)) ∷ marks e 0 r
number_scanned e [] r v a n d p = let z : ◌≡◌ {A = ℕ} 0 1 = cc in absurd (omega arith)
number_scanned e (b ∷ s) r v a n d p =
    let (x, y) = and_true (is_digit b) (every is_digit s) a in
    rw (digit_starts b (s ++ r) x, run_all is_digit s r y d, n, drop-append_seam s r, p) (ap (λ (t : List Placed). placed (number v) (e - length (b ∷ (s ++ r))) ∷ t) (skip e s r))

-- ---- what may follow a number, and the marks

pub record Apart (r : List ℕ) : Type 0 where
  pub no_digit : begins is_digit r ≡ false
  pub no_point : pointed r ≡ false

pub number_mark : (e v : ℕ) (r : List ℕ) → v < 10 ^ number_digits → Apart r → marks e 0 (num v r) ≡ placed (number v) (e - length (num v r)) ∷ marks e 0 r
number_mark e v r h a = number_scanned e (decimal v) r v (every_digit (decimal v) (decimal_digits v)) (number_decimal number_digits v (omega arith) h) a.no_digit a.no_point

word_run : (v : ℕ) (r : List ℕ) → begins in_word r ≡ false → run in_word (decimal v ++ r) ≡ decimal v
word_run v r d = run_all in_word (decimal v) r (in_word_law (decimal v) (every_digit (decimal v) (decimal_digits v))) d

pub seat_mark : (e v : ℕ) (r : List ℕ) → v < 10 ^ word_digits → begins in_word r ≡ false → marks e 0 ("s" ▸ num v r) ≡ placed (seat v) (e - length ("s" ▸ num v r)) ∷ marks e 0 r
seat_mark e v r h d = rw (word_run v r d, number_decimal word_digits v (omega arith) h) (ap (λ (t : List Placed). placed (seat v) (e - length ("s" ▸ num v r)) ∷ t) (skip e (decimal v) r))

pub process_mark : (e v : ℕ) (r : List ℕ) → v < 10 ^ word_digits → begins in_word r ≡ false → marks e 0 ("process" ▸ num v r) ≡ placed (process v) (e - length ("process" ▸ num v r)) ∷ marks e 0 r
process_mark e v r h d = rw (word_run v r d, number_decimal word_digits v (omega arith) h) (ap (λ (t : List Placed). placed (process v) (e - length ("process" ▸ num v r)) ∷ t) (skip e (decimal v) r))
