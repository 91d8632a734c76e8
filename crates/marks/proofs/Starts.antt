-- What a step finds at a place: each way through the code has the law that gives the definition's answer there. The definitions are
-- rewritten by the tests that the code has made.
use Prim.Native.Nat.{ℕ, zero, suc, ◌+◌, ◌-◌, ◌≤◌, ◌<◌}
use mathlib.Core.Path.{◌≡◌, refl, sym, ap, ap₂, ◌∙◌}
use mathlib.Core.Bool.{true, false, not, ◌||◌}
use mathlib.Core.List.{List, [], ◌∷◌}
use mathlib.Core.Option.{none, some}
use native.Mathlib.Nat.{add-zero, zero-add}
use native.Mathlib.Omega.{arith}
use lib.Dec.{eqb}
use lib.ListN.{length, get_or, drop, length-drop, drop_of_length-le}
use lib.Seq.{drop-drop}
use borrow.Author.Tests.{le-leb, lt-leb, not-true}
use Rattle.card.specs.Limits.{number_digits, further_digits}
use Rattle.card.specs.Text.{bytes}
use Rattle.marks_on_a_card.specs.Bytes.{is_digit, is_letter, in_word, is_sign, run, begins, is_alone, in_number}
use Rattle.marks_on_a_card.specs.Digits.{value_from, plain, number_spelt, pointed, held_digits, Counted}
use Rattle.marks_on_a_card.specs.Marks.{Mark, text, number, decimal, outside, second, Start, blank, mark, word_mark, word, numeral_mark, numeral, sign1, sign, start_at, gap_of}
use Rattle.marks.specs.Step.{step_to, step_end, stepped, step_from, step_at}
use Rattle.marks_on_a_card.specs.declared.Digits.{Digits}
use Rattle.marks.specs.declared.Step.{Step}
use Rattle.marks_on_a_card.proofs.Lists.{not_both, and_left, or_left, or_right, drop_at}
use Rattle.marks_on_a_card.proofs.Runs.{run_on, run_empty}
use Rattle.marks_on_a_card.proofs.StartLaws.{letter_in_word, among, sign_second, sign_starts}
use Rattle.marks_on_a_card.proofs.Numbers.{one_digit, plain_short}

-- ---- numbers and decimals

module _ (s : List ℕ) (i : ℕ) (h : i < length s) (d : is_digit (get_or s i 0) ≡ true) (k : ℕ → Step) where
  -- the definition in terms of the whole run of digits
  whole : numeral (get_or s i 0) (drop (i + 1) s) ≡ numeral_mark (number_spelt number_digits (run is_digit (drop i s))) (length (run is_digit (drop (i + 1) s))) (drop (i + length (run is_digit (drop i s))) s)
  whole =
      let n : length (run is_digit (drop i s)) ≡ suc (length (run is_digit (drop (i + 1) s))) = ap length (run_on is_digit s i h d) in
      let m : i + length (run is_digit (drop i s)) ≡ i + 1 + length (run is_digit (drop (i + 1) s)) = omega arith in
      rw (m, run_on is_digit s i h d, drop-drop)

  pub numeral_outside : plain number_digits (run is_digit (drop i s)) ≡ false → stepped i (numeral (get_or s i 0) (drop (i + 1) s)) k ≡ step_to outside i (i + 1)
  numeral_outside e = rw (whole, e, add-zero)

  behind : i + 1 + length (run is_digit (drop (i + 1) s)) ≡ i + length (run is_digit (drop i s))
  behind = omega (arith, ap length (run_on is_digit s i h d))

  numeral_number : plain number_digits (run is_digit (drop i s)) ≡ true → pointed (drop (i + length (run is_digit (drop i s))) s) ≡ false → stepped i (numeral (get_or s i 0) (drop (i + 1) s)) k ≡ step_to (number (value_from 0 (run is_digit (drop i s)))) i (i + length (run is_digit (drop i s)))
  numeral_number e p = rw (whole, e, p, behind)

  module _ (e : plain number_digits (run is_digit (drop i s)) ≡ true) (p : pointed (drop (i + length (run is_digit (drop i s))) s) ≡ true) where
    further : drop 1 (drop (i + length (run is_digit (drop i s))) s) ≡ drop (i + length (run is_digit (drop i s)) + 1) s
    further = drop-drop 1 (i + length (run is_digit (drop i s))) s

    numeral_long : further_digits < length (run is_digit (drop (i + length (run is_digit (drop i s)) + 1) s)) → stepped i (numeral (get_or s i 0) (drop (i + 1) s)) k ≡ step_to outside i (i + 1)
    numeral_long l = rw (whole, e, p, further, lt-leb _ _ l, add-zero)

    numeral_decimal : (f : List ℕ) → f ≡ run is_digit (drop (i + length (run is_digit (drop i s)) + 1) s) → length f ≤ further_digits
        → stepped i (numeral (get_or s i 0) (drop (i + 1) s)) k ≡ step_to (decimal (value_from 0 (run is_digit (drop i s))) (length f) (value_from 0 f)) i (i + length (run is_digit (drop i s)) + 1 + length f)
    numeral_decimal f q l =
        let z : i + 1 + (length (run is_digit (drop (i + 1) s)) + 1 + length f) ≡ i + length (run is_digit (drop i s)) + 1 + length f = omega (arith, behind) in
        rw (whole, e, p, further, ← q, le-leb (length f) further_digits l, z)

  -- the same, for the digits as the code has counted them
  module _ (a : Digits) (counted : Counted (drop i s) a) where
    at_count : {A : Type 0} (f : ℕ → A) → f a.count ≡ f (length (run is_digit (drop i s)))
    at_count f = ap f counted.count_is

    pub read_number : plain number_digits (run is_digit (drop i s)) ≡ true → pointed (drop (i + a.count) s) ≡ false → stepped i (numeral (get_or s i 0) (drop (i + 1) s)) k ≡ step_to (number a.value) i (i + a.count)
    read_number e p =
        let held : length (run is_digit (drop i s)) ≤ held_digits = omega (arith, plain_short number_digits (run is_digit (drop i s)) e) in
        numeral_number e (sym (at_count (λ n. pointed (drop (i + n) s))) ∙ p) ∙ sym (ap₂ (λ v n. step_to (number v) i (i + n)) (counted.value_is held) counted.count_is)

    module _ (f : Digits) (more : Counted (drop (i + a.count + 1) s) f) (e : plain number_digits (run is_digit (drop i s)) ≡ true) (p : pointed (drop (i + a.count) s) ≡ true) where
      point : pointed (drop (i + length (run is_digit (drop i s))) s) ≡ true
      point = sym (at_count (λ n. pointed (drop (i + n) s))) ∙ p

      rest : run is_digit (drop (i + a.count + 1) s) ≡ run is_digit (drop (i + length (run is_digit (drop i s)) + 1) s)
      rest = at_count (λ n. run is_digit (drop (i + n + 1) s))

      pub read_long : further_digits < f.count → stepped i (numeral (get_or s i 0) (drop (i + 1) s)) k ≡ step_to outside i (i + 1)
      read_long l = numeral_long e point (omega (arith, more.count_is ∙ ap length rest))

      pub read_decimal : f.count ≤ further_digits → stepped i (numeral (get_or s i 0) (drop (i + 1) s)) k ≡ step_to (decimal a.value f.count f.value) i (i + a.count + 1 + f.count)
      read_decimal l =
          let d = run is_digit (drop (i + a.count + 1) s) in
          let held : length (run is_digit (drop i s)) ≤ held_digits = omega (arith, plain_short number_digits (run is_digit (drop i s)) e) in
          let short : length d ≤ further_digits = omega (arith, more.count_is) in
          let kept : length d ≤ held_digits = omega arith in
          numeral_decimal e point d rest short
          ∙ sym (ap₂ (λ v n. step_to (decimal v f.count f.value) i (i + n + 1 + f.count)) (counted.value_is held) counted.count_is
          ∙ ap₂ (λ v n. step_to (decimal (value_from 0 (run is_digit (drop i s))) n v) i (i + length (run is_digit (drop i s)) + 1 + n)) (more.value_is kept) more.count_is)

-- one digit, and the number ends
not_pointed : (s : List ℕ) → begins in_number s ≡ false → (begins is_digit s ≡ false) × (pointed s ≡ false)
not_pointed [] e = (refl, refl)
not_pointed (a ∷ s) e = (or_left (is_digit a) (eqb a 46) e, rw (or_right (is_digit a) (eqb a 46) e))

pub numeral_single : (b : ℕ) (s : List ℕ) (i : ℕ) (k : ℕ → Step) → is_digit b ≡ true → begins in_number s ≡ false → stepped i (numeral b s) k ≡ step_to (number (b - 48)) i (i + 1)
numeral_single b s i k d e =
    let t : run is_digit s ≡ [] = run_empty is_digit s (not_pointed s e).0 in
    let y : plain number_digits (b ∷ []) ≡ true = one_digit number_digits (b ∷ []) (rw d) refl (omega arith) in
    rw (t, y, (not_pointed s e).1, zero-add, add-zero)

-- ---- words

-- a word and its kind
module _ (s : List ℕ) (i : ℕ) (h : i < length s) (l : is_letter (get_or s i 0) ≡ true) (k : ℕ → Step) where
  word_run : run in_word (drop i s) ≡ get_or s i 0 ∷ run in_word (drop (i + 1) s)
  word_run = run_on in_word s i h (letter_in_word (get_or s i 0) l)

  word_size : i + 1 + length (run in_word (drop (i + 1) s)) ≡ i + length (run in_word (drop i s))
  word_size = omega (arith, ap length word_run)

  pub word_step : (m : Mark) → word_mark (run in_word (drop i s)) ≡ m → stepped i (word (get_or s i 0) (drop (i + 1) s)) k ≡ step_to m i (i + length (run in_word (drop i s)))
  word_step m e = rw (← e, word_run, word_size, word_run)

-- ---- signs

module _ (a : ℕ) (s : List ℕ) (i : ℕ) (k : ℕ → Step) where
  pub sign_two : (b : ℕ) → second a ≡ some b → begins (eqb b) s ≡ true → stepped i (sign a s) k ≡ step_to (text (a ∷ b ∷ [])) i (i + 1 + 1)
  sign_two b e q = rw (e, q)

  -- where no second byte follows
  pub sign_alone : (b : ℕ) → second a ≡ some b → begins (eqb b) s ≡ false → sign a s ≡ sign1 a
  sign_alone b e q = rw (e, q)

  pub sign_single : second a ≡ none → sign a s ≡ sign1 a
  sign_single e = rw e

  pub sign_one : sign a s ≡ sign1 a → is_sign a ≡ true → stepped i (sign a s) k ≡ step_to (text (a ∷ [])) i (i + 1)
  sign_one e y = rw (e, y, add-zero)

  pub sign_none : sign a s ≡ sign1 a → is_sign a ≡ false → stepped i (sign a s) k ≡ step_to outside i (i + 1)
  sign_none e n = rw (e, n, add-zero)

-- a sign that begins no other mark
module _ (b : ℕ) (s : List ℕ) where
  pub alone_step : (i : ℕ) (k : ℕ → Step) → is_alone b ≡ true → gap_of (start_at b s) ≡ 0 → stepped i (start_at b s) k ≡ step_to (text (b ∷ [])) i (i + 1)
  alone_step i k e g =
      let y : is_sign b ≡ true = and_left (is_sign b) (not (eqb b 33 || eqb b 47)) e in
      let l : is_letter b ≡ false = not-true (is_letter b) (among (λ a. not (is_letter a)) (bytes "[]:;=!&|()+',/") b refl y) in
      let d : is_digit b ≡ false = not-true (is_digit b) (among (λ a. not (is_digit a)) (bytes "[]:;=!&|()+',/") b refl y) in
      let x : (b ≡ 33 → ⊥) = λ q. not_both (is_alone b) e (rw q) in
      rw (sign_starts b s l d g) (sign_one b s i k (sign_single b s i k (sign_second b x y)) y)

-- ---- a step

skipped : (e k : ℕ) (s : List ℕ) → step_from e k s ≡ step_from e 0 (drop k s)
unfolding step_from
skipped e zero s = refl
skipped e (suc k) [] = refl
skipped e (suc k) (b ∷ s) = skipped e k s

pub step_end_law : (s : List ℕ) (i : ℕ) → length s ≤ i → step_at s i ≡ step_end (length s)
unfolding step_from
step_end_law s i h = rw (drop_of_length-le s h)

module _ (s : List ℕ) (i : ℕ) (h : i < length s) where
  pub step_at_law : step_at s i ≡ stepped i (start_at (get_or s i 0) (drop (i + 1) s)) (λ more. step_from (length s) more (drop (i + 1) s))
  unfolding step_from
  step_at_law =
      let p : length s - suc (length (drop (i + 1) s)) ≡ i = omega (arith, length-drop (i + 1) s) in
      rw (drop_at s i h, p)

  pub step_mark : (x : Start) (r : Step) → start_at (get_or s i 0) (drop (i + 1) s) ≡ x → ((k : ℕ → Step) → r ≡ stepped i x k) → r ≡ step_at s i
  step_mark x r e f = f (λ more. step_from (length s) more (drop (i + 1) s)) ∙ sym (rw (← e) step_at_law)

  -- past a blank or a comment
  pub step_gap : (gap_of (start_at (get_or s i 0) (drop (i + 1) s)) ≡ 0 → ⊥) → step_at s i ≡ step_at s (i + gap_of (start_at (get_or s i 0) (drop (i + 1) s)))
  step_gap g = step_at_law ∙ go (start_at (get_or s i 0) (drop (i + 1) s)) g
    where
      go : (x : Start) → (gap_of x ≡ 0 → ⊥) → stepped i x (λ more. step_from (length s) more (drop (i + 1) s)) ≡ step_at s (i + gap_of x)
      go (blank more) g =
          let n : i + suc more ≡ i + 1 + more = omega arith in
          skipped (length s) more (drop (i + 1) s) ∙ ap (λ (x : List ℕ). step_from (length s) 0 x) (drop-drop more (i + 1) s ∙ ap (λ (j : ℕ). drop j s) (sym n))
      go (mark m more) g = absurd (g refl)
