-- Runs of digits: when they are a number, and that the value kept while they are read is theirs, as long as they are few enough to be held.
use Prim.Native.Nat.{ℕ, suc, ◌+◌, ◌-◌, ◌*◌, ◌^◌, ◌≤◌, ◌<◌}
use mathlib.Core.Path.{◌≡◌, refl, ap, ◌∙◌}
use mathlib.Core.Bool.{true, false, not, ◌&&◌, ◌||◌, or-true, or-false, and-true}
use mathlib.Core.List.{List, [], ◌∷◌}
use native.Mathlib.Decide.{dec_lt}
use native.Mathlib.Nat.{pow-suc, pow-le-pow_right}
use native.Mathlib.Omega.{arith}
use lib.Dec.{eqb, leb, ltb}
use lib.ListN.{length, get_or, drop, drop_of_length-le}
use borrow.Author.Tests.{le-leb, leb-true, ltb-false}
use Rattle.card.specs.Text.{same}
use Rattle.marks_on_a_card.specs.Bytes.{is_digit, run, begins, every, run_end}
use Rattle.marks_on_a_card.specs.Digits.{value_from, plain, pointed, held_digits, grown_by}
use Rattle.marks_on_a_card.proofs.Lists.{cases, not_both, and_left, and_right, drop_at}
use Rattle.marks_on_a_card.proofs.Runs.{run_on, run_passes, run_first, end_on, eqb_sym}

-- ---- when digits are a number

pub one_digit : (most : ℕ) (ds : List ℕ) → every is_digit ds ≡ true → length ds ≡ 1 → 1 ≤ most → plain most ds ≡ true
one_digit most [] e n h = absurd (omega arith)
one_digit most (b ∷ []) e n h = rw (e, le-leb 1 most h, or-true (not (eqb b 48)))
one_digit most (b ∷ c ∷ ds) e n h = absurd (omega arith)

more_digits : (most : ℕ) (ds : List ℕ) → every is_digit ds ≡ true → 1 < length ds → length ds ≤ most → plain most ds ≡ not (eqb (get_or ds 0 0) 48)
more_digits most [] e n h = absurd (omega arith)
more_digits most (b ∷ []) e n h = absurd (omega arith)
more_digits most (b ∷ c ∷ ds) e n h = rw (e, le-leb (length (b ∷ c ∷ ds)) most h, or-false (not (eqb b 48))) (and-true _)

module _ (most : ℕ) (s : List ℕ) where
  pub plain_one : length (run is_digit s) ≡ 1 → 1 ≤ most → plain most (run is_digit s) ≡ true
  plain_one n h = one_digit most (run is_digit s) (run_passes is_digit s) n h

  pub plain_more : 1 < length (run is_digit s) → length (run is_digit s) ≤ most → plain most (run is_digit s) ≡ not (eqb (get_or s 0 0) 48)
  plain_more n h = more_digits most (run is_digit s) (run_passes is_digit s) n h ∙ ap (λ (b : ℕ). not (eqb b 48)) (run_first is_digit s (omega arith))

-- a number has so many digits at most, and one at least
pub plain_short : (most : ℕ) (ds : List ℕ) → plain most ds ≡ true → length ds ≤ most
plain_short most [] e = omega arith
plain_short most (b ∷ ds) e = leb-true (length (b ∷ ds)) most (and_right (every is_digit (b ∷ ds) && (not (eqb b 48) || same ds [])) (leb (length (b ∷ ds)) most) e)

pub plain_digits : (most : ℕ) (ds : List ℕ) → plain most ds ≡ true → (every is_digit ds ≡ true) × (0 < length ds)
plain_digits most [] e = not_both false e refl
plain_digits most (b ∷ ds) e =
    let f = and_left (every is_digit (b ∷ ds) && (not (eqb b 48) || same ds [])) (leb (length (b ∷ ds)) most) e in
    (and_left (every is_digit (b ∷ ds)) (not (eqb b 48) || same ds []) f, omega arith)

-- ---- a point and a digit

pub pointed_at : (s : List ℕ) (i : ℕ) → pointed (drop i s) ≡ (begins (eqb 46) (drop i s) && begins is_digit (drop (i + 1) s))
pointed_at s i = go (dec_lt i (length s))
  where
    go : Dec (i < length s) → pointed (drop i s) ≡ (begins (eqb 46) (drop i s) && begins is_digit (drop (i + 1) s))
    go (yes h) = rw (drop_at s i h, eqb_sym (get_or s i 0) 46)
    go (no h) = let l : length s ≤ i = omega arith in rw (drop_of_length-le s l)

-- ---- the value kept: that of the digits read, if they are held

pub record Held (s : List ℕ) (from i value : ℕ) : Type 0 where
  pub begun : from ≤ i
  pub ends : run_end is_digit s from ≡ run_end is_digit s i
  pub small : i - from ≤ held_digits → value < 10 ^ (i - from)
  pub value_is : i - from ≤ held_digits → value_from 0 (run is_digit (drop from s)) ≡ value_from value (run is_digit (drop i s))

module _ (s : List ℕ) (from i value : ℕ) (h : i < length s) (d : is_digit (get_or s i 0) ≡ true) (held : Held s from i value) where
  next : i + 1 - from ≡ suc (i - from)
  next = omega (arith, held.begun)

  held_more : Held s from (i + 1) (value * 10 + (get_or s i 0 - 48))
  held_more = record {
    begun = omega (arith, held.begun);
    ends = held.ends ∙ end_on is_digit s i h d;
    small = λ l. rw (next, pow-suc 10 (i - from)) (omega (arith, held.small (omega (arith, next)), leb-true (get_or s i 0) 57 (and_right (leb 48 (get_or s i 0)) (leb (get_or s i 0) 57) d)));
    value_is = λ l. held.value_is (omega (arith, next)) ∙ ap (value_from value) (run_on is_digit s i h d);
  }

  held_full : 10 ^ held_digits ≤ value → Held s from (i + 1) value
  held_full f =
      let full : i + 1 - from ≤ held_digits → ⊥ = λ l. omega (arith, held.small (omega (arith, next)), pow-le-pow_right {n = 10} (omega arith) {i = i - from} {j = held_digits} (omega (arith, next))) in
      record {
        begun = omega (arith, held.begun);
        ends = held.ends ∙ end_on is_digit s i h d;
        small = λ l. absurd (full l);
        value_is = λ l. absurd (full l);
      }

  pub held_next : Held s from (i + 1) (grown_by value (get_or s i 0))
  held_next = cases (ltb value (10 ^ held_digits)) (λ e. rw e held_more) (λ e. rw e (held_full (ltb-false value (10 ^ held_digits) e)))
