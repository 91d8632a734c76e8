-- What a look answers, test by test, and what stands there if it found something.
use Prim.Native.Nat.{ℕ, ◌+◌, ◌-◌, ◌≤◌, ◌<◌}
use mathlib.Core.Path.{◌≡◌, refl, sym, ◌∙◌}
use mathlib.Core.Bool.{Bool, true, false, not, ◌&&◌, and-false}
use mathlib.Core.List.{List, [], ◌∷◌}
use native.Mathlib.Nat.{add-zero}
use native.Mathlib.Omega.{arith}
use borrow.Author.Tests.{leb-true, not-true}
use lib.Dec.{leb}
use lib.ListN.{length, get_or, drop}
use lib.Seq.{drop-drop, get_or-drop}
use Rattle.card.specs.Text.{when◌then◌else◌}
use Rattle.marks_on_a_card.specs.Bytes.{is_digit, begins, begun}
use Rattle.std.specs.Prelude.{Option, Some, None}
use Rattle.marks_on_a_card.specs.Quick.{one_digit, bytes_ahead}
use Rattle.marks_on_a_card.proofs.Lists.{cases, and_left, and_right}
use Rattle.marks_on_a_card.proofs.Runs.{begins_at, begins_place, begun_fits}

module _ (t s : List ℕ) (i : ℕ) (e : bytes_ahead t s i ≡ true) where
  pub bytes_stand : begun t (drop i s) ≡ true
  bytes_stand = and_right (leb i (length s)) (begun t (drop i s)) e

  pub bytes_fit : i + length t ≤ length s
  bytes_fit = begun_fits t s i (leb-true i (length s) (and_left (leb i (length s)) (begun t (drop i s)) e)) bytes_stand

module _ (more : ℕ → Bool) (s : List ℕ) (i : ℕ) where
  pub one_digit_at : one_digit more (drop i s) ≡ (when begins is_digit (drop i s) && not (begins more (drop (i + 1) s)) then Some (get_or s i 0 - 48) else None)
  one_digit_at = tests (drop i s) ∙ rw (drop-drop 1 i s, get_or-drop i s 0 0, add-zero i)
    where
      tests : (u : List ℕ) → one_digit more u ≡ (when begins is_digit u && not (begins more (drop 1 u)) then Some (get_or u 0 0 - 48) else None)
      tests [] = refl
      tests (b ∷ t) = refl

  pub digit_none : begins is_digit (drop i s) ≡ false → one_digit more (drop i s) ≡ None
  digit_none e = one_digit_at ∙ rw e

  pub digit_more : begins more (drop (i + 1) s) ≡ true → one_digit more (drop i s) ≡ None
  digit_more e = one_digit_at ∙ rw (e, and-false (begins is_digit (drop i s)))

  pub digit_over : begins is_digit (drop i s) ≡ true → begins more (drop (i + 1) s) ≡ false → one_digit more (drop i s) ≡ Some (get_or s i 0 - 48)
  digit_over d e = one_digit_at ∙ rw (d, e)

  -- the other way round: what stands there if the look found a digit
  module _ (v : ℕ) (is : Some v ≡ one_digit more (drop i s)) where
    both : (begins is_digit (drop i s) && not (begins more (drop (i + 1) s))) ≡ true
    both = cases (begins is_digit (drop i s) && not (begins more (drop (i + 1) s))) (λ y. y) (λ n. let none : ◌≡◌ {A = Option ℕ} (Some v) None = is ∙ one_digit_at ∙ rw n in cc)

    pub digit_there : begins is_digit (drop i s) ≡ true
    digit_there = and_left (begins is_digit (drop i s)) (not (begins more (drop (i + 1) s))) both

    pub digit_ends : begins more (drop (i + 1) s) ≡ false
    digit_ends = not-true (begins more (drop (i + 1) s)) (and_right (begins is_digit (drop i s)) (not (begins more (drop (i + 1) s))) both)

    pub digit_is : v ≡ get_or s i 0 - 48
    digit_is = let same : ◌≡◌ {A = Option ℕ} (Some v) (Some (get_or s i 0 - 48)) = is ∙ digit_over digit_there digit_ends in cc

    pub digit_small : v < 10
    digit_small =
        let b = get_or s i 0 in
        omega (arith, digit_is, leb-true b 57 (and_right (leb 48 b) (leb b 57) (sym (begins_at is_digit s i (begins_place is_digit s i digit_there)) ∙ digit_there)))
