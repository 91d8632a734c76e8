-- Numbers that stand in an array from a place on: what is before them, they, and what is behind. Each statement's row stands so in the
-- rows of all. Assumes nothing.
use Prim.Native.Nat.{ℕ, zero, suc, ◌+◌, ◌-◌, ◌*◌, ◌<◌}
use mathlib.Core.Path.{◌≡◌, refl, sym, ap, ◌∙◌}
use mathlib.Core.List.{List, [], ◌∷◌, ◌++◌, append_assoc}
use native.Mathlib.Nat.{add-zero, zero-add, zero-mul, suc-mul, not-suc-le-zero, le_of_suc-le-suc}
use native.Mathlib.Omega.{arith}
use lib.ListN.{length, get_or, take, drop, length-append, get_or-append}
use lib.Seq.{take-append_seam, drop_at, get_or_at, get_or-append-add}
use Rattle.card.specs.Card.{Statement}
use Rattle.card.specs.Laid.{zeros, padded, rows}
use Rattle.card.proofs.Filling.{Narrow, length_padded, rows_one}

pub record Stands (array : List ℕ) (at : ℕ) (s : List ℕ) : Type 0 where
  pub before : List ℕ
  pub behind : List ℕ
  pub parts : array ≡ before ++ (s ++ behind)
  pub place : length before ≡ at

module _ {array : List ℕ} {at : ℕ} where
  -- of two pieces that stand one after the other, the first and the second
  pub first_stands : (s t : List ℕ) → Stands array at (s ++ t) → Stands array at s
  first_stands s t h = record {
    before = h.before;
    behind = t ++ h.behind;
    parts = h.parts ∙ ap (λ (r : List ℕ). h.before ++ r) (append_assoc s t h.behind);
    place = h.place;
  }

  pub second_stands : (s t : List ℕ) → Stands array at (s ++ t) → Stands array (at + length s) t
  second_stands s t h = record {
    before = h.before ++ s;
    behind = h.behind;
    parts = h.parts ∙ simp append_assoc;
    place = length-append h.before s ∙ ap (λ (k : ℕ). k + length s) h.place;
  }

  -- a number that stands there alone
  pub one_stands : (x : ℕ) → Stands array at (x ∷ []) → get_or array at 0 ≡ x
  one_stands x h = ap (λ (a : List ℕ). get_or a at 0) h.parts ∙ get_or_at h.before x h.behind 0 at h.place

  -- each number of what stands there
  pub each_stands : (s : List ℕ) (k : ℕ) → k < length s → Stands array at s → get_or array (at + k) 0 ≡ get_or s k 0
  each_stands s k l h =
      ap (λ (a : List ℕ). get_or a (at + k) 0) h.parts
      ∙ ap (λ (m : ℕ). get_or (h.before ++ (s ++ h.behind)) (m + k) 0) (sym h.place)
      ∙ get_or-append-add h.before (s ++ h.behind) k 0
      ∙ get_or-append s h.behind 0 k l

  -- read back as a part of the array
  pub part_stands : (s : List ℕ) → Stands array at s → take (length s) (drop at array) ≡ s
  part_stands s h =
      ap (λ (a : List ℕ). take (length s) (drop at a)) h.parts
      ∙ ap (λ (a : List ℕ). take (length s) a) (drop_at h.before (s ++ h.behind) at h.place)
      ∙ take-append_seam s h.behind

  -- and behind something else
  pub further_stands : (p s : List ℕ) → Stands array at s → Stands (p ++ array) (length p + at) s
  further_stands p s h = record {
    before = p ++ h.before;
    behind = h.behind;
    parts = ap (λ (a : List ℕ). p ++ a) h.parts ∙ sym (append_assoc p h.before (s ++ h.behind));
    place = length-append p h.before ∙ ap (λ (k : ℕ). length p + k) h.place;
  }

-- what stands there by other names
stands_as : {array array' : List ℕ} {at at' : ℕ} {s s' : List ℕ} → array' ≡ array → at' ≡ at → s' ≡ s → Stands array at s → Stands array' at' s'
stands_as {s = s} {s'} e f g h = record {
  before = h.before;
  behind = h.behind;
  parts = e ∙ h.parts ∙ ap (λ (t : List ℕ). h.before ++ (t ++ h.behind)) (sym g);
  place = h.place ∙ sym f;
}

-- ---- rows

pub padded_parts : (most : ℕ) (s : List ℕ) → padded most s ≡ s ++ zeros (most - length s)
unfolding padded
padded_parts most s = refl

module _ (width : ℕ) (f : ℕ → Statement → List ℕ) (d : Statement) where
  row_behind : (xs : List Statement) (i at : ℕ) (rest : List ℕ) → Narrow width f xs → i < length xs
      → Stands (rows width f at xs ++ rest) (i * width) (f (at + i * width) (get_or xs i d))
  row_behind [] i at rest n h = absurd (not-suc-le-zero h)
  row_behind (x ∷ xs) zero at rest n h =
      rw (zero-mul width, add-zero at)
      (record {
        before = [];
        behind = zeros (width - length (f at x)) ++ (rows width f (at + width) xs ++ rest);
        parts = rw (rows_one, padded_parts) (simp append_assoc);
        place = refl;
      })
  row_behind (x ∷ xs) (suc i) at rest n h =
      let first = padded width (f at x) in
      let long : length first ≡ width = length_padded width (f at x) (n.0 at) in
      let e : suc i * width ≡ length first + i * width = omega (arith, suc-mul i width, long) in
      let e' : at + suc i * width ≡ at + width + i * width = omega arith in
      let parts : rows width f at (x ∷ xs) ++ rest ≡ first ++ (rows width f (at + width) xs ++ rest) = rw rows_one (append_assoc first (rows width f (at + width) xs) rest) in
      stands_as parts e (ap (λ (k : ℕ). f k (get_or xs i d)) e')
      (further_stands first (f (at + width + i * width) (get_or xs i d)) (row_behind xs i (at + width) rest n.1 (le_of_suc-le-suc h)))

  pub row_stands : (most : ℕ) (xs : List Statement) (i : ℕ) → Narrow width f xs → i < length xs
      → Stands (padded most (rows width f 0 xs)) (i * width) (f (i * width) (get_or xs i d))
  row_stands most xs i n h =
      rw padded_parts (rw (zero-add (i * width)) at (row_behind xs i 0 (zeros (most - length (rows width f 0 xs))) n h))
