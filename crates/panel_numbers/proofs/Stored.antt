-- Numbers stored one after the other: each stands in its place, and every other place is as it was. Sums grow by a term. Assumes nothing.
use Prim.Native.Nat.{ℕ, zero, suc, ◌+◌, ◌*◌, ◌≤◌, ◌<◌}
use mathlib.Core.Path.{◌≡◌, refl, sym, ap, ap₂, ◌∙◌}
use mathlib.Core.Logic.{◌⊎◌, inl, inr}
use mathlib.Core.List.{List, ◌∷◌}
use native.Mathlib.Nat.{not-suc-le-zero, le_of_suc-le-suc}
use native.Mathlib.Numerals.{add-one}
use native.Mathlib.Decide.{dec_lt}
use native.Mathlib.Omega.{arith}
use lib.ListN.{length, get_or, set, take, length-set, length-take}
use lib.Seq.{get_or-set_same, get_or-set_other, ext_get_or, get_or-take, length-take-le}
use Rattle.meaning.specs.Sums.{upto}
use Rattle.panel_numbers.specs.Table.{over, total}

-- ---- stored numbers

module _ (from : ℕ) (f : ℕ → ℕ) (table : List ℕ) where
  pub over_start : table ≡ over from 0 f table
  unfolding over
  over_start = refl

  pub over_next : (n : ℕ) {v at : ℕ} {is : List ℕ} → is ≡ over from n f table → at ≡ from + n → v ≡ f n → set is at v ≡ over from (n + 1) f table
  unfolding over
  over_next n e a v = rw (e, a, v, add-one n)

  pub over_end : (i n : ℕ) → i ≤ n → n ≤ i → over from i f table ≡ over from n f table
  over_end i n h l = let e : i ≡ n = omega arith in rw e

  pub over_long : (n : ℕ) → length (over from n f table) ≡ length table
  unfolding over
  over_long zero = refl
  over_long (suc n) = length-set (over from n f table) (from + n) (f n) ∙ over_long n

  -- another place
  pub over_else : (n p : ℕ) → (p < from) ⊎ (from + n ≤ p) → get_or (over from n f table) p 0 ≡ get_or table p 0
  unfolding over
  over_else zero p h = refl
  over_else (suc n) p (inl h) = get_or-set_other (over from n f table) (from + n) p (f n) 0 (λ e. omega arith) ∙ over_else n p (inl h)
  over_else (suc n) p (inr h) = get_or-set_other (over from n f table) (from + n) p (f n) 0 (λ e. omega arith) ∙ over_else n p (inr (omega arith))

  -- one of them
  pub over_at : (n i : ℕ) → i < n → from + n ≤ length table → get_or (over from n f table) (from + i) 0 ≡ f i
  unfolding over
  over_at zero i l h = absurd (not-suc-le-zero l)
  over_at (suc n) i l h = go (dec_lt i n) (λ k. over_at n i k (omega arith))
    where
      go : Dec (i < n) → (i < n → get_or (over from n f table) (from + i) 0 ≡ f i) → get_or (set (over from n f table) (from + n) (f n)) (from + i) 0 ≡ f i
      go (yes k) at = get_or-set_other (over from n f table) (from + n) (from + i) (f n) 0 (λ e. omega arith) ∙ at k
      go (no k) at =
          let same : i ≡ n = omega arith in
          rw same (get_or-set_same (over from n f table) (from + n) (f n) 0 (omega (arith, over_long n)))

-- the same numbers
pub over_cong : (from : ℕ) (f g : ℕ → ℕ) (table : List ℕ) (n : ℕ) → ((i : ℕ) → i < n → f i ≡ g i) → over from n f table ≡ over from n g table
unfolding over
over_cong from f g table zero h = refl
over_cong from f g table (suc n) h = ap₂ (λ (l : List ℕ) (w : ℕ). set l (from + n) w) (over_cong from f g table n (λ i l. h i (omega arith))) (h n (omega arith))

-- the first places of a table, one by one
pub take_is : (k : ℕ) (table v : List ℕ) → length v ≡ k → k ≤ length table → ((d : ℕ) → d < k → get_or table d 0 ≡ get_or v d 0) → take k table ≡ v
take_is k table v e h at =
    ext_get_or 0 (take k table) v (length-take-le k table h ∙ sym e) (λ d l.
    let m : d < k = omega (arith, length-take k table) in get_or-take k table d 0 m ∙ at d m)

pub upto_take : {A : Type 0} (n m : ℕ) (f : ℕ → A) → m ≤ n → take m (upto n f) ≡ upto m f
upto_take n zero f h = refl
upto_take zero (suc m) f h = absurd (not-suc-le-zero h)
upto_take {A} (suc n) (suc m) f h = ap (λ (l : List A). f 0 ∷ l) (upto_take n m (λ i. f (suc i)) (le_of_suc-le-suc h))

-- ---- sums

pub total_suc : (n : ℕ) (f : ℕ → ℕ) → total (suc n) f ≡ total n f + f n
total_suc zero f = omega arith
total_suc (suc n) f = omega (arith, total_suc n (λ i. f (suc i)))

pub total_more : (n : ℕ) (f : ℕ → ℕ) → total (n + 1) f ≡ total n f + f n
total_more n f = rw (add-one n) (total_suc n f)

pub total_most : (n : ℕ) (f : ℕ → ℕ) (m : ℕ) → ((i : ℕ) → i < n → f i ≤ m) → total n f ≤ n * m
total_most zero f m h = omega arith
total_most (suc n) f m h = omega (arith, h 0 (omega arith), total_most n (λ i. f (suc i)) m (λ i l. h (suc i) (omega arith)))
