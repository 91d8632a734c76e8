-- A seat more adds one to its state's count and to no other. Assumes nothing.
use Prim.Native.Nat.{ℕ, zero, suc, ◌+◌, ◌≤◌, ◌<◌}
use mathlib.Core.Path.{◌≡◌, refl, sym, ap, ◌∙◌}
use mathlib.Core.List.{List, [], ◌∷◌, map}
use native.Mathlib.Numerals.{add-one}
use native.Mathlib.Nat.{not-suc-le-zero, le_of_suc-le-suc}
use native.Mathlib.Decide.{ℕ_discrete, dec_le, dec_lt}
use native.Mathlib.Omega.{arith}
use borrow.Author.Tests.{eq-eqb, ne_eqb}
use lib.Dec.{eqb}
use lib.ListN.{length, get_or, take, set, replicate, length-set, length-map, get_or-eq_default}
use lib.Seq.{get_or-set_same, get_or-set_other, set_out}
use Rattle.card.specs.Limits.{top_state, most_states}
use Rattle.meaning.specs.Sums.{gate, upto}
use Rattle.meaning.specs.Seats.{count, counts}
use Rattle.meaning.specs.Reduced.{no_of}
use Rattle.meaning.proofs.Sums.{get_d_upto, sum_take}
use Rattle.meaning.proofs.Counting.{count_le, length_counts, are_counts}

module _ (k : ℕ) (x : List ℕ) where
  within_no : (d : ℕ) → d < suc k → no_of (counts k x) d ≡ count d x
  unfolding counts
  within_no d h = get_d_upto (suc k) (λ d. count d x) d 0 h

  pub counts_most : (d : ℕ) → get_or (counts k x) d 0 ≤ length x
  counts_most d = go (dec_le d k)
    where
      go : Dec (d ≤ k) → get_or (counts k x) d 0 ≤ length x
      go (yes h) = rw (within_no d (omega arith)) (count_le d x)
      go (no h) =
          let short : length (counts k x) ≤ d = omega (arith, length_counts k x) in
          rw (get_or-eq_default (counts k x) 0 short) (omega arith)

  module _ (i : ℕ) (l : i < length x) where
    count_next : (d : ℕ) → count d (take (i + 1) x) ≡ count d (take i x) + gate (eqb (get_or x i 0) d) 1
    count_next d = rw add-one (sum_take (λ a. gate (eqb a d) 1) x i 0 l)

module _ (k : ℕ) (x : List ℕ) (i : ℕ) (l : i < length x) where
  -- a seat within k
  counts_next : get_or x i 0 ≤ k
      → set (counts k (take i x)) (get_or x i 0) (get_or (counts k (take i x)) (get_or x i 0) 0 + 1) ≡ counts k (take (i + 1) x)
  counts_next h =
      let a = get_or x i 0 in
      let v = counts k (take i x) in
      let long : length v ≡ suc k = length_counts k (take i x) in
      sym (are_counts k (take (i + 1) x) (set v a (get_or v a 0 + 1)) (length-set v a (get_or v a 0 + 1) ∙ long) λ d m. go d m (ℕ_discrete d a))
    where
      go : (d : ℕ) → d < suc k → Dec (d ≡ get_or x i 0)
          → no_of (set (counts k (take i x)) (get_or x i 0) (get_or (counts k (take i x)) (get_or x i 0) 0 + 1)) d ≡ count d (take (i + 1) x)
      go d m (yes e) =
          let v = counts k (take i x) in
          let a = get_or x i 0 in
          let in-range : a < length v = omega (arith, length_counts k (take i x)) in
          rw (e, get_or-set_same v a (get_or v a 0 + 1) 0 in-range, within_no k (take i x) a (omega arith), count_next k x i l a, eq-eqb a a refl)
      go d m (no e) =
          let v = counts k (take i x) in
          let a = get_or x i 0 in
          rw (get_or-set_other v a d (get_or v a 0 + 1) 0 e, within_no k (take i x) d m, count_next k x i l d, ne_eqb a d (λ z. e (sym z)))
          (omega arith)

  -- a seat above it
  counts_over : k < get_or x i 0 → counts k (take i x) ≡ counts k (take (i + 1) x)
  counts_over h =
      sym (are_counts k (take (i + 1) x) (counts k (take i x)) (length_counts k (take i x)) λ d m.
      rw (within_no k (take i x) d m, count_next k x i l d, ne_eqb (get_or x i 0) d (λ z. omega arith)) (omega arith))

-- ---- counted by what a function makes of each

zeros_upto : (n : ℕ) → replicate {A = ℕ} n 0 ≡ upto n (λ d. 0)
zeros_upto zero = refl
zeros_upto (suc n) = ap (λ (l : List ℕ). 0 ∷ l) (zeros_upto n)

module _ (f : ℕ → ℕ) where
  map_take : (i : ℕ) (x : List ℕ) → map f (take i x) ≡ take i (map f x)
  map_take zero x = refl
  map_take (suc i) [] = refl
  map_take (suc i) (a ∷ x) = ap (λ (l : List ℕ). f a ∷ l) (map_take i x)

  map_at : (x : List ℕ) (i : ℕ) → i < length x → get_or (map f x) i 0 ≡ f (get_or x i 0)
  map_at [] i l = absurd (not-suc-le-zero l)
  map_at (a ∷ x) zero l = refl
  map_at (a ∷ x) (suc i) l = map_at x i (le_of_suc-le-suc l)

-- the first i of them, by n values
abbrev pub tally : ℕ → (ℕ → ℕ) → List ℕ → ℕ → List ℕ
tally n f x i = upto n (λ d. count d (map f (take i x)))

pub tally_none : (n : ℕ) (f : ℕ → ℕ) (x : List ℕ) → replicate {A = ℕ} n 0 ≡ tally n f x 0
tally_none n f x = zeros_upto n

module _ (f : ℕ → ℕ) (x : List ℕ) (i : ℕ) (l : i < length x) {a : ℕ} (is : a ≡ f (get_or x i 0)) where
  as_counts : (k j : ℕ) → tally (suc k) f x j ≡ counts k (take j (map f x))
  unfolding counts
  as_counts k j = ap (counts k) (map_take f j x)

  there : i < length (map f x)
  there = omega (arith, length-map x f, l)

  at : a ≡ get_or (map f x) i 0
  at = is ∙ sym (map_at f x i l)

  pub tally_next : (n : ℕ) {v : List ℕ} → v ≡ tally n f x i → a < n → set v a (get_or v a 0 + 1) ≡ tally n f x (i + 1)
  tally_next zero e h = absurd (not-suc-le-zero h)
  tally_next (suc k) {v} e h =
      let was : v ≡ counts k (take i (map f x)) = e ∙ as_counts k i in
      rw (was, at) (counts_next k (map f x) i there (omega (arith, at)) ∙ sym (as_counts k (i + 1)))

  pub tally_over : (n : ℕ) {v : List ℕ} → v ≡ tally n f x i → n ≤ a → v ≡ tally n f x (i + 1)
  tally_over zero e h = e
  tally_over (suc k) e h = e ∙ as_counts k i ∙ counts_over k (map f x) i there (omega (arith, at)) ∙ sym (as_counts k (i + 1))

-- no count is above the number of turns
pub none_yet : (n t : ℕ) → get_or (replicate {A = ℕ} n 0) t 0 ≤ 0
none_yet zero t = omega arith
none_yet (suc n) zero = omega arith
none_yet (suc n) (suc t) = none_yet n t

pub one_more : (v : List ℕ) (a i : ℕ) → ((t : ℕ) → get_or v t 0 ≤ i) → (t : ℕ) → get_or (set v a (get_or v a 0 + 1)) t 0 ≤ i + 1
one_more v a i h t = go (dec_lt a (length v)) (ℕ_discrete t a)
  where
    go : Dec (a < length v) → Dec (t ≡ a) → get_or (set v a (get_or v a 0 + 1)) t 0 ≤ i + 1
    go (yes k) (yes e) = rw (e, get_or-set_same v a (get_or v a 0 + 1) 0 k) (omega (arith, h a))
    go (yes k) (no e) = rw (get_or-set_other v a t (get_or v a 0 + 1) 0 e) (omega (arith, h t))
    go (no k) _ = rw (set_out v a (get_or v a 0 + 1) (omega arith)) (omega (arith, h t))

pub states_counted : (x : List ℕ) → upto most_states (λ d. count d (map (λ a. a) x)) ≡ counts top_state x
unfolding counts
states_counted x = ap (counts top_state) (same x)
  where
    same : (x : List ℕ) → map (λ a. a) x ≡ x
    same [] = refl
    same (a ∷ x) = ap (λ (l : List ℕ). a ∷ l) (same x)
