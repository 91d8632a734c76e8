-- What counting knows of a seating: with one seat taken out, each count is the rest's and that seat's; so a changed seat changes two
-- counts, as the reduced program's update says. Assumes nothing.
use Prim.Native.Nat.{ℕ, zero, suc, ◌+◌, ◌-◌, ◌*◌, ◌≤◌, ◌<◌, suc-le-suc}
use mathlib.Core.Path.{◌≡◌, refl, sym, ap, ◌∙◌}
use mathlib.Core.Logic.{◌≢◌}
use mathlib.Core.Bool.{Bool, true, false}
use mathlib.Core.List.{List, [], ◌∷◌}
use native.Mathlib.Nat.{le_of_suc-le-suc, not-suc-le-zero}
use native.Mathlib.Decide.{ℕ_discrete, dec_le}
use native.Mathlib.Omega.{arith}
use borrow.Author.Tests.{eqb-true, eqb-false, eq-eqb, ne_eqb}
use lib.Dec.{eqb}
use lib.ListN.{length, set, replicate, length-set, get_or-eq_default}
use lib.Seq.{ext_get_or, get_or-set_same, get_or-set_other}
use Rattle.card.specs.Text.{when◌then◌else◌}
use Rattle.card.specs.Valid.{Every}
use Rattle.meaning.specs.Sums.{gate}
use Rattle.meaning.specs.Seats.{state, without, count, counts}
use Rattle.meaning.specs.Reduced.{no_of, keep, shift, update_of, raised, updated}
use Rattle.meaning.proofs.Sums.{gate_le, length_upto, get_d_upto, sum_below}

abbrev pub Within : ℕ → List ℕ → Type 0
Within k x = Every (λ a. a ≤ k) x

-- ---- seats

pub length_without : (x : List ℕ) (i : ℕ) → i < length x → length x ≡ suc (length (without x i))
length_without [] i h = absurd (not-suc-le-zero h)
length_without (a ∷ x) zero h = refl
length_without (a ∷ x) (suc i) h = ap suc (length_without x i (le_of_suc-le-suc h))

pub state_within : (k : ℕ) (x : List ℕ) → Within k x → (i : ℕ) → i < length x → state x i ≤ k
state_within k [] w i l = absurd (not-suc-le-zero l)
state_within k (a ∷ x) w zero l = w.0
state_within k (a ∷ x) w (suc i) l = state_within k x w.1 i (le_of_suc-le-suc l)

module _ (d : ℕ) where
  pub count_le : (x : List ℕ) → count d x ≤ length x
  count_le [] = omega arith
  count_le (a ∷ x) = omega (arith, gate_le (eqb a d) 1, count_le x)

  pub count_without : (x : List ℕ) (i : ℕ) → i < length x → count d x ≡ gate (eqb (state x i) d) 1 + count d (without x i)
  count_without [] i h = absurd (not-suc-le-zero h)
  count_without (a ∷ x) zero h = refl
  count_without (a ∷ x) (suc i) h = omega (arith, count_without x i (le_of_suc-le-suc h))

  pub count_set : (x : List ℕ) (i t : ℕ) → i < length x → count d (set x i t) ≡ gate (eqb t d) 1 + count d (without x i)
  count_set [] i t h = absurd (not-suc-le-zero h)
  count_set (a ∷ x) zero t h = refl
  count_set (a ∷ x) (suc i) t h = omega (arith, count_set x i t (le_of_suc-le-suc h))

  pub count_outside : (k : ℕ) (x : List ℕ) → Within k x → k < d → count d x ≡ 0
  count_outside k [] w h = refl
  count_outside k (a ∷ x) w h = rw (ne_eqb a d (omega arith)) (omega (arith, count_outside k x w.1 h))

  -- every seat in state d brings w
  pub over_seats : (w : ℕ) (x : List ℕ) → sum_below (length x) (λ i. gate (eqb (state x i) d) w) ≡ count d x * w
  over_seats w [] = omega arith
  over_seats w (a ∷ x) = omega (arith, gate_one (eqb a d), over_seats w x)
    where
      gate_one : (b : Bool) → gate b w ≡ gate b 1 * w
      gate_one true = omega arith
      gate_one false = omega arith

  -- n seats in state j
  pub count_replicate : (n j : ℕ) → count d (replicate n j) ≡ gate (eqb j d) n
  count_replicate zero j = go (eqb j d)
    where
      go : (b : Bool) → 0 ≡ gate b 0
      go true = refl
      go false = refl
  count_replicate (suc n) j = rw (count_replicate n j) (go (eqb j d))
    where
      go : (b : Bool) → gate b 1 + gate b n ≡ gate b (suc n)
      go true = omega arith
      go false = refl

-- some seat is in state j exactly where its count is not 0
pub present : (j : ℕ) (x : List ℕ) (i : ℕ) → i < length x → state x i ≡ j → 0 < count j x
present j x i l e = rw (count_without j x i l, eq-eqb (state x i) j e) (omega arith)

pub find : (j : ℕ) (x : List ℕ) → 0 < count j x → (i : ℕ) × (i < length x) × (state x i ≡ j)
find j [] h = absurd (not-suc-le-zero h)
find j (a ∷ x) h = go (eqb a j) refl (find j x)
  where
    go : (b : Bool) → eqb a j ≡ b → (0 < count j x → (i : ℕ) × (i < length x) × (state x i ≡ j)) → (i : ℕ) × (i < length (a ∷ x)) × (state (a ∷ x) i ≡ j)
    go true e f = (zero, omega arith, eqb-true a j e)
    go false e f = let (i, l, p) = f (omega (arith, rw e at h)) in (suc i, suc-le-suc l, p)

-- ---- the counts

pub length_counts : (k : ℕ) (x : List ℕ) → length (counts k x) ≡ suc k
unfolding counts
length_counts k x = length_upto (suc k) (λ d. count d x)

-- no_d is the count of d, also of a d above k
pub no_count : (k : ℕ) (x : List ℕ) → Within k x → (d : ℕ) → no_of (counts k x) d ≡ count d x
unfolding counts
no_count k x w d = go (dec_le d k)
  where
    go : Dec (d ≤ k) → no_of (counts k x) d ≡ count d x
    go (yes h) = get_d_upto (suc k) (λ d. count d x) d 0 (omega arith)
    go (no h) =
        let short : length (counts k x) ≤ d = omega (arith, length_counts k x) in
        get_or-eq_default (counts k x) 0 short ∙ sym (count_outside d k x w (omega arith))

-- a list is the counts of x if it has their length and each no_d
pub are_counts : (k : ℕ) (x : List ℕ) (v : List ℕ) → length v ≡ suc k → ((d : ℕ) → d < suc k → no_of v d ≡ count d x) → counts k x ≡ v
unfolding counts
are_counts k x v e h = sym (ext_get_or 0 _ _ (e ∙ sym (length_counts k x))
    λ d l. let l' : d < suc k = omega arith in h d l' ∙ sym (get_d_upto (suc k) (λ d. count d x) d 0 l'))

-- ---- one seat, in state j, goes to t

module _ (k : ℕ) (x : List ℕ) (w : Within k x) (i : ℕ) (l : i < length x) (j t : ℕ) (own : state x i ≡ j) where
  was : (d : ℕ) → count d x ≡ gate (eqb j d) 1 + count d (without x i)
  was d = rw (← own) (count_without d x i l)

  shifted : (d : ℕ) → d < suc k → j ≢ t → Dec (d ≡ t) → Dec (d ≡ j) → no_of (updated (counts k x) (shift j t (length x))) d ≡ count d (set x i t)
  shifted d h ne (yes p) _ =
      let v = counts k x in
      let u = set v j (no_of v j - 1) in
      let l₁ : t < length u = rw (length-set, length_counts k x, ← p) h in
      rw (p, get_or-set_same u t (raised (length x) (no_of v t)) 0 l₁, no_count k x w t, count_set t x i t l, was t, ne_eqb j t ne, eq-eqb t t refl)
      (omega (arith, count_le t (without x i), length_without x i l))
  shifted d h ne (no q) (yes p) =
      let v = counts k x in
      let l₁ : j < length v = rw (length_counts k x, ← p) h in
      rw (get_or-set_other (set v j (no_of v j - 1)) t d (raised (length x) (no_of v t)) 0 q, p, get_or-set_same v j (no_of v j - 1) 0 l₁)
      (rw (no_count k x w j, count_set j x i t l, was j, ne_eqb t j (λ e. ne (sym e)), eq-eqb j j refl)
      (omega arith))
  shifted d h ne (no q) (no r) =
      let v = counts k x in
      rw (get_or-set_other (set v j (no_of v j - 1)) t d (raised (length x) (no_of v t)) 0 q, get_or-set_other v j d (no_of v j - 1) 0 r)
      (rw (no_count k x w d, count_set d x i t l, was d, ne_eqb t d (λ e. q (sym e)), ne_eqb j d (λ e. r (sym e))))

  pub moved_counts : counts k (set x i t) ≡ updated (counts k x) (update_of (length x) j t)
  moved_counts = go (eqb j t) refl
    where
      go : (b : Bool) → eqb j t ≡ b → counts k (set x i t) ≡ updated (counts k x) (when b then keep else shift j t (length x))
      go true e = are_counts k (set x i t) (counts k x) (length_counts k x) λ d h. rw (no_count k x w d, count_set d x i t l, was d, eqb-true j t e)
      go false e = are_counts k (set x i t) (updated (counts k x) (shift j t (length x))) (simp (length-set, length_counts k x))
          λ d h. shifted d h (eqb-false j t e) (ℕ_discrete d t) (ℕ_discrete d j)
