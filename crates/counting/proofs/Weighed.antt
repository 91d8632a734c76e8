-- A branch more adds its units where it ends, and nowhere else. Assumes nothing.
use Prim.Native.Nat.{ℕ, zero, suc, ◌+◌, ◌*◌, ◌≤◌, ◌<◌}
use mathlib.Core.Path.{◌≡◌, refl, sym, ◌∙◌}
use mathlib.Core.List.{List, [], ◌∷◌, ◌++◌, map}
use native.Mathlib.Decide.{ℕ_discrete, dec_lt}
use native.Mathlib.Omega.{arith}
use borrow.Author.Tests.{eq-eqb, ne_eqb}
use lib.Dec.{eqb}
use lib.ListN.{length, get_or, set, replicate, length-set}
use lib.Seq.{get_or-set_same, get_or-set_other, set_out, ext_get_or}
use Rattle.card.specs.Limits.{most_states}
use Rattle.card.specs.Card.{Branch}
use Rattle.card.specs.Laid.{branch_of, units_part, set_of, set_part, end_part}
use Rattle.meaning.specs.Sums.{gate}
use Rattle.meaning.specs.ByCounts.{units_to}
use Rattle.meaning.proofs.Sums.{length_upto, get_d_upto, sum_append, map_append}
use Rattle.panel_numbers.specs.Taking.{units_to_each}

pub each_none : replicate most_states 0 ≡ units_to_each []
unfolding units_to_each units_to
each_none = refl

pub length_each : (l : List Branch) → length (units_to_each l) ≡ most_states
unfolding units_to_each
length_each l = length_upto most_states (λ t. units_to t l)

pub each_at : (l : List Branch) (t : ℕ) → t < most_states → get_or (units_to_each l) t 0 ≡ units_to t l
unfolding units_to_each
each_at l t h = get_d_upto most_states (λ t. units_to t l) t 0 h

units_more : (t : ℕ) (l : List Branch) (b : Branch) → units_to t (l ++ b ∷ []) ≡ units_to t l + gate (eqb b.end t) b.units
unfolding units_to
units_more t l b = sum_append (λ (b : Branch). gate (eqb b.end t) b.units) l (b ∷ []) ∙ omega arith

each_more : (l : List Branch) (b : Branch) → b.end < most_states
    → set (units_to_each l) b.end (get_or (units_to_each l) b.end 0 + b.units) ≡ units_to_each (l ++ b ∷ [])
each_more l b h =
    let v = units_to_each l in
    let w = set v b.end (get_or v b.end 0 + b.units) in
    let long : length w ≡ most_states = length-set v b.end (get_or v b.end 0 + b.units) ∙ length_each l in
    ext_get_or 0 w (units_to_each (l ++ b ∷ [])) (long ∙ sym (length_each (l ++ b ∷ []))) λ t m. go t (omega arith) (ℕ_discrete t b.end)
  where
    go : (t : ℕ) → t < most_states → Dec (t ≡ b.end)
        → get_or (set (units_to_each l) b.end (get_or (units_to_each l) b.end 0 + b.units)) t 0 ≡ get_or (units_to_each (l ++ b ∷ [])) t 0
    go t m (yes e) =
        let v = units_to_each l in
        let in-range : b.end < length v = omega (arith, length_each l) in
        rw (each_at (l ++ b ∷ []) t m, units_more t l b, e, get_or-set_same v b.end (get_or v b.end 0 + b.units) 0 in-range, each_at l b.end h, eq-eqb b.end b.end refl)
    go t m (no e) =
        let v = units_to_each l in
        rw (each_at (l ++ b ∷ []) t m, units_more t l b, get_or-set_other v b.end t (get_or v b.end 0 + b.units) 0 e, each_at l t m, ne_eqb b.end t (λ z. e (sym z)))
        (omega arith)

-- the next branch is packed in x
pub each_next : (xs : List ℕ) (x : ℕ) {end units : ℕ} → end ≡ end_part x → units ≡ units_part x → end < most_states → {v : List ℕ} → v ≡ units_to_each (map branch_of xs)
    → set v end (get_or v end 0 + units) ≡ units_to_each (map branch_of (xs ++ x ∷ []))
unfolding branch_of
each_next xs x e f h p =
    let b : Branch = record { units = units_part x; end = end_part x; sets = set_of (set_part x) } in
    rw (p, map_append branch_of xs (x ∷ []), e, f) (each_more (map branch_of xs) b (rw (← e) h))

-- ---- sums that fit

-- each number is at most w for each branch so far
pub sums_next : (v : List ℕ) (a u w i : ℕ) → ((t : ℕ) → get_or v t 0 ≤ i * w) → u ≤ w → (t : ℕ) → get_or (set v a (get_or v a 0 + u)) t 0 ≤ (i + 1) * w
sums_next v a u w i h l t = go (dec_lt a (length v)) (ℕ_discrete t a)
  where
    more : (i + 1) * w ≡ i * w + w
    more = omega arith

    go : Dec (a < length v) → Dec (t ≡ a) → get_or (set v a (get_or v a 0 + u)) t 0 ≤ (i + 1) * w
    go (yes m) (yes e) = rw (e, get_or-set_same v a (get_or v a 0 + u) 0 m, more) (omega (arith, h a))
    go (yes m) (no e) = rw (get_or-set_other v a t (get_or v a 0 + u) 0 e, more) (omega (arith, h t))
    go (no m) _ = rw (set_out v a (get_or v a 0 + u) (omega arith), more) (omega (arith, h t))

pub zeros_small : (n : ℕ) {w : ℕ} (t : ℕ) → get_or (replicate n 0) t 0 ≤ w
zeros_small zero t = omega arith
zeros_small (suc n) zero = omega arith
zeros_small (suc n) (suc t) = zeros_small n t
