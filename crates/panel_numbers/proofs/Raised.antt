-- Weights raised by branches, one after the other: a branch more raises the one place that it goes to, and all other places stay. A row's
-- place is told by its state and its value of the shared number, and tells both. Assumes nothing.
use Prim.Native.Nat.{ℕ, ◌+◌, ◌*◌, ◌/◌, ◌%◌, ◌≤◌, ◌<◌}
use mathlib.Core.Path.{◌≡◌, refl, sym, ap, ◌∙◌}
use mathlib.Core.Bool.{◌&&◌}
use mathlib.Core.List.{List, [], ◌∷◌, ◌++◌, map}
use native.Mathlib.Nat.{mul-add}
use native.Mathlib.Numerals.{add-one}
use native.Mathlib.Decide.{ℕ_discrete, dec_lt}
use native.Mathlib.Omega.{arith}
use borrow.Author.Tests.{eq-eqb, ne_eqb}
use lib.Dec.{eqb}
use lib.ListN.{length, get_or, set, take, length-set}
use lib.Seq.{get_or-set_same, get_or-set_other, set_out, take-suc, ext_get_or}
use Rattle.card.specs.Limits.{most_states, most_shared}
use Rattle.card.specs.Card.{Branch}
use Rattle.card.specs.Laid.{set_of, units_part, set_part, end_part, branch_of}
use Rattle.meaning.specs.Sums.{gate}
use Rattle.meaning.specs.Position.{set_to}
use Rattle.meaning.specs.ByCounts.{units_into}
use Rattle.meaning.proofs.Sums.{length_upto, get_d_upto, upto_cong, sum_append, map_append}
use Rattle.panel_numbers.specs.Table.{weight_places, place_of, by_place, raised, added, added_stays}

-- ---- any weights

module _ (n : ℕ) (u : ℕ → ℕ) (able : ℕ) (v : List ℕ) where
  pub raised_long : length (raised n u able v) ≡ n
  unfolding raised
  raised_long = length_upto n (λ p. get_or v p 0 + able * u p)

  pub raised_at : (p : ℕ) → p < n → get_or (raised n u able v) p 0 ≡ get_or v p 0 + able * u p
  unfolding raised
  raised_at p h = get_d_upto n (λ p. get_or v p 0 + able * u p) p 0 h

  pub raised_none : length v ≡ n → ((p : ℕ) → p < n → u p ≡ 0) → v ≡ raised n u able v
  raised_none e z = ext_get_or 0 v (raised n u able v) (e ∙ sym raised_long) (λ p l.
      let h : p < n = omega arith in
      let none : able * u p ≡ 0 = ap (λ (w : ℕ). able * w) (z p h) ∙ omega arith in
      sym (raised_at p h ∙ omega arith))

module _ (n : ℕ) (u w : ℕ → ℕ) (able : ℕ) (v : List ℕ) where
  pub raised_same : ((p : ℕ) → p < n → u p ≡ w p) → raised n u able v ≡ raised n w able v
  unfolding raised
  raised_same h = upto_cong n _ (λ p. get_or v p 0 + able * w p) (λ p l. ap (λ (a : ℕ). get_or v p 0 + able * a) (h p l))

  abbrev was : List ℕ
  was = raised n u able v

  abbrev more : ℕ → ℕ → ℕ
  more q units = get_or was q 0 + able * units

  -- units more at place q
  pub raised_more : (q units : ℕ) → q < n → ((p : ℕ) → p < n → w p ≡ u p + gate (eqb q p) units) → set was q (more q units) ≡ raised n w able v
  raised_more q units l h =
      ext_get_or 0 (set was q (more q units)) (raised n w able v) (length-set was q (more q units) ∙ raised_long n u able v ∙ sym (raised_long n w able v)) (λ p m.
      go p (omega (arith, length-set was q (more q units), raised_long n u able v)) (ℕ_discrete p q))
    where
      go : (p : ℕ) → p < n → Dec (p ≡ q) → get_or (set was q (more q units)) p 0 ≡ get_or (raised n w able v) p 0
      go p m (yes e) =
          let here : w q ≡ u q + units = rw (h q l, eq-eqb q q refl) in
          rw (e, raised_at n w able v q l, here, mul-add able (u q) units, get_or-set_same was q (more q units) 0 (omega (arith, raised_long n u able v)), raised_at n u able v q l) (omega arith)
      go p m (no e) =
          let there : w p ≡ u p = h p m ∙ rw (ne_eqb q p (λ z. e (sym z))) (omega arith) in
          rw (raised_at n w able v p m, there, get_or-set_other was q p (more q units) 0 e) (raised_at n u able v p m)

-- ---- places of a row

same_place : (e c p : ℕ) → c < most_shared → (eqb e (p / most_shared) && eqb c (p % most_shared)) ≡ eqb (place_of e c) p
same_place e c p l = go (ℕ_discrete e (p / most_shared)) (ℕ_discrete c (p % most_shared))
  where
    go : Dec (e ≡ p / most_shared) → Dec (c ≡ p % most_shared) → (eqb e (p / most_shared) && eqb c (p % most_shared)) ≡ eqb (place_of e c) p
    go (yes x) (yes y) = rw (eq-eqb e (p / most_shared) x, eq-eqb c (p % most_shared) y, eq-eqb (place_of e c) p (omega arith))
    go (yes x) (no y) = rw (eq-eqb e (p / most_shared) x, ne_eqb c (p % most_shared) y, ne_eqb (place_of e c) p (λ z. y (omega arith)))
    go (no x) _ = rw (ne_eqb e (p / most_shared) x, ne_eqb (place_of e c) p (λ z. x (omega arith)))

-- ---- branches

into_more : (g b h : ℕ) (l : List Branch) (x : Branch) → units_into g b h (l ++ x ∷ []) ≡ units_into g b h l + gate (eqb x.end b && eqb (set_to g x.sets) h) x.units
unfolding units_into
into_more g b h l x = sum_append (λ (x : Branch). gate (eqb x.end b && eqb (set_to g x.sets) h) x.units) l (x ∷ []) ∙ omega arith

branches_next : (s : List ℕ) (j : ℕ) → j < length s → map branch_of (take (j + 1) s) ≡ map branch_of (take j s) ++ branch_of (get_or s j 0) ∷ []
branches_next s j h = rw (add-one j, take-suc s j 0 h) (map_append branch_of (take j s) (get_or s j 0 ∷ []))

-- ---- as the code adds them

module _ (g able : ℕ) where
  pub added_none : (row : List ℕ) → length row ≡ weight_places → row ≡ added g able [] row
  unfolding units_into
  added_none row e = raised_none weight_places (by_place (λ b h. units_into g b h [])) able row e (λ p h. refl)

  pub stays_none : (own : ℕ) (stays : List ℕ) → length stays ≡ most_shared → stays ≡ added_stays g own able [] stays
  unfolding units_into
  stays_none own stays e = raised_none most_shared (λ h. units_into g own h []) able stays e (λ p h. refl)

  -- the next of some packed branches is x: where it ends, what it makes of the shared number, and its units
  module _ (s : List ℕ) (j x : ℕ) (is : x ≡ get_or s j 0) (l : j < length s) {end : ℕ} (e : end ≡ end_part x) where
    abbrev so_far : List Branch
    so_far = map branch_of (take j s)

    abbrev with_next : List Branch
    with_next = map branch_of (take (j + 1) s)

    into_next : (b h : ℕ) → units_into g b h with_next ≡ units_into g b h so_far + gate (eqb end b && eqb (set_to g (set_of (set_part x))) h) (units_part x)
    unfolding branch_of
    into_next b h = rw (branches_next s j l, e, is) (into_more g b h so_far (branch_of (get_or s j 0)))

    -- it leads elsewhere
    pub stays_else : (own : ℕ) (stays : List ℕ) {v : List ℕ} → v ≡ added_stays g own able so_far stays → (end ≡ own → ⊥)
        → v ≡ added_stays g own able with_next stays
    stays_else own stays p o = p
        ∙ raised_same most_shared (λ h. units_into g own h so_far) (λ h. units_into g own h with_next) able stays
        (λ h k. sym (into_next own h ∙ rw (ne_eqb end own o) (omega arith)))

    module _ {becomes units : ℕ} (c : becomes ≡ set_to g (set_of (set_part x))) (u : units ≡ units_part x) (small : becomes < most_shared) where
      into_more_by : (b h : ℕ) → units_into g b h with_next ≡ units_into g b h so_far + gate (eqb end b && eqb becomes h) units
      into_more_by b h = rw (c, u) (into_next b h)

      pub added_next : end < most_states → (row : List ℕ) {v : List ℕ} → v ≡ added g able so_far row
          → set v (place_of end becomes) (get_or v (place_of end becomes) 0 + able * units) ≡ added g able with_next row
      added_next m row p = rw p
          (raised_more weight_places (by_place (λ b h. units_into g b h so_far)) (by_place (λ b h. units_into g b h with_next)) able row
          (place_of end becomes) units (omega arith) (λ q k. into_more_by (q / most_shared) (q % most_shared) ∙ rw (same_place end becomes q small)))

      pub stays_next : (own : ℕ) (stays : List ℕ) {v : List ℕ} → v ≡ added_stays g own able so_far stays → end ≡ own
          → set v becomes (get_or v becomes 0 + able * units) ≡ added_stays g own able with_next stays
      stays_next own stays p o = rw p
          (raised_more most_shared (λ h. units_into g own h so_far) (λ h. units_into g own h with_next) able stays becomes units small
          (λ h k. into_more_by own h ∙ rw (eq-eqb end own o)))

-- ---- sums that fit

-- each number is at most m, and w for each branch so far
pub sums_next : (v : List ℕ) (a u m w j : ℕ) → ((t : ℕ) → get_or v t 0 ≤ m + j * w) → u ≤ w → (t : ℕ) → get_or (set v a (get_or v a 0 + u)) t 0 ≤ m + (j + 1) * w
sums_next v a u m w j h l t = go (dec_lt a (length v)) (ℕ_discrete t a)
  where
    more : (j + 1) * w ≡ j * w + w
    more = omega arith

    go : Dec (a < length v) → Dec (t ≡ a) → get_or (set v a (get_or v a 0 + u)) t 0 ≤ m + (j + 1) * w
    go (yes i) (yes e) = rw (e, get_or-set_same v a (get_or v a 0 + u) 0 i, more) (omega (arith, h a))
    go (yes i) (no e) = rw (get_or-set_other v a t (get_or v a 0 + u) 0 e, more) (omega (arith, h t))
    go (no i) _ = rw (set_out v a (get_or v a 0 + u) (omega arith), more) (omega (arith, h t))

pub sums_still : (v : List ℕ) (m w j : ℕ) → ((t : ℕ) → get_or v t 0 ≤ m + j * w) → (t : ℕ) → get_or v t 0 ≤ m + (j + 1) * w
sums_still v m w j h t = let more : (j + 1) * w ≡ j * w + w = omega arith in rw more (omega (arith, h t))
