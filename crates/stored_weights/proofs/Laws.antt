-- Weights added up statement by statement: a statement more adds what its branches weigh for all seats that are able to take it, and where
-- none is it adds nothing. No sum is above all seats' weights of all statements. Assumes nothing.
use Prim.Native.Nat.{ℕ, suc, ◌+◌, ◌*◌, ◌/◌, ◌%◌, ◌≤◌, ◌<◌}
use mathlib.Core.Path.{◌≡◌, refl, sym, ap, ap₂, ◌∙◌}
use mathlib.Core.List.{List}
use native.Mathlib.Nat.{le_trans, mul-le-mul}
use native.Mathlib.Numerals.{add-one}
use native.Mathlib.Decide.{dec_lt}
use native.Mathlib.Omega.{arith}
use borrow.Author.Tests.{eq-eqb, ne_eqb}
use lib.Dec.{eqb}
use lib.ListN.{length, get_or, replicate, get_or-eq_default}
use Rattle.card.specs.Limits.{most_seats, most_shared, unit}
use Rattle.card.specs.Card.{nondeterministic, probabilistic, Branch}
use Rattle.card.specs.Laid.{either, zeros}
use Rattle.card.specs.Rows.{row_of}
use Rattle.card.specs.declared.Head.{Head}
use Rattle.meaning.specs.Sums.{gate, upto}
use Rattle.meaning.specs.ByCounts.{units_into, stay_of, move_of}
use Rattle.meaning.proofs.Sums.{gate_le, gate_out, length_upto, get_d_upto, upto_cong}
use Rattle.panel_numbers.specs.Table.{shared_in, able_in, stays_from, over, branches_in, weighing_row, weight_places, by_place, raised, added, added_stays, move_by, stay_by, row_from, stays, stayed}
use Rattle.panel_numbers.specs.Fitting.{Most, heaviest, Adding, Weighing}
use Rattle.panel_numbers.proofs.Stored.{total_suc, total_most, over_cong}

-- numbers of which each of the first n is at most m
upto_most : (n : ℕ) (f : ℕ → ℕ) (m : ℕ) → ((p : ℕ) → p < n → f p ≤ m) → Most m (upto n f)
upto_most n f m h p = go (dec_lt p n)
  where
    go : Dec (p < n) → get_or (upto n f) p 0 ≤ m
    go (yes l) = rw (get_d_upto n f p 0 l) (h p l)
    go (no l) = let past : length (upto n f) ≤ p = omega (arith, length_upto n f) in rw (get_or-eq_default (upto n f) 0 past) (omega arith)

-- one more statement
raised_next : (n : ℕ) (f g u : ℕ → ℕ) (able : ℕ) → ((p : ℕ) → p < n → f p + able * u p ≡ g p) → raised n u able (upto n f) ≡ upto n g
unfolding raised
raised_next n f g u able h = upto_cong n _ g (λ p l. ap (λ (w : ℕ). w + able * u p) (get_d_upto n f p 0 l) ∙ h p l)

-- no seat adds nothing
none_more : (b u : ℕ) {a w : ℕ} → a + b * u ≡ w → b ≡ 0 → a ≡ w
none_more b u {a} {w} e z = let none : b * u ≡ 0 = ap (λ (m : ℕ). m * u) z ∙ omega arith in omega arith

module _ (table rows branches : List ℕ) where
  abbrev g : ℕ
  g = shared_in table

  abbrev bs : ℕ → List Branch
  bs i = branches_in branches i (row_of rows i).branches

  move_next : (i a b h : ℕ) → move_by table rows branches i a b h + gate (eqb (row_of rows i).own a) (able_in table i) * units_into g b h (bs i) ≡ move_by table rows branches (suc i) a b h
  unfolding move_by move_of
  move_next i a b h =
      ap (λ (w : ℕ). move_by table rows branches i a b h + w) (sym (gate_out (eqb (row_of rows i).own a) (able_in table i) (units_into g b h (bs i))))
      ∙ sym (total_suc i (λ j. able_in table j * move_of g (weighing_row rows branches j) a b h))

  stay_next : (i h : ℕ) → stay_by table rows branches i h + able_in table i * units_into g (row_of rows i).own h (bs i) ≡ stay_by table rows branches (suc i) h
  unfolding stay_by stay_of
  stay_next i h = sym (total_suc i (λ j. able_in table j * stay_of g (weighing_row rows branches j) h))

  -- the row of a state
  pub row_start : (a : ℕ) → zeros weight_places ≡ row_from table rows branches 0 a
  unfolding row_from move_by zeros
  row_start a = refl

  pub row_next : (i a : ℕ) {able : ℕ} → able ≡ gate (eqb (row_of rows i).own a) (able_in table i) → {is : List ℕ} → is ≡ row_from table rows branches i a
      → added g able (bs i) is ≡ row_from table rows branches (i + 1) a
  unfolding row_from
  row_next i a e p =
      ap₂ (λ (l : List ℕ) (m : ℕ). added g m (bs i) l) p e
      ∙ raised_next weight_places (by_place (move_by table rows branches i a)) (by_place (move_by table rows branches (suc i) a)) (by_place (λ b h. units_into g b h (bs i)))
      (gate (eqb (row_of rows i).own a) (able_in table i)) (λ q l. move_next i a (q / most_shared) (q % most_shared))
      ∙ ap (λ (k : ℕ). row_from table rows branches k a) (sym (add-one i))

  pub row_still : (i a : ℕ) {able : ℕ} → able ≡ gate (eqb (row_of rows i).own a) (able_in table i) → able ≡ 0 → {is : List ℕ} → is ≡ row_from table rows branches i a
      → is ≡ row_from table rows branches (i + 1) a
  unfolding row_from
  row_still i a e z p =
      p
      ∙ upto_cong weight_places (by_place (move_by table rows branches i a)) (by_place (move_by table rows branches (suc i) a)) (λ q l. none_more (gate (eqb (row_of rows i).own a) (able_in table i)) _ (move_next i a (q / most_shared) (q % most_shared)) (sym e ∙ z))
      ∙ ap (λ (k : ℕ). row_from table rows branches k a) (sym (add-one i))

  -- the weights of no change
  pub stays_start : replicate most_shared 0 ≡ stays table rows branches 0
  unfolding stays stay_by
  stays_start = refl

  pub stays_next : (i : ℕ) {is : List ℕ} → is ≡ stays table rows branches i → added_stays g (row_of rows i).own (able_in table i) (bs i) is ≡ stays table rows branches (i + 1)
  unfolding stays
  stays_next i p =
      ap (added_stays g (row_of rows i).own (able_in table i) (bs i)) p
      ∙ raised_next most_shared (stay_by table rows branches i) (stay_by table rows branches (suc i)) (λ h. units_into g (row_of rows i).own h (bs i)) (able_in table i) (λ h l. stay_next i h)
      ∙ ap (stays table rows branches) (sym (add-one i))

  pub stays_still : (i : ℕ) → able_in table i ≡ 0 → {is : List ℕ} → is ≡ stays table rows branches i → is ≡ stays table rows branches (i + 1)
  unfolding stays
  stays_still i z p =
      p
      ∙ upto_cong most_shared (stay_by table rows branches i) (stay_by table rows branches (suc i)) (λ h l. none_more (able_in table i) _ (stay_next i h) z)
      ∙ ap (stays table rows branches) (sym (add-one i))

  pub stays_long : (count : ℕ) {l : List ℕ} → l ≡ stays table rows branches count → length l ≡ most_shared
  unfolding stays
  stays_long count e = ap length e ∙ length_upto most_shared (stay_by table rows branches count)

  -- in the table
  pub stored : (mode count : ℕ) → (mode ≡ 0 → ⊥) → {l : List ℕ} → l ≡ stays table rows branches count
      → over stays_from (length l) (λ h. get_or l h 0) table ≡ stayed (either nondeterministic probabilistic mode) rows branches count table
  unfolding stays stayed
  stored mode count s {l} e = rw (ne_eqb mode 0 s, e, length_upto most_shared (stay_by table rows branches count))
      (over_cong stays_from _ (stay_by table rows branches count) table most_shared (λ h k. get_d_upto most_shared (stay_by table rows branches count) h 0 k))

  pub stored_none : (mode count : ℕ) → mode ≡ 0 → table ≡ stayed (either nondeterministic probabilistic mode) rows branches count table
  unfolding stayed
  stored_none mode count z = rw (eq-eqb mode 0 z)

-- ---- what the code adds up fits

module _ {h : Head} {rows branches table : List ℕ} (w : Weighing h rows branches table) where
  row_light : (i : ℕ) → i ≤ h.count → (a : ℕ) → Most heaviest (row_from table rows branches i a)
  unfolding row_from move_by move_of
  row_light i l a = upto_most weight_places (by_place (move_by table rows branches i a)) heaviest (λ p _.
      omega (
        arith,
        w.able.statements,
        total_most i (λ j. able_in table j * move_of (shared_in table) (weighing_row rows branches j) a (p / most_shared) (p % most_shared)) (most_seats * unit) (λ j k.
            mul-le-mul (w.able.seats j (omega arith)) (le_trans (gate_le (eqb (row_of rows j).own a) _) (w.fitting.units j (omega arith) (shared_in table) (p / most_shared) (p % most_shared)))),
      ))

  stays_light : (i : ℕ) → i ≤ h.count → Most heaviest (stays table rows branches i)
  unfolding stays stay_by stay_of
  stays_light i l = upto_most most_shared (stay_by table rows branches i) heaviest (λ p _.
      omega (
        arith,
        w.able.statements,
        total_most i (λ j. able_in table j * stay_of (shared_in table) (weighing_row rows branches j) p) (most_seats * unit) (λ j k.
            mul-le-mul (w.able.seats j (omega arith)) (w.fitting.units j (omega arith) (shared_in table) (row_of rows j).own p)),
      ))

  pub row_adding : (i : ℕ) → i < h.count → (a : ℕ) {able : ℕ} → able ≡ gate (eqb (row_of rows i).own a) (able_in table i) → {is : List ℕ} → is ≡ row_from table rows branches i a
      → Adding able (shared_in table) i (row_of rows i).branches branches weight_places is
  unfolding row_from
  row_adding i l a e p = record {
    few = rw e (le_trans (gate_le (eqb (row_of rows i).own a) (able_in table i)) (w.able.seats i l));
    shared = w.shared;
    statement = omega (arith, w.able.statements);
    fit = (w.fitting.fit.each i l).branches;
    there = w.fitting.there;
    light = rw p (row_light i (omega arith) a);
    long = rw p (length_upto weight_places (by_place (move_by table rows branches i a)));
  }

  pub stays_adding : (i : ℕ) → i < h.count → {is : List ℕ} → is ≡ stays table rows branches i
      → Adding (able_in table i) (shared_in table) i (row_of rows i).branches branches most_shared is
  unfolding stays
  stays_adding i l p = record {
    few = w.able.seats i l;
    shared = w.shared;
    statement = omega (arith, w.able.statements);
    fit = (w.fitting.fit.each i l).branches;
    there = w.fitting.there;
    light = rw p (stays_light i (omega arith));
    long = rw p (length_upto most_shared (stay_by table rows branches i));
  }
