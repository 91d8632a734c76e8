-- Bounds that let machine numbers hold what the panel shows: no more seats than n may take a statement, and one seat's weights are parts of
-- the unit. For any list of valid statements, so also for those of a card seen so far. Assumes nothing.
use Prim.Native.Nat.{ℕ, zero, suc, ◌*◌, ◌≤◌}
use mathlib.Core.Bool.{◌&&◌}
use mathlib.Core.List.{List, [], ◌∷◌}
use native.Mathlib.Nat.{le_trans, mul-suc, mul-le-mul_left, mul-le-mul}
use native.Mathlib.Omega.{arith}
use lib.Dec.{eqb, ltb}
use lib.ListN.{length, take}
use Rattle.card.specs.Limits.{unit, most_seats, most_statements}
use Rattle.card.specs.Valid.{Every, total, ValidStatement, ValidCard}
use Rattle.card.specs.Card.{Mode, nondeterministic, probabilistic, Branch, Statement, Card}
use Rattle.meaning.specs.Sums.{gate, or_one, sum}
use Rattle.meaning.specs.Seats.{Seating, ValidSeating, counts, counted}
use Rattle.meaning.specs.Position.{Position, set_to}
use Rattle.meaning.specs.Reduced.{no_of}
use Rattle.meaning.specs.Panel.{panel}
use Rattle.meaning.specs.ByCounts.{held_or, able, units_to, units_into, stay_of, move_of, all_able, all_stay, all_move, count_taken, count_enabled, count_panel}
use Rattle.meaning.proofs.Sums.{gate_le, sum_mono, sum_times}
use Rattle.meaning.proofs.Counting.{count_le, no_count}
use Rattle.meaning.proofs.Panel.{panel_by_counts}

-- ---- by counts

-- no counter is above n
abbrev pub Few : ℕ → List ℕ → Type 0
Few n v = (d : ℕ) → no_of v d ≤ n

pub counts_few : (k : ℕ) (x : List ℕ) → Every (λ a. a ≤ k) x → Few (length x) (counts k x)
counts_few k x w d = rw (no_count k x w d) (count_le d x)

pub units_le : (t : ℕ) (l : List Branch) → units_to t l ≤ total l
unfolding units_to
units_le t [] = omega arith
units_le t (b ∷ l) = omega (arith, gate_le (eqb b.end t) b.units, units_le t l)

pub into_le : (g t h : ℕ) (l : List Branch) → units_into g t h l ≤ total l
unfolding units_into
into_le g t h [] = omega arith
into_le g t h (b ∷ l) = omega (arith, gate_le (eqb b.end t && eqb (set_to g b.sets) h) b.units, into_le g t h l)

pub total_take : (i : ℕ) (l : List Branch) → total (take i l) ≤ total l
total_take zero l = omega arith
total_take (suc i) [] = omega arith
total_take (suc i) (b ∷ l) = omega (arith, total_take i l)

module _ (n k values g : ℕ) (s : Statement) (ok : ValidStatement n k values s) where
  pub stay_le : (h : ℕ) → stay_of g s h ≤ unit
  unfolding stay_of
  stay_le h = omega (arith, into_le g s.own h s.branches, ok.sum)

  pub move_le : (a b h : ℕ) → move_of g s a b h ≤ unit
  unfolding move_of
  move_le a b h = omega (arith, gate_le (eqb s.own a) (units_into g b h s.branches), into_le g b h s.branches, ok.sum)

module _ (n : ℕ) (v : Position) (few : Few n v.each) where
  pub able_le : (s : Statement) → able n v s ≤ n
  unfolding able
  able_le s = omega (arith, gate_le (held_or n s.own v s.guard) (no_of v.each s.own), few s.own)

  pub all_able_le : (l : List Statement) → all_able n v l ≤ n * length l
  unfolding all_able
  all_able_le [] = omega arith
  all_able_le (s ∷ l) = rw (mul-suc n (length l)) (omega (arith, able_le s, all_able_le l))

  -- what each seat weighs is at most the unit
  weights_le : (k values : ℕ) (f : Statement → ℕ) → ((s : Statement) → ValidStatement n k values s → f s ≤ unit) → (l : List Statement) → Every (ValidStatement n k values) l
      → sum (λ s. able n v s * f s) l ≤ all_able n v l * unit
  unfolding all_able
  weights_le k values f h l ok = rw (← sum_times (able n v) unit l) (sum_mono _ _ l ok (λ s v₁. mul-le-mul_left (able n v s) (h s v₁)))

  pub all_stay_le : (k values : ℕ) (l : List Statement) → Every (ValidStatement n k values) l → (h : ℕ) → all_stay n v l h ≤ all_able n v l * unit
  unfolding all_stay
  all_stay_le k values l ok h = weights_le k values (λ s. stay_of v.shared s h) (λ s v₁. stay_le n k values v.shared s v₁ h) l ok

  pub all_move_le : (k values : ℕ) (l : List Statement) → Every (ValidStatement n k values) l → (a b h : ℕ) → all_move n v l a b h ≤ all_able n v l * unit
  unfolding all_move
  all_move_le k values l ok a b h = weights_le k values (λ s. move_of v.shared s a b h) (λ s v₁. move_le n k values v.shared s v₁ a b h) l ok

  -- statements that can be taken are statements
  some_able_le : 1 ≤ n → (l : List Statement) → sum (λ s. gate (ltb 0 (able n v s)) 1) l ≤ n * length l
  some_able_le h [] = omega arith
  some_able_le h (s ∷ l) = rw (mul-suc n (length l)) (omega (arith, gate_le (ltb 0 (able n v s)) 1, some_able_le h l))

  taken_le : 1 ≤ n → (m : Mode) (l : List Statement) → count_taken m n v l ≤ n * length l
  unfolding count_taken
  taken_le h probabilistic l = all_able_le l
  taken_le h nondeterministic l = some_able_le h l

  -- the stuck step is no more than one seat and one statement
  pub enabled_le : 1 ≤ n → (m : Mode) (l : List Statement) → 1 ≤ length l → count_enabled m n v l ≤ n * length l
  unfolding count_enabled
  enabled_le h m l some = go (count_taken m n v l) (taken_le h m l)
    where
      go : (t : ℕ) → t ≤ n * length l → or_one t ≤ n * length l
      go zero e = mul-le-mul h some
      go (suc t) e = e

-- ---- of the panel of a valid card

module _ (c : Card) (valid : ValidCard c) (x : Seating) (ok : ValidSeating c x) where
  pub panel_enabled_le : (panel c x).enabled ≤ c.n * length c.statements
  unfolding count_panel
  panel_enabled_le = rw (panel_by_counts c x ok)
      (enabled_le c.n (counted c.k x) (λ d. rw (← ok.seats) (counts_few c.k x.each ok.states d)) valid.seats c.mode c.statements valid.some.0)

  pub panel_enabled_most : (panel c x).enabled ≤ most_seats * most_statements
  panel_enabled_most = le_trans panel_enabled_le (mul-le-mul valid.seats_most valid.some.1)
