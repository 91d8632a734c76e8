-- The seats' turns by counts. A seat in a statement's local state may take it exactly where its guard is held at the counts, and its turn,
-- read by counts, is the reduced statement's. So anything summed over the turns of the seats is how many they are times that of one.
-- Assumes nothing.
use Prim.Native.Nat.{ℕ, ◌*◌, ◌<◌}
use mathlib.Core.Path.{◌≡◌, refl, sym, ap, ◌∙◌}
use mathlib.Core.Bool.{Bool, true, false, ◌&&◌, and-eq-true_iff}
use native.Mathlib.Omega.{arith}
use borrow.Author.Tests.{eqb-true}
use lib.Dec.{eqb}
use lib.ListN.{length}
use Rattle.card.specs.Valid.{Every}
use Rattle.card.specs.Card.{Statement}
use Rattle.meaning.specs.Sums.{gate, sum, upto, those}
use Rattle.meaning.specs.Formulas.{value_or}
use Rattle.meaning.specs.Position.{position, set_to}
use Rattle.meaning.specs.Steps.{Step, Turn}
use Rattle.meaning.specs.Seats.{Seating, state, count, counts, counted, holds, may_take, turn, turns_by}
use Rattle.meaning.specs.Reduced.{Outcome, updated, copy, reduced_turn}
use Rattle.meaning.specs.Demand.{by_counts}
use Rattle.meaning.specs.ByCounts.{held_or, able}
use Rattle.meaning.proofs.Sums.{gate_and, gate_out, sum_those, sum_one, sum_map, map_map, map_cong, every_imp, every_those, every_map, every_upto, sum_upto, below_cong}
use Rattle.meaning.proofs.Counting.{Within, no_count, over_seats, moved_counts}
use Rattle.meaning.proofs.Table.{guard_right}

-- ---- one statement

-- its guard, at the counts of a seating
abbrev pub held : ℕ → Seating → Statement → Bool
held k x s = held_or (length x.each) s.own (counted k x) s.guard

module _ (k : ℕ) (x : Seating) (w : Within k x.each) (s : Statement) where
  pub may_take_law : (i : ℕ) → i < length x.each → may_take s x i ≡ (eqb (state x.each i) s.own && held k x s)
  unfolding may_take
  may_take_law i l = go (eqb (state x.each i) s.own) refl
    where
      go : (b : Bool) → eqb (state x.each i) s.own ≡ b → (b && value_or (holds x i) s.guard) ≡ (b && held k x s)
      go true e = rw (← eqb-true (state x.each i) s.own e) (guard_right k x w i l s.guard)
      go false e = refl

  -- what it says that seat i may take it
  pub takes : (i : ℕ) → i < length x.each → may_take s x i ≡ true → (state x.each i ≡ s.own) × (held k x s ≡ true)
  takes i l e =
      let b = (and-eq-true_iff (eqb (state x.each i) s.own) (held k x s)).0 (sym (may_take_law i l) ∙ e) in
      (eqb-true _ _ b.0, b.1)

  -- the turn of a seat in the local state, read by counts
  pub turn_by_counts : (i : ℕ) → i < length x.each → state x.each i ≡ s.own → (m : ℕ) → by_counts k (turn s x i) ≡ reduced_turn (counted k x) (copy (length x.each) s m)
  unfolding turn reduced_turn copy
  turn_by_counts i l e m =
      map_map (λ (b : Step Seating). record { units = b.units; next = counted k b.next }) _ s.branches
      ∙ map_cong s.branches (λ b r. record { units = b.units; next = position (moved_counts k x.each w i l s.own b.end e r) (set_to x.shared b.sets) })
      ∙ sym (map_map (λ (o : Outcome). record { units = o.units; next = position (updated (counts k x.each) o.update) (set_to x.shared o.sets) }) _ s.branches)

  -- a sum over the turns, where each seat's is e
  pub turns_sum : (f : Turn Seating → ℕ) (e : ℕ) → ((i : ℕ) → i < length x.each → state x.each i ≡ s.own → f (turn s x i) ≡ e)
      → sum f (turns_by s x) ≡ able (length x.each) (counted k x) s * e
  unfolding turns_by able
  turns_sum f e h =
      sum_map f (turn s x) (those (may_take s x) (upto (length x.each) (λ i. i)))
      ∙ sum_those (λ i. f (turn s x i)) (may_take s x) (upto (length x.each) (λ i. i))
      ∙ sum_upto (λ i. gate (may_take s x i) (f (turn s x i))) (length x.each) (λ i. i)
      ∙ below_cong (length x.each) _ (λ i. gate (eqb (state x.each i) s.own) (gate (held k x s) e)) seat
      ∙ over_seats s.own (gate (held k x s) e) x.each
      ∙ gate_out (held k x s) (count s.own x.each) e
      ∙ ap (λ (c : ℕ). gate (held k x s) c * e) (sym (no_count k x.each w s.own))
    where
      seat : (i : ℕ) → i < length x.each → gate (may_take s x i) (f (turn s x i)) ≡ gate (eqb (state x.each i) s.own) (gate (held k x s) e)
      seat i l = rw (may_take_law i l, gate_and) (go (eqb (state x.each i) s.own) refl)
        where
          go : (b : Bool) → eqb (state x.each i) s.own ≡ b → gate b (gate (held k x s) (f (turn s x i))) ≡ gate b (gate (held k x s) e)
          go true p = ap (gate (held k x s)) (h i l (eqb-true _ _ p))
          go false p = refl

  -- how many
  pub turns_length : length (turns_by s x) ≡ able (length x.each) (counted k x) s
  turns_length = sym (sum_one (turns_by s x)) ∙ turns_sum (λ t. 1) 1 (λ i l e. refl) ∙ omega arith

-- each of the turns is that of a seat that may take the statement
abbrev pub Taker : Statement → Seating → Turn Seating → Type 0
Taker s x t = (i : ℕ) × (i < length x.each) × (may_take s x i ≡ true) × (t ≡ turn s x i)

pub takers : (s : Statement) (x : Seating) → Every (Taker s x) (turns_by s x)
unfolding turns_by
takers s x =
    every_map (Taker s x) (turn s x) (those (may_take s x) (upto (length x.each) (λ i. i)))
    (every_imp _ (those (may_take s x) (upto (length x.each) (λ i. i)))
    (every_those (λ i. i < length x.each) (may_take s x) (upto (length x.each) (λ i. i)) (every_upto (λ i. i < length x.each) (length x.each) (λ i. i) (λ i l. l)))
    (λ i p. (i, p.0, p.1, refl)))
