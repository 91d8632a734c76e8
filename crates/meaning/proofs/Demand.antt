-- Demand 3. A turn of the seats read by counts is a reduced turn (Turns). On a probabilistic card as many seats may take a statement as
-- copies of it hold; on a nondeterministic card some seat may exactly where the one copy holds. So nothing can be taken by seats exactly where
-- nothing can be by counts, and the stuck step is the same. Assumes nothing.
use Prim.Native.Nat.{ℕ, suc, ◌*◌, ◌≤◌, ◌<◌}
use mathlib.Core.Path.{◌≡◌, refl, sym, ap, ◌∙◌}
use mathlib.Core.Logic.{◌↔◌}
use mathlib.Core.Bool.{Bool, true, false, ◌&&◌, and-eq-true_iff, true≢false}
use mathlib.Core.List.{List, [], ◌∷◌, ◌++◌, map}
use native.Mathlib.Omega.{arith}
use borrow.Author.Tests.{ltb-true, lt-ltb, eq-eqb}
use lib.Dec.{ltb}
use lib.ListN.{length, replicate}
use Rattle.card.specs.Text.{when◌then◌else◌}
use Rattle.card.specs.Card.{Mode, nondeterministic, probabilistic, Statement, Card}
use Rattle.card.specs.Valid.{Every}
use Rattle.meaning.specs.Sums.{gate, sum, upto, flat}
use Rattle.meaning.specs.Position.{Position}
use Rattle.meaning.specs.Steps.{Step, Turn, weight}
use Rattle.meaning.specs.Choices.{Choice, choice, choices_of, stay, turns_in}
use Rattle.meaning.specs.Offers.{OneForOne, SameChoice, Offers}
use Rattle.meaning.specs.Seats.{Seating, ValidSeating, state, count, counts, counted, may_take, turns_by, choices_from, choices, turns, steps, Stuck}
use Rattle.meaning.specs.Reduced.{no_of, Reduced, copy, copies, reduce, can_take, reduced_turn, reduced_turns_by, reduced_choices, reduced_turns, reduced_steps, StuckAt}
use Rattle.meaning.specs.ByCounts.{held_or, able}
use Rattle.meaning.specs.Demand.{by_counts, same_position, into, Matches, Agrees}
use Rattle.meaning.proofs.Sums.{gate_and, gate_out, sum_cong, sum_flat, sum_map, sum_upto, below_cong, below_first, upto_cong, every_imp}
use Rattle.meaning.proofs.Choices.{Some, choices_some, choices_sum, both_none, stuck_too}
use Rattle.meaning.proofs.Counting.{Within, count_le, count_replicate, no_count, present, find}
use Rattle.meaning.proofs.Table.{test_held}
use Rattle.meaning.proofs.Turns.{held, may_take_law, takes, turn_by_counts, turns_sum, Taker, takers}
use Rattle.meaning.proofs.Stuck.{no_taker, nothing_taken, stuck_step, none_taken_at, stuck_step_at}

-- ---- the reduced program, at any counts

pub can_take_law : (n : ℕ) (s : Statement) (m : ℕ) (v : Position) → can_take v (copy n s m) ≡ (ltb m (no_of v.each s.own) && held_or n s.own v s.guard)
unfolding can_take copy
can_take_law n s m v = ap (λ (b : Bool). ltb m (no_of v.each s.own) && b) (test_held n s.own v s.guard)

-- the first test is no part of the turn
same_turn : (n : ℕ) (s : Statement) (m : ℕ) (v : Position) → reduced_turn v (copy n s m) ≡ reduced_turn v (copy n s 0)
unfolding reduced_turn copy
same_turn n s m v = refl

-- a sum over the turns of a statement's n copies
copies_sum : (F : Turn Position → ℕ) (n : ℕ) (s : Statement) (v : Position) → no_of v.each s.own ≤ n
    → sum (λ r. gate (can_take v r) (F (reduced_turn v r))) (upto n (copy n s)) ≡ able n v s * F (reduced_turn v (copy n s 0))
unfolding able
copies_sum F n s v h =
    sum_upto _ n (copy n s)
    ∙ below_cong n _ (λ m. gate (ltb m (no_of v.each s.own)) (gate g e)) (λ m l. rw (can_take_law n s m v, same_turn n s m v) (gate_and (ltb m (no_of v.each s.own)) g e))
    ∙ below_first (gate g e) n (no_of v.each s.own) h
    ∙ gate_out g (no_of v.each s.own) e
  where
    g : Bool
    g = held_or n s.own v s.guard

    e : ℕ
    e = F (reduced_turn v (copy n s 0))

-- over the one turn of a statement, if it can be taken
turn_sum : (F : Turn Position → ℕ) (v : Position) (r : Reduced) → sum F (reduced_turns_by v r) ≡ gate (can_take v r) (F (reduced_turn v r))
unfolding reduced_turns_by
turn_sum F v r = go (can_take v r)
  where
    go : (b : Bool) → sum F (when b then reduced_turn v r ∷ [] else []) ≡ gate b (F (reduced_turn v r))
    go true = omega arith
    go false = refl

-- over the turns of the whole program
pub program_sum : (F : Turn Position → ℕ) (n : ℕ) (l : List Statement) (v : Position) → ((j : ℕ) → no_of v.each j ≤ n)
    → sum F (turns_in (choices_of (reduced_turns_by v) 1 (flat (map (copies probabilistic n) l)))) ≡ sum (λ s. able n v s * F (reduced_turn v (copy n s 0))) l
program_sum F n l v h =
    let g : Reduced → ℕ = λ r. gate (can_take v r) (F (reduced_turn v r)) in
    choices_sum (reduced_turns_by v) F 1 (flat (map (copies probabilistic n) l))
    ∙ sum_cong (flat (map (copies probabilistic n) l)) (turn_sum F v)
    ∙ sum_flat g (map (copies probabilistic n) l)
    ∙ sum_map (sum g) (copies probabilistic n) l
    ∙ sum_cong l (λ s. copies_sum F n s v (h s.own))

-- ---- the seats of a probabilistic card

module _ (c : Card) (x : Seating) (ok : ValidSeating c x) where
  few : (j : ℕ) → no_of (counts c.k x.each) j ≤ c.n
  few j = rw (no_count c.k x.each ok.states j, ← ok.seats) (count_le j x.each)

  -- anything summed over the turns, seen in the counts
  turns_by_counts : (F : Turn Position → ℕ)
      → sum (λ t. F (by_counts c.k t)) (turns_in (choices_from 1 c.statements x))
      ≡ sum (λ s. able c.n (counted c.k x) s * F (reduced_turn (counted c.k x) (copy c.n s 0))) c.statements
  turns_by_counts F =
      choices_sum (λ s. turns_by s x) (λ t. F (by_counts c.k t)) 1 c.statements
      ∙ rw (← ok.seats) (sum_cong c.statements (λ s. turns_sum c.k x ok.states s _ _ (λ i l e. ap F (turn_by_counts c.k x ok.states s i l e 0))))

-- ---- one statement, and its one copy

module _ (k : ℕ) (x : Seating) (w : Within k x.each) (s : Statement) where
  to : ((i : ℕ) × (i < length x.each) × (may_take s x i ≡ true)) → can_take (counted k x) (copy (length x.each) s 0) ≡ true
  to (i, l, e) =
      let t = takes k x w s i l e in
      can_take_law (length x.each) s 0 (counted k x) ∙ rw (no_count k x.each w s.own, lt-ltb 0 (count s.own x.each) (present s.own x.each i l t.0)) t.1

  from : can_take (counted k x) (copy (length x.each) s 0) ≡ true → (i : ℕ) × (i < length x.each) × (may_take s x i ≡ true)
  from e =
      let b = (and-eq-true_iff (ltb 0 (no_of (counts k x.each) s.own)) (held k x s)).0 (sym (can_take_law (length x.each) s 0 (counted k x)) ∙ e) in
      let (i, l, p) = find s.own x.each (rw (no_count k x.each w s.own) at (ltb-true 0 (no_of (counts k x.each) s.own) b.0)) in
      (i, l, may_take_law k x w s i l ∙ rw (eq-eqb (state x.each i) s.own p) b.1)

  matches : Matches k x s (copy (length x.each) s 0)
  matches = record { taken = (to, from); steps = λ i l e. turn_by_counts k x w s i l (takes k x w s i l e).0 0 }

module _ (k : ℕ) (x : Seating) (w : Within k x.each) where
  abbrev v : Position
  v = counted k x

  match_all : (l : List Statement) → OneForOne (Matches k x) l (flat (map (copies nondeterministic (length x.each)) l))
  match_all [] = tt
  match_all (s ∷ l) = (matches k x w s, match_all l)

  -- the choices by seats and by counts, without the stuck one
  same_choices : (q : ℕ) (l : List Statement)
      → OneForOne (SameChoice (counted k)) (choices_from q l x) (choices_of (reduced_turns_by v) q (flat (map (copies nondeterministic (length x.each)) l)))
  unfolding choices_of reduced_turns_by
  same_choices q [] = tt
  same_choices q (s ∷ l) = go (turns_by s x) (can_take v (copy (length x.each) s 0)) refl refl (takers s x) (same_choices (suc q) l)
    where
      rest : List Reduced
      rest = flat (map (copies nondeterministic (length x.each)) l)

      go : (m : List (Turn Seating)) (b : Bool) → turns_by s x ≡ m → can_take v (copy (length x.each) s 0) ≡ b → Every (Taker s x) m
          → OneForOne (SameChoice (counted k)) (choices_from (suc q) l x) (choices_of (reduced_turns_by v) (suc q) rest)
          → OneForOne (SameChoice (counted k)) (choice q m ++ choices_from (suc q) l x)
          (choice q (when b then reduced_turn v (copy (length x.each) s 0) ∷ [] else []) ++ choices_of (reduced_turns_by v) (suc q) rest)
      go [] true p e h r = let (i, l, may) = (matches k x w s).taken.1 e in absurd (true≢false (sym may ∙ no_taker s x p i l))
      go [] false p e h r = r
      go (t ∷ m) true p e h r = (
        record {
          place = refl;
          turn = reduced_turn v (copy (length x.each) s 0);
          only = refl;
          some = omega arith;
          each = every_imp (Taker s x) (t ∷ m) h (λ u y. let (i, l, may, is) = y in rw is ((matches k x w s).steps i l may));
        },
        r,
      )
      go (t ∷ m) false p e h r = let (i, l, may, is) = h.0 in absurd (true≢false (sym ((matches k x w s).taken.0 (i, l, may)) ∙ e))

-- ---- either card

module _ (c : Card) (x : Seating) (ok : ValidSeating c x) where
  abbrev by_seats : List (Choice Seating)
  by_seats = choices_from 1 c.statements x

  abbrev at_counts : List (Choice Position)
  at_counts = choices_of (reduced_turns_by (counted c.k x)) 1 (reduce c).statements

  -- without the stuck choice
  taken_offers : (m : Mode) → c.mode ≡ m → Offers m (counted c.k) by_seats at_counts
  unfolding reduce
  taken_offers probabilistic e = λ F. turns_by_counts c x ok F ∙ rw e (sym (program_sum F c.n c.statements (counted c.k x) (few c x ok)))
  taken_offers nondeterministic e = rw (e, ← ok.seats) (same_choices c.k x ok.states 1 c.statements)

  some_seats : Every Some by_seats
  some_seats = choices_some (λ s. turns_by s x) 1 c.statements

  some_counts : Every Some at_counts
  some_counts = choices_some (reduced_turns_by (counted c.k x)) 1 (reduce c).statements

  -- the seats and their counts offer the same
  pub offers : Offers c.mode (counted c.k) (choices c x) (reduced_choices (reduce c) (counted c.k x))
  unfolding choices reduced_choices
  offers = stuck_too (counted c.k) c.mode x by_seats at_counts some_seats some_counts (taken_offers c.mode refl)

  -- a seating is stuck exactly where its counts are
  pub stuck_alike : Stuck c x ↔ StuckAt (reduce c) (counted c.k x)
  stuck_alike =
      let both = both_none (counted c.k) c.mode by_seats at_counts some_seats some_counts (taken_offers c.mode refl) in
      let at-counts = none_taken_at (reduce c) (counted c.k x) in
      (λ h. at-counts.1 (both.0 ((nothing_taken c x).0 h)), λ h. (nothing_taken c x).1 (both.1 (at-counts.0 h)))

  -- and then there is one step on either side
  pub stuck_steps : Stuck c x → (steps c x ≡ stay x) × (reduced_steps (reduce c) (counted c.k x) ≡ stay (counted c.k x))
  stuck_steps h = (stuck_step c x h, stuck_step_at (reduce c) (counted c.k x) (stuck_alike.0 h))

-- ---- the demand

module _ (c : Card) (x : Seating) (ok : ValidSeating c x) where
  into_alike : Offers probabilistic (counted c.k) (choices c x) (reduced_choices (reduce c) (counted c.k x)) → Agrees probabilistic c x
  unfolding steps turns reduced_steps reduced_turns weight
  into_alike o u =
      sum_map (λ (s : Step Position). gate (same_position s.next u) s.units) _ (flat (turns c x))
      ∙ sum_flat _ (turns c x)
      ∙ sum_cong (turns c x) (λ t. sym (sum_map (λ (s : Step Position). gate (same_position s.next u) s.units) _ t))
      ∙ o (into u)
      ∙ sym (sum_flat _ (reduced_turns (reduce c) (counted c.k x)))

  statements_match : c.mode ≡ nondeterministic → OneForOne (Matches c.k x) c.statements (reduce c).statements
  unfolding reduce
  statements_match e = rw (e, ← ok.seats) (match_all c.k x ok.states c.statements)

  pub demand : Agrees c.mode c x
  demand = go c.mode refl (offers c x ok)
    where
      go : (m : Mode) → c.mode ≡ m → Offers m (counted c.k) (choices c x) (reduced_choices (reduce c) (counted c.k x)) → Agrees m c x
      go probabilistic e o = into_alike o
      go nondeterministic e o = (statements_match e, o)

-- the reduced program starts at the counts of all seats in state l
pub starts : (c : Card) → (reduce c).start ≡ counts c.k (replicate c.n c.l)
unfolding reduce counts
starts c = upto_cong (suc c.k) _ _ (λ d l. sym (count_replicate d c.n c.l))
