-- The relation is total: each turn weighs the unit, by a statement's weights or as the stuck one, so it has a step; and there is a turn always.
-- Assumes nothing.
use Prim.Native.Nat.{ℕ, ◌+◌, ◌≤◌}
use mathlib.Core.Path.{◌≡◌, refl, ap, ◌∙◌}
use mathlib.Core.Bool.{Bool, true, false}
use mathlib.Core.List.{List, [], ◌∷◌, map}
use native.Mathlib.Omega.{arith}
use lib.ListN.{length}
use Rattle.card.specs.Text.{when◌then◌else◌}
use Rattle.card.specs.Card.{Mode, nondeterministic, probabilistic, Branch, Statement, Card}
use Rattle.card.specs.Valid.{Every, total, ValidStatement, ValidCard}
use Rattle.meaning.specs.Sums.{sum}
use Rattle.meaning.specs.Position.{Position}
use Rattle.meaning.specs.Steps.{Step}
use Rattle.meaning.specs.Choices.{choices_of, turns_in}
use Rattle.meaning.specs.Seats.{Seating, turn, turns_by, choices_from, choices, turns, steps}
use Rattle.meaning.specs.Reduced.{Outcome, update_of, Reduced, copy, copies, reduce}
use Rattle.meaning.specs.Reduced.{can_take, reduced_turn, reduced_turns_by, reduced_choices, reduced_turns, reduced_steps}
use Rattle.meaning.proofs.Sums.{sum_map, every_flat, every_map, every_upto, every_imp}
use Rattle.meaning.proofs.Choices.{Full, choices_some, choices_turns, or_stay_every, total as some_step}
use Rattle.meaning.proofs.Turns.{Taker, takers}

-- ---- one turn

total_sum : (l : List Branch) → sum (λ (b : Branch). b.units) l ≡ total l
total_sum [] = refl
total_sum (b ∷ l) = ap (λ (r : ℕ). b.units + r) (total_sum l)

module _ {n k values : ℕ} (s : Statement) (v : ValidStatement n k values s) where
  pub turn_full : (x : Seating) (i : ℕ) → Full (turn s x i)
  unfolding turn
  turn_full x i = sum_map (λ (s : Step Seating). s.units) _ s.branches ∙ total_sum s.branches ∙ v.sum

  turns_full : (x : Seating) → Every Full (turns_by s x)
  turns_full x = every_imp (Taker s x) (turns_by s x) (takers s x) (λ t m. let (i, l, may, e) = m in rw e (turn_full x i))

  copy_full : (u : Position) (c m : ℕ) → Full (reduced_turn u (copy c s m))
  unfolding reduced_turn copy
  copy_full u c m =
      sum_map (λ (s : Step Position). s.units) _ (map (λ (b : Branch). record { units = b.units; update = update_of c s.own b.end; sets = b.sets }) s.branches)
      ∙ sum_map (λ (o : Outcome). o.units) _ s.branches
      ∙ total_sum s.branches
      ∙ v.sum

-- the one turn of a reduced statement, if any
once_full : (u : Position) (r : Reduced) → Full (reduced_turn u r) → Every Full (reduced_turns_by u r)
unfolding reduced_turns_by
once_full u r f = go (can_take u r)
  where
    go : (b : Bool) → Every Full (when b then reduced_turn u r ∷ [] else [])
    go true = (f, tt)
    go false = tt

copies_full : {n k values : ℕ} (m : Mode) (c : ℕ) (s : Statement) → ValidStatement n k values s → (u : Position) → Every (λ r. Full (reduced_turn u r)) (copies m c s)
copies_full nondeterministic c s v u = (copy_full s v u c 0, tt)
copies_full probabilistic c s v u = every_upto (λ r. Full (reduced_turn u r)) c (copy c s) (λ m l. copy_full s v u c m)

-- ---- all turns of a valid card

module _ (c : Card) (valid : ValidCard c) where
  module _ (x : Seating) where
    taken_full : Every Full (turns_in (choices_from 1 c.statements x))
    taken_full = choices_turns (λ s. turns_by s x) Full 1 c.statements (every_imp _ c.statements valid.statements (λ s v. turns_full s v x))

    pub seats_full : Every Full (turns c x)
    unfolding turns choices
    seats_full = or_stay_every x Full (choices_from 1 c.statements x) (omega arith) taken_full

    pub seats_total : 1 ≤ length (steps c x)
    unfolding steps turns choices
    seats_total = some_step x (choices_from 1 c.statements x) (choices_some (λ s. turns_by s x) 1 c.statements) taken_full

  module _ (u : Position) where
    program_full : Every (λ r. Every Full (reduced_turns_by u r)) (reduce c).statements
    unfolding reduce
    program_full = every_flat _ (map (copies c.mode c.n) c.statements)
        (every_map (Every (λ r. Every Full (reduced_turns_by u r))) (copies c.mode c.n) c.statements
        (every_imp _ c.statements valid.statements (λ s v. every_imp _ (copies c.mode c.n s) (copies_full c.mode c.n s v u) (once_full u))))

    program_taken : Every Full (turns_in (choices_of (reduced_turns_by u) 1 (reduce c).statements))
    program_taken = choices_turns (reduced_turns_by u) Full 1 (reduce c).statements program_full

    pub counts_full : Every Full (reduced_turns (reduce c) u)
    unfolding reduced_turns reduced_choices
    counts_full = or_stay_every u Full (choices_of (reduced_turns_by u) 1 (reduce c).statements) (omega arith) program_taken

    pub counts_total : 1 ≤ length (reduced_steps (reduce c) u)
    unfolding reduced_steps reduced_turns reduced_choices
    counts_total = some_step u (choices_of (reduced_turns_by u) 1 (reduce c).statements) (choices_some (reduced_turns_by u) 1 (reduce c).statements) program_taken
