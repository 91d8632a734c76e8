-- A reduced program keeps its counters between 0 and their most: a lowered counter only falls, a raised one is cut at n, and a stuck step
-- changes none.
use Prim.Native.Nat.{ℕ, zero, suc, ◌-◌, ◌≤◌}
use mathlib.Core.Bool.{Bool, true, false}
use mathlib.Core.List.{List, [], ◌∷◌, map}
use native.Mathlib.Omega.{arith}
use lib.Dec.{eqb}
use lib.ListN.{set}
use Rattle.card.specs.Text.{when◌then◌else◌}
use Rattle.card.specs.Card.{Mode, nondeterministic, probabilistic, Branch, Statement, Card}
use Rattle.card.specs.Valid.{Every}
use Rattle.meaning.specs.Sums.{flat}
use Rattle.meaning.specs.Position.{Position, position, set_to}
use Rattle.meaning.specs.Steps.{Step}
use Rattle.meaning.specs.Choices.{choices_of, choices_at, turns_in}
use Rattle.meaning.specs.Reduced.{keep, shift, update_of, Outcome, Reduced, copy, copies, reduce, no_of, raised, updated, can_take, reduced_turn, reduced_turns_by, reduced_choices, reduced_turns, reduced_steps}
use Rattle.meaning.proofs.Sums.{every_flat, every_map, every_upto, every_imp}
use Rattle.meaning.proofs.Choices.{choices_turns, or_stay_every}

abbrev pub Few : ℕ → List ℕ → Type 0
Few n v = Every (λ a. a ≤ n) v

set_few : (n : ℕ) (v : List ℕ) (i a : ℕ) → Few n v → a ≤ n → Few n (set v i a)
set_few n [] i a w h = tt
set_few n (b ∷ v) zero a w h = (h, w.1)
set_few n (b ∷ v) (suc i) a w h = (w.0, set_few n v i a w.1 h)

no_few : (n : ℕ) (v : List ℕ) (d : ℕ) → Few n v → no_of v d ≤ n
no_few n [] zero w = omega arith
no_few n [] (suc d) w = omega arith
no_few n (b ∷ v) zero w = w.0
no_few n (b ∷ v) (suc d) w = no_few n v d w.1

updated_few : (n j t : ℕ) (v : List ℕ) → Few n v → Few n (updated v (update_of n j t))
updated_few n j t v w = go (eqb j t)
  where
    go : (b : Bool) → Few n (updated v (when b then keep else shift j t n))
    go true = w
    go false = set_few n (set v j (no_of v j - 1)) t (raised n (no_of v t)) (set_few n v j (no_of v j - 1) w (omega (arith, no_few n v j w))) (omega arith)

-- a step's next counters
abbrev Next : ℕ → Step Position → Type 0
Next n s = Few n s.next.each

-- all of a reduced statement's
abbrev Steady : ℕ → Position → Reduced → Type 0
Steady n v r = Every (Next n) (reduced_turn v r)

copy_few : (n : ℕ) (s : Statement) (m : ℕ) (v : Position) → Few n v.each → Steady n v (copy n s m)
unfolding reduced_turn copy
copy_few n s m v w = branches s.branches
  where
    branches : (l : List Branch)
        → Every (Next n) (map (λ (o : Outcome). record { units = o.units; next = position (updated v.each o.update) (set_to v.shared o.sets) }) (map (λ (b : Branch). record { units = b.units; update = update_of n s.own b.end; sets = b.sets }) l))
    branches [] = tt
    branches (b ∷ l) = (updated_few n s.own b.end v.each w, branches l)

copies_few : (mode : Mode) (n : ℕ) (s : Statement) (v : Position) → Few n v.each → Every (Steady n v) (copies mode n s)
copies_few nondeterministic n s v w = (copy_few n s 0 v w, tt)
copies_few probabilistic n s v w = every_upto (Steady n v) n (copy n s) λ m h. copy_few n s m v w

all_few : (mode : Mode) (n : ℕ) (l : List Statement) (v : Position) → Few n v.each → Every (Steady n v) (flat (map (copies mode n) l))
all_few mode n l v w = every_flat (Steady n v) (map (copies mode n) l) (every_map (Every (Steady n v)) (copies mode n) l (each l))
  where
    each : (l : List Statement) → Every (λ s. Every (Steady n v) (copies mode n s)) l
    each [] = tt
    each (s ∷ l) = (copies_few mode n s v w, each l)

-- the one turn, if any
turns_few : (n : ℕ) (v : Position) (r : Reduced) → Steady n v r → Every (Every (Next n)) (reduced_turns_by v r)
unfolding reduced_turns_by
turns_few n v r h = go (can_take v r)
  where
    go : (b : Bool) → Every (Every (Next n)) (when b then reduced_turn v r ∷ [] else [])
    go true = (h, tt)
    go false = tt

pub stays_within : (c : Card) (v : Position) → Few c.n v.each → Every (λ (s : Step Position). Few (reduce c).most s.next.each) (reduced_steps (reduce c) v)
unfolding reduce reduced_steps reduced_turns reduced_choices
stays_within c v w =
    let program = flat (map (copies c.mode c.n) c.statements) in
    let taken = every_imp (Steady c.n v) program (all_few c.mode c.n c.statements v w) (turns_few c.n v) in
    every_flat (Next c.n) (turns_in (choices_at (reduced_turns_by v) program v))
    (or_stay_every v (Every (Next c.n)) (choices_of (reduced_turns_by v) 1 program) (w, tt)
    (choices_turns (reduced_turns_by v) (Every (Next c.n)) 1 program taken))
