-- The shared number stays in its range: a branch sets it to one of its values or leaves it, and a stuck step leaves it. Step by step as for the counters (`meaning/proofs/Within.antt`).
-- Assumes nothing.
use Prim.Native.Nat.{ℕ, zero, suc, ◌<◌}
use mathlib.Core.Bool.{Bool, true, false}
use mathlib.Core.List.{List, [], ◌∷◌, map}
use mathlib.Core.Option.{Option, none, some}
use native.Mathlib.Omega.{arith}
use Rattle.card.specs.Text.{when◌then◌else◌}
use Rattle.card.specs.Card.{Mode, nondeterministic, probabilistic, Branch, Statement, Card}
use Rattle.card.specs.Valid.{Every, values_of, ValidSet, ValidBranch, ValidStatement, ValidCard}
use Rattle.meaning.specs.Sums.{flat, or_one}
use Rattle.meaning.specs.Position.{Position, position, shared_values, set_to}
use Rattle.meaning.specs.Steps.{Step}
use Rattle.meaning.specs.Choices.{choices_of, choices_at, turns_in}
use Rattle.meaning.specs.Reduced.{update_of, Outcome, Reduced, copy, copies, reduce, updated, can_take, reduced_turn, reduced_turns_by, reduced_choices, reduced_turns, reduced_steps}
use Rattle.meaning.proofs.Sums.{every_flat, every_map, every_upto, every_imp}
use Rattle.meaning.proofs.Choices.{choices_turns, or_stay_every}

one_of : (values v : ℕ) → v < values → v < or_one values
one_of zero v h = absurd (omega arith)
one_of (suc values) v h = h

module _ (n k values : ℕ) (v : Position) (w : v.shared < or_one values) where
  abbrev Next : Step Position → Type 0
  Next s = s.next.shared < or_one values

  abbrev Steady : Reduced → Type 0
  Steady r = Every Next (reduced_turn v r)

  set_within : (o : Option ℕ) → ValidSet values o → set_to v.shared o < or_one values
  set_within none ok = w
  set_within (some x) ok = one_of values x ok

  copy_within : (s : Statement) → Every (ValidBranch k values) s.branches → (m : ℕ) → Steady (copy n s m)
  unfolding reduced_turn copy
  copy_within s ok m = branches s.branches ok
    where
      branches : (l : List Branch) → Every (ValidBranch k values) l
          → Every Next (map (λ (o : Outcome). record { units = o.units; next = position (updated v.each o.update) (set_to v.shared o.sets) }) (map (λ (b : Branch). record { units = b.units; update = update_of n s.own b.end; sets = b.sets }) l))
      branches [] h = tt
      branches (b ∷ l) h = (set_within b.sets h.0.sets, branches l h.1)

  copies_within : (mode : Mode) (s : Statement) → Every (ValidBranch k values) s.branches → Every Steady (copies mode n s)
  copies_within nondeterministic s ok = (copy_within s ok 0, tt)
  copies_within probabilistic s ok = every_upto Steady n (copy n s) λ m h. copy_within s ok m

  all_within : (mode : Mode) (l : List Statement) → Every (ValidStatement n k values) l → Every Steady (flat (map (copies mode n) l))
  all_within mode l ok = every_flat Steady (map (copies mode n) l) (every_map (Every Steady) (copies mode n) l (each l ok))
    where
      each : (l : List Statement) → Every (ValidStatement n k values) l → Every (λ s. Every Steady (copies mode n s)) l
      each [] h = tt
      each (s ∷ l) h = (copies_within mode s h.0.branches, each l h.1)

  turns_within : (r : Reduced) → Steady r → Every (Every Next) (reduced_turns_by v r)
  unfolding reduced_turns_by
  turns_within r h = go (can_take v r)
    where
      go : (b : Bool) → Every (Every Next) (when b then reduced_turn v r ∷ [] else [])
      go true = (h, tt)
      go false = tt

pub shared_within : (c : Card) → ValidCard c → (v : Position) → v.shared < shared_values c.shared
    → Every (λ (s : Step Position). s.next.shared < shared_values c.shared) (reduced_steps (reduce c) v)
unfolding reduce reduced_steps reduced_turns reduced_choices
shared_within c ok v w =
    let values = values_of c.shared in
    let program = flat (map (copies c.mode c.n) c.statements) in
    let all = all_within c.n c.k values v w c.mode c.statements ok.statements in
    let taken = every_imp (Steady c.n c.k values v w) program all (turns_within c.n c.k values v w) in
    every_flat (Next c.n c.k values v w) (turns_in (choices_at (reduced_turns_by v) program v))
    (or_stay_every v (Every (Next c.n c.k values v w)) (choices_of (reduced_turns_by v) 1 program) (w, tt)
    (choices_turns (reduced_turns_by v) (Every (Next c.n c.k values v w)) 1 program taken))
