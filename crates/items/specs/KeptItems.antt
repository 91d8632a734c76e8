-- How an item's node and its judgements are kept. Assumes nothing.
use Rattle.std.specs.Prelude.{ℕ, ◌+◌, ◌-◌, ◌≤◌, ◌≡◌, List, eqb, leb, set}
use Rattle.card.specs.Limits.{node_places, most_nodes}
use Rattle.card.specs.Refusals.{above_top}
use Rattle.card.specs.Text.{when◌then◌else◌}
use Rattle.card.specs.Laid.{shared_kind}
use Rattle.reading.specs.Judgements.{unless}
use Rattle.group.specs.declared.Grouped.{Grouped}
use Rattle.late.specs.Late.{Late, blamed, grouped}
use Rattle.late.specs.declared.state.State.{State as Carried}
use Rattle.late.specs.State.{left_in, free_in, late_in}

-- there is room for all nodes that a guard may still have
pub record Ready (state : Carried) : Type 0 where
  pub fits : free_in state + left_in state ≤ node_places
  pub most : left_in state ≤ most_nodes

-- the state with one node fewer left, and with one more stored
abbrev pub spending : Carried → Carried
spending state = record state { left = left_in state - 1 }

abbrev pub grown : Carried → Carried
grown state = record state { free = free_in state + 1 }

-- what an item's kind decides: a test of the shared number wants no seats, and what stands in it may be that number's most, not the top state
abbrev pub wanted_by : ℕ → ℕ → ℕ → Late → Late
wanted_by kind want p x = when eqb kind shared_kind then x else grouped want p x

abbrev pub bound_by : ℕ → ℕ → ℕ → ℕ
bound_by most kind k = when eqb kind shared_kind then most else k

-- the state behind an item: one node fewer is left, one more is stored, and the item is judged
pub record Judged (state : Carried) (due : Late) (is : Carried) : Type 0 where
  pub free : free_in is ≡ free_in state + 1
  pub left : left_in is ≡ left_in state - 1
  pub late : late_in is ≡ due

-- the item of g, read from place q of the card on, with its bracket at place p, and k as the most that the number in it may be
pub record Kept (g : Grouped) (q p k : ℕ) (was is : List ℕ) (state behind : Carried) : Type 0 where
  pub nodes : is ≡ set was (free_in state) g.node
  pub judged : Judged state (blamed (unless (leb g.d k) above_top) (q + g.first) (wanted_by g.kind g.want p (late_in state))) behind
