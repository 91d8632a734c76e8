-- What a card's arrays and packed numbers can hold: the limits alone, of all that makes a card valid. Assumes nothing.
use Prim.Native.Nat.{ℕ, zero, suc, ◌≤◌, ◌<◌, zero-le, suc-le-suc}
use mathlib.Core.List.{List, [], ◌∷◌}
use mathlib.Core.Option.{Option, none, some}
use native.Mathlib.Nat.{le_trans, not-suc-le-zero, le_of_suc-le-suc}
use lib.ListN.{length, get_or}
use Rattle.card.specs.Limits.{top_state, most_shared, most_statements, most_nodes, most_branches}
use Rattle.card.specs.Card.{Leaf, group, one, shared_is, Guard, Branch, Statement, Shared, Card}
use Rattle.card.specs.Valid.{Every, values_of, ValidSet, ValidShared, ValidLeaf, ValidGuard, ValidStatement, ValidCard}
use Rattle.card.specs.Formulas.{EveryAtom}
use Rattle.card.specs.Laid.{guard_size, node_row, branch_row}
use Rattle.card.proofs.Packed.{HeldLeaf, HeldSet}
use Rattle.card.proofs.Atoms.{every_atom}
use Rattle.card.proofs.Filling.{FewNodes, FewBranches, Narrow, narrow_nodes, narrow_branches}

-- each leaf of a guard has a state that there can be
abbrev pub States : Guard → Type 0
States g = EveryAtom HeldLeaf g

abbrev pub GuardStates : Option Guard → Type 0
GuardStates none = Unit {0}
GuardStates (some g) = States g

abbrev pub EndsThere : Branch → Type 0
EndsThere b = (b.end ≤ top_state) × HeldSet b.sets

pub record Held (x : Statement) : Type 0 where
  pub nodes : FewNodes x
  pub branches : FewBranches x
  pub states : GuardStates x.guard
  pub ends : Every EndsThere x.branches

pub record HeldCard (c : Card) : Type 0 where
  pub few : length c.statements ≤ most_statements
  pub each : Every Held c.statements

-- ---- lists

pub every_map : {A : Type 0} {P Q : A → Type 0} → ((a : A) → P a → Q a) → (xs : List A) → Every P xs → Every Q xs
every_map f [] h = tt
every_map f (x ∷ xs) h = (f x h.0, every_map f xs h.1)

pub every_at : {A : Type 0} (P : A → Type 0) (xs : List A) (i : ℕ) (d : A) → i < length xs → Every P xs → P (get_or xs i d)
every_at P [] i d h e = absurd (not-suc-le-zero h)
every_at P (x ∷ xs) zero d h e = e.0
every_at P (x ∷ xs) (suc i) d h e = every_at P xs i d (le_of_suc-le-suc h) e.1

-- ---- so every row has its places

pub held_nodes : (c : Card) → HeldCard c → Narrow most_nodes node_row c.statements
held_nodes c v = narrow_nodes c.statements (every_map (λ x w. w.nodes) c.statements v.each)

pub held_branches : (c : Card) → HeldCard c → Narrow most_branches branch_row c.statements
held_branches c v = narrow_branches c.statements (every_map (λ x w. w.branches) c.statements v.each)

-- ---- a valid card is held

module _ (n k values : ℕ) (top : k ≤ top_state) (few : values ≤ most_shared) where
  valid_leaf : (a : Leaf) → ValidLeaf n k values a → HeldLeaf a
  valid_leaf (group kind s q d) v = le_trans v.1 top
  valid_leaf (one d) v = absurd v
  valid_leaf (shared_is q v) h = le_of_suc-le-suc (le_trans h few)

  valid_set : (s : Option ℕ) → ValidSet values s → HeldSet s
  valid_set none v = tt
  valid_set (some v) h = le_of_suc-le-suc (le_trans h few)

  valid_guard : (g : Option Guard) → ValidGuard n k values g → GuardStates g
  valid_guard none v = tt
  valid_guard (some g) v = every_atom valid_leaf g v.0

  valid_nodes : (x : Statement) → ValidStatement n k values x → FewNodes x
  valid_nodes x v = go x.guard v.guard
    where
      go : (g : Option Guard) → ValidGuard n k values g → guard_size g ≤ most_nodes
      go none h = zero-le
      go (some g) h = h.2

  valid_statement : (x : Statement) → ValidStatement n k values x → Held x
  valid_statement x v = record {
    nodes = valid_nodes x v;
    branches = v.some.1;
    states = valid_guard x.guard v.guard;
    ends = every_map (λ b w. (le_trans w.end top, valid_set b.sets w.sets)) x.branches v.branches;
  }

-- the shared number has so many values at most
pub few_values : (s : Option Shared) → ValidShared s → values_of s ≤ most_shared
few_values none v = zero-le
few_values (some s) v = suc-le-suc v.0

pub valid_held : (c : Card) → ValidCard c → HeldCard c
valid_held c v = record {
  few = v.some.1;
  each = every_map (valid_statement c.n c.k (values_of c.shared) v.top (few_values c.shared v.shared)) c.statements v.statements;
}
