-- A guard held at counts, node by node: a node holds as its parts do, and the children of a node have lower numbers. Assumes nothing.
use Prim.Native.Nat.{ℕ, ◌-◌, min}
use mathlib.Core.Path.{◌≡◌}
use mathlib.Core.Logic.{◌⊎◌}
use mathlib.Core.Bool.{Bool, true, false, not}
use mathlib.Core.List.{List}
use lib.ListN.{get_or}
use Rattle.card.specs.Laid.{op_leaf, op_not, op_and, op_of, left_of, right_of, leaf_of, guard_at}
use Rattle.card.proofs.GuardAt.{guard_at_leaf, guard_at_not, guard_at_and, guard_at_or}
use Rattle.meaning.specs.Position.{Position}
use Rattle.meaning.specs.Reduced.{counter_of, passes}
use Rattle.meaning.specs.ByCounts.{held_at}

module _ (nodes : List ℕ) (root own n : ℕ) (v : Position) (x : ℕ) (is : x ≡ get_or nodes root 0) where
  pub held_leaf : (op_of x ≡ op_leaf) ⊎ (root ≡ 0) → passes v (counter_of n own (leaf_of x)) ≡ held_at n own v (guard_at nodes root)
  held_leaf h = rw (guard_at_leaf nodes root x is h)

  module _ (z : root ≡ 0 → ⊥) {left : ℕ} (at : left ≡ min (left_of x) (root - 1)) where
    pub held_not : {a : Bool} → op_of x ≡ op_not → a ≡ held_at n own v (guard_at nodes left) → not a ≡ held_at n own v (guard_at nodes root)
    held_not e h = rw (h, guard_at_not nodes root x is z e, at)

    module _ (e : op_of x ≡ op_and) where
      pub held_and : {right : ℕ} {b : Bool} → right ≡ min (right_of x) (root - 1) → true ≡ held_at n own v (guard_at nodes left) → b ≡ held_at n own v (guard_at nodes right)
          → b ≡ held_at n own v (guard_at nodes root)
      held_and at' h k = rw (guard_at_and nodes root x is z e, ← at, ← at', ← h) k

      pub held_not_and : false ≡ held_at n own v (guard_at nodes left) → false ≡ held_at n own v (guard_at nodes root)
      held_not_and h = rw (guard_at_and nodes root x is z e, ← at, ← h)

    module _ (e : op_of x ≡ op_leaf → ⊥) (f : op_of x ≡ op_not → ⊥) (g : op_of x ≡ op_and → ⊥) where
      pub held_or : true ≡ held_at n own v (guard_at nodes left) → true ≡ held_at n own v (guard_at nodes root)
      held_or h = rw (guard_at_or nodes root x is z e f g, ← at, ← h)

      pub held_else : {right : ℕ} {b : Bool} → right ≡ min (right_of x) (root - 1) → false ≡ held_at n own v (guard_at nodes left) → b ≡ held_at n own v (guard_at nodes right)
          → b ≡ held_at n own v (guard_at nodes root)
      held_else at' h k = rw (guard_at_or nodes root x is z e f g, ← at, ← at', ← h) k
