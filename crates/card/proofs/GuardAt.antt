-- The guard at a node, by what stands at the node: the laws for those who go down a guard's nodes. Children have lower numbers, so n turns
-- are enough at node n and more make no difference. Assumes nothing.
use Prim.Native.Nat.{ℕ, zero, suc, ◌+◌, ◌-◌, ◌≤◌, min}
use mathlib.Core.Path.{◌≡◌, refl, sym, ◌∙◌}
use mathlib.Core.Logic.{◌⊎◌, inl, inr, ⊎_elim}
use mathlib.Core.List.{List}
use mathlib.Core.Option.{none, some}
use native.Mathlib.Omega.{arith}
use borrow.Author.Tests.{eq-eqb, ne_eqb}
use lib.ListN.{get_or}
use Rattle.card.specs.Card.{atom, neg, and, or}
use Rattle.card.specs.Laid.{op_leaf, op_not, op_and, op_of, left_of, right_of, leaf_of, node_of, guard_from, guard_at, guard_of}

zero_or_not : (n : ℕ) → (n ≡ 0) ⊎ (n ≡ 0 → ⊥)
zero_or_not zero = inl refl
zero_or_not (suc n) = inr (λ e. omega arith)

module _ (nodes : List ℕ) where
  from_zero : (fuel n : ℕ) → n ≡ 0 → guard_from fuel nodes n ≡ atom (leaf_of (get_or nodes n 0))
  unfolding guard_from
  from_zero zero n e = refl
  from_zero (suc fuel) n e = rw (eq-eqb n 0 e)

  from_more : (fuel n x : ℕ) → x ≡ get_or nodes n 0 → (n ≡ 0 → ⊥)
      → guard_from (suc fuel) nodes n ≡ node_of x (guard_from fuel nodes (min (left_of x) (n - 1))) (guard_from fuel nodes (min (right_of x) (n - 1)))
  unfolding guard_from
  from_more fuel n x is h = rw (is, ne_eqb n 0 h)

  enough : (j k n : ℕ) → n ≤ j → n ≤ k → guard_from j nodes n ≡ guard_from k nodes n
  enough zero k n g h = from_zero zero n (omega arith) ∙ sym (from_zero k n (omega arith))
  enough (suc j) zero n g h = from_zero (suc j) n (omega arith) ∙ sym (from_zero zero n (omega arith))
  enough (suc j) (suc k) n g h =
      let x = get_or nodes n 0 in
      ⊎_elim
      (λ e. from_zero (suc j) n e ∙ sym (from_zero (suc k) n e))
      (λ e. from_more j n x refl e ∙ rw (
        enough j k (min (left_of x) (n - 1)) (omega arith) (omega arith),
        enough j k (min (right_of x) (n - 1)) (omega arith) (omega arith),
      )
      (sym (from_more k n x refl e)))
      (zero_or_not n)

  module _ (n x : ℕ) (is : x ≡ get_or nodes n 0) where
    at_zero : n ≡ 0 → guard_at nodes n ≡ atom (leaf_of x)
    unfolding guard_at
    at_zero h = from_zero n n h ∙ rw is

    at_more : (n ≡ 0 → ⊥) → guard_at nodes n ≡ node_of x (guard_at nodes (min (left_of x) (n - 1))) (guard_at nodes (min (right_of x) (n - 1)))
    unfolding guard_at
    at_more h = enough n (suc n) n (omega arith) (omega arith) ∙ from_more n n x is h ∙ rw (
      enough n (min (left_of x) (n - 1)) (min (left_of x) (n - 1)) (omega arith) (omega arith),
      enough n (min (right_of x) (n - 1)) (min (right_of x) (n - 1)) (omega arith) (omega arith),
    )

    pub guard_at_leaf : (op_of x ≡ op_leaf) ⊎ (n ≡ 0) → guard_at nodes n ≡ atom (leaf_of x)
    unfolding node_of
    guard_at_leaf h =
        ⊎_elim at_zero (λ z. ⊎_elim (λ e. at_more z ∙ rw (eq-eqb (op_of x) op_leaf e)) (λ e. at_zero e) h) (zero_or_not n)

    module _ (h : n ≡ 0 → ⊥) where
      pub guard_at_not : op_of x ≡ op_not → guard_at nodes n ≡ neg (guard_at nodes (min (left_of x) (n - 1)))
      unfolding node_of
      guard_at_not e = at_more h ∙ rw e

      pub guard_at_and : op_of x ≡ op_and
          → guard_at nodes n ≡ and (guard_at nodes (min (left_of x) (n - 1))) (guard_at nodes (min (right_of x) (n - 1)))
      unfolding node_of
      guard_at_and e = at_more h ∙ rw e

      pub guard_at_or : (op_of x ≡ op_leaf → ⊥) → (op_of x ≡ op_not → ⊥) → (op_of x ≡ op_and → ⊥)
          → guard_at nodes n ≡ or (guard_at nodes (min (left_of x) (n - 1))) (guard_at nodes (min (right_of x) (n - 1)))
      unfolding node_of
      guard_at_or e f g = at_more h ∙ rw (ne_eqb (op_of x) op_leaf e, ne_eqb (op_of x) op_not f, ne_eqb (op_of x) op_and g)

-- ---- a statement's guard: of m nodes from `at` on, the last is the root

pub guard_of_none : (nodes : List ℕ) (at m : ℕ) → m ≡ 0 → guard_of nodes at m ≡ none
guard_of_none nodes at m e = rw e

pub guard_of_some : (nodes : List ℕ) (at m root : ℕ) → (m ≡ 0 → ⊥) → root + 1 ≡ at + m → guard_of nodes at m ≡ some (guard_at nodes root)
guard_of_some nodes at zero root h e = absurd (h refl)
guard_of_some nodes at (suc m) root h e = let r : at + m ≡ root = omega arith in rw r
