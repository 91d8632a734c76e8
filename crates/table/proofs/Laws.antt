-- The parts of a packed leaf lead to its test: a group's to its column of the table. Assumes nothing.
use Prim.Native.Nat.{ℕ, ◌≤◌, ◌<◌}
use mathlib.Core.Path.{◌≡◌, refl}
use mathlib.Core.Bool.{Bool, true, false}
use borrow.Author.Tests.{lt-ltb, le-ltb}
use lib.Dec.{eqb, ltb}
use Rattle.card.specs.Text.{when◌then◌else◌}
use Rattle.card.specs.Card.{everyone, others, all, any, is, isnt, one, shared_is}
use Rattle.card.specs.Laid.{either, kind_part, sign_part, relation_part, state_part, group_of, leaf_of, one_kind, shared_kind}
use Rattle.card.proofs.Packed.{leaf_group}
use Rattle.meaning.specs.Reduced.{equal_to, counter, table, counter_of}
use Rattle.table.specs.Bounds.{bound_row, bound_of}

-- it is a test of the leaf's state, unless it is one of the shared number
pub of_state : (n j x : ℕ) → kind_part x < shared_kind → counter_of n j (leaf_of x) ≡ counter (state_part x) (bound_of (counter_of n j (leaf_of x)))
unfolding leaf_of group_of
of_state n j x h = rw (lt-ltb (kind_part x) shared_kind h) (go (ltb (kind_part x) one_kind))
  where
    go : (b : Bool) → let c = counter_of n j (when b then group_of x else one (state_part x)) in c ≡ counter (state_part x) (bound_of c)
    go true = refl
    go false = refl

-- exactly one seat, or the shared number
pub as_one : (n j x : ℕ) {k : ℕ} → k ≡ kind_part x → one_kind ≤ k → bound_row (equal_to 1) ≡ bound_row (bound_of (counter_of n j (leaf_of x)))
unfolding leaf_of
as_one n j x ek h = rw (le-ltb (kind_part x) one_kind (rw ek at h)) (go (ltb (kind_part x) shared_kind))
  where
    go : (b : Bool) → bound_row (equal_to 1) ≡ bound_row (bound_of (counter_of n j (when b then one (state_part x) else shared_is (either is isnt (relation_part x)) (state_part x))))
    go true = refl
    go false = refl

-- the column of the group that is packed in x
module _ (n j x : ℕ) {k s q d : ℕ} (ek : k ≡ kind_part x) (es : s ≡ sign_part x) (eq : q ≡ relation_part x) (ed : d ≡ state_part x) where
  pub in_column : k < one_kind → {everyone? : Bool} → eqb k 0 ≡ everyone?
      → bound_row (table n (when everyone? then everyone else others) (eqb j d) (either all any s) (either is isnt q))
      ≡ bound_row (bound_of (counter_of n j (leaf_of x)))
  unfolding group_of
  in_column h a = rw (leaf_group x (rw ek at h), ← a, ek, es, eq, ed)
