-- `held_leaves::leaf_holds` meets its contract: a leaf's count is held against its bound as the bound's byte says, unless it tests the
-- shared number. Assumes nothing.
use mathlib.Core.Path.{◌∙◌}
use native.Mathlib.Omega.{arith}
use Rattle.held_leaves.proofs.Bounds.{passes_equal, passes_more, passes_less, passes_shared}
use Rattle.held_leaves.proofs.leaf_holds.Goals as goal

pub returns-then-kind_of-ge-SHARED : goal.returns-then-kind_of-ge-SHARED
returns-then-kind_of-ge-SHARED c =
    c.shared_holds.ensures ∙ passes_shared _ _ _ _ (omega (arith, c.if-kind_of-ge-SHARED.true, c.kind_of.ensures))

pub returns-then-bound-eq61 : goal.returns-then-bound-eq61
returns-then-bound-eq61 c =
    passes_equal _ _ _ _ (omega (arith, c.if-kind_of-ge-SHARED.false, c.kind_of.ensures)) c.state_of-d.ensures.part c.count_at-no_d.ensures
    c.bound_of-bound.ensures c.if-bound-eq61.true

pub returns-then-bound-eq62 : goal.returns-then-bound-eq62
returns-then-bound-eq62 c =
    passes_more _ _ _ _ (omega (arith, c.if-kind_of-ge-SHARED.false, c.kind_of.ensures)) c.state_of-d.ensures.part c.count_at-no_d.ensures
    c.bound_of-bound.ensures c.if-bound-eq62.true

pub returns : goal.returns
returns c =
    passes_less _ _ _ _ (omega (arith, c.if-kind_of-ge-SHARED.false, c.kind_of.ensures)) c.state_of-d.ensures.part c.count_at-no_d.ensures
    c.bound_of-bound.ensures c.if-bound-eq61.false c.if-bound-eq62.false
