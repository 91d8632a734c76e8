-- `counting::held` meets its contract: a node holds as its parts do. The measure is the node's number. Assumes nothing.
use mathlib.Core.Logic.{inl, inr}
use mathlib.Core.Path.{sym, ◌∙◌}
use native.Mathlib.Omega.{arith}
use Rattle.counting.proofs.Table.{held_leaf, held_not, held_and, held_not_and, held_or, held_else}
use Rattle.counting.proofs.+held.Goals as goal

pub returns-then-root-eq0 : goal.returns-then-root-eq0
returns-then-root-eq0 t c = c.leaf_holds.ensures ∙ held_leaf _ _ _ _ _ _ c.number_at-node.ensures (inr c.if-root-eq0.true)

pub returns-then-op-eq-LEAF : goal.returns-then-op-eq-LEAF
returns-then-op-eq-LEAF t c =
    c.leaf_holds-then-op-eq-LEAF.ensures ∙ held_leaf _ _ _ _ _ _ c.number_at-node.ensures (inl (sym c.op_of-op.ensures ∙ c.if-op-eq-LEAF.true))

pub held-left-requires : goal.held-left-requires
held-left-requires t c =
    (omega (arith, c.left_of.ensures.below c.if-root-eq0.false, c.decreases), tt)

pub returns-then-op-eq-NOT : goal.returns-then-op-eq-NOT
returns-then-op-eq-NOT t c =
    held_not _ _ _ _ _ _ c.number_at-node.ensures c.if-root-eq0.false c.left_of.ensures.child (sym c.op_of-op.ensures ∙ c.if-op-eq-NOT.true) c.held-left.ensures

pub held-requires : goal.held-requires
held-requires t c =
    (omega (arith, c.right_of.ensures.below c.if-root-eq0.false, c.decreases), tt)

pub returns-then-left : goal.returns-then-left
returns-then-left t c =
    held_and _ _ _ _ _ _ c.number_at-node.ensures c.if-root-eq0.false c.left_of.ensures.child (sym c.op_of-op.ensures ∙ c.if-op-eq-AND.true) c.right_of.ensures.child (sym c.if-left.true ∙ c.held-left.ensures) c.held.ensures

pub returns-else-left : goal.returns-else-left
returns-else-left t c =
    c.if-left.false ∙ held_not_and _ _ _ _ _ _ c.number_at-node.ensures c.if-root-eq0.false c.left_of.ensures.child (sym c.op_of-op.ensures ∙ c.if-op-eq-AND.true) (sym c.if-left.false ∙ c.held-left.ensures)

pub returns-then-left-2 : goal.returns-then-left-2
returns-then-left-2 t c =
    c.if-left-2.true ∙ held_or _ _ _ _ _ _ c.number_at-node.ensures c.if-root-eq0.false c.left_of.ensures.child (λ z. c.if-op-eq-LEAF.false (c.op_of-op.ensures ∙ z)) (λ z. c.if-op-eq-NOT.false (c.op_of-op.ensures ∙ z)) (λ z. c.if-op-eq-AND.false (c.op_of-op.ensures ∙ z)) (sym c.if-left-2.true ∙ c.held-left.ensures)

pub held-requires-else-left-2 : goal.held-requires-else-left-2
held-requires-else-left-2 t c =
    (omega (arith, c.right_of-else-left-2.ensures.below c.if-root-eq0.false, c.decreases), tt)

pub returns-else-left-2 : goal.returns-else-left-2
returns-else-left-2 t c =
    let op = c.op_of-op.ensures in
    held_else _ _ _ _ _ _ c.number_at-node.ensures c.if-root-eq0.false c.left_of.ensures.child
    (λ z. c.if-op-eq-LEAF.false (op ∙ z)) (λ z. c.if-op-eq-NOT.false (op ∙ z)) (λ z. c.if-op-eq-AND.false (op ∙ z))
    c.right_of-else-left-2.ensures.child (sym c.if-left-2.false ∙ c.held-left.ensures) c.held-else-left-2.ensures
