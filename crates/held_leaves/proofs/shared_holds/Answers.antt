-- `held_leaves::shared_holds` meets its contract: the relation tells which way the value is asked for. Assumes nothing.
use Rattle.held_leaves.proofs.Bounds.{shared_is, shared_isnt}
use Rattle.held_leaves.proofs.shared_holds.Goals as goal

pub returns-then-relation_of-eq-IS : goal.returns-then-relation_of-eq-IS
returns-then-relation_of-eq-IS c = shared_is _ _ c.state_of-value.ensures.part c.relation_of.ensures.part c.if-relation_of-eq-IS.true

pub returns : goal.returns
returns c = shared_isnt _ _ c.state_of-value.ensures.part c.relation_of.ensures.part c.if-relation_of-eq-IS.false
