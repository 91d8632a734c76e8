-- The readers of a guard call each other, with a measure of eight steps for each bracket, `!` and node left. A chain's invariant:
-- the guard is what was read so far and the chain behind it make (Chaining); its measure is how many nodes are left. Assumes nothing.
use mathlib.Core.Bool.{false, true}
use Rattle.late.specs.State.{left_in}
use Rattle.items.specs.Language.{language_of}
use Rattle.guard.proofs.Spent.{keeping}
use Rattle.guard.proofs.Chains.{Chaining}
use Prim.Native.Nat.{◌+◌, ◌*◌}
use Rattle.guard.proofs.+conjunction_expression_joined_by_and_joined_by_or_nested_unary.Given as goal

abbrev pub invariant-joined_by_and-loop-s : goal.invariant-joined_by_and-loop-s
invariant-joined_by_and-loop-s l = Chaining (language_of l.text.language) (keeping l.text.language) l.text.bytes.now l.text.top l.initial.nodes l.nodes l.depth false l.initial.state l.first l.state l.next

abbrev pub decreases-joined_by_and-loop-s : goal.decreases-joined_by_and-loop-s
decreases-joined_by_and-loop-s l = left_in l.state

abbrev pub invariant-joined_by_or-loop-s : goal.invariant-joined_by_or-loop-s
invariant-joined_by_or-loop-s l = Chaining (language_of l.text.language) (keeping l.text.language) l.text.bytes.now l.text.top l.initial.nodes l.nodes l.depth true l.initial.state l.first l.state l.next

abbrev pub decreases-joined_by_or-loop-s : goal.decreases-joined_by_or-loop-s
decreases-joined_by_or-loop-s l = left_in l.state

abbrev pub decreases-conjunction : goal.decreases-conjunction
decreases-conjunction l = (l.depth + left_in l.state.now) * 8 + 4

abbrev pub decreases-expression : goal.decreases-expression
decreases-expression l = (l.depth + left_in l.state.now) * 8 + 7

abbrev pub decreases-joined_by_and : goal.decreases-joined_by_and
decreases-joined_by_and l = (l.depth + left_in l.state.now) * 8 + 3

abbrev pub decreases-joined_by_or : goal.decreases-joined_by_or
decreases-joined_by_or l = (l.depth + left_in l.state.now) * 8 + 6

abbrev pub decreases-nested : goal.decreases-nested
decreases-nested l = (l.depth + left_in l.state.now) * 8

abbrev pub decreases-unary : goal.decreases-unary
decreases-unary l = (l.depth + left_in l.state.now) * 8 + 1
