-- Invariant: the group is what the literals so far and the others behind the mark ahead make (Turning). The measure is how many
-- marks stand behind the mark ahead.
use Rattle.group.proofs.Groups.{Turning}
use Rattle.marks.specs.Step.{marks_at}
use lib.ListN.{length}
use Rattle.group.proofs.group.Given as goal

abbrev pub invariant-loop-ahead : goal.invariant-loop-ahead
invariant-loop-ahead l = Turning l.part l.at l.seat l.first l.any l.seen l.count l.alike l.ahead

abbrev pub decreases-loop-ahead : goal.decreases-loop-ahead
decreases-loop-ahead l = length (marks_at 0 l.part l.ahead.next.at)
