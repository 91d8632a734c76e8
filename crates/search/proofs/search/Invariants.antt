-- Invariant: the first mark outside the rules from the place on is the first from the cursor on (proofs/Places.antt). Assumes nothing.
use Rattle.reading.specs.Reading.{first_outside}
use Rattle.marks.specs.Step.{marks_at}
use lib.ListN.{length}
use mathlib.Core.Path.{◌≡◌}
use Rattle.search.proofs.search.Given as goal

abbrev pub invariant-loop-next : goal.invariant-loop-next
invariant-loop-next l = first_outside (marks_at 0 l.card l.place) ≡ first_outside (marks_at 0 l.card l.next)

abbrev pub decreases-loop-next : goal.decreases-loop-next
decreases-loop-next l = length (marks_at 0 l.card l.next)
