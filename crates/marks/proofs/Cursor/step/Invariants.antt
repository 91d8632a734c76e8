-- The loop's invariant: a step from here is the step from the start. Each exit has its law (proofs/Starts.antt).
use Prim.Native.Nat.{◌-◌}
use mathlib.Core.Path.{◌≡◌}
use lib.ListN.{length}
use Rattle.marks.specs.Step.{step_at}
use Rattle.marks.proofs.Cursor.step.Given as goal

abbrev pub invariant-loop-at : goal.invariant-loop-at
invariant-loop-at l = step_at l.card l.initial.at ≡ step_at l.card l.at

abbrev pub decreases-loop-at : goal.decreases-loop-at
decreases-loop-at l = length l.card - l.at
