-- Invariant: an answer to what is left of the run answers the whole (Going, proofs/Lines.antt). Assumes nothing.
use Rattle.late.specs.State.{late_in}
use Rattle.parts.proofs.Lines.{Going}
use Rattle.parts.proofs.run.Given as goal

abbrev pub invariant-loop-kind : goal.invariant-loop-kind
invariant-loop-kind l = Going l.card l.initial.next l.dues (late_in l.initial.state) l.kind-index l.next l.state
