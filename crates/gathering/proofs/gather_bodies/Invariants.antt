-- `gathering::gather_bodies` meets its contract: each turn moves one body to where the one before ends, and leaves the others ahead. Assumes nothing.
use Rattle.gathering.proofs.Bodies.{Gathering}
use Rattle.gathering.proofs.gather_bodies.Given as goal

abbrev pub invariant-loop-i : goal.invariant-loop-i
invariant-loop-i l = Gathering l.initial.deck l.count l.deck l.i l.to
