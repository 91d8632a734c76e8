-- Invariant: an answer to the modules that are left answers the whole (Going, proofs/ModuleLaws.antt). Assumes nothing.
use Rattle.late.specs.State.{late_in}
use Rattle.copies.proofs.ModuleLaws.{Going}
use Rattle.copies.proofs.modules.Given as goal

abbrev pub invariant-loop-seats : goal.invariant-loop-seats
invariant-loop-seats l = Going l.card (late_in l.initial.state) l.initial.next l.seats l.next l.state
