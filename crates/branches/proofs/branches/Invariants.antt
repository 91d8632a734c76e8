-- Invariant: an answer to the branches that are left answers the whole (Going, proofs/BranchLaws.antt). Assumes nothing.
use Rattle.late.specs.State.{late_in}
use Rattle.branches.proofs.BranchLaws.{Going}
use Rattle.branches.proofs.branches.Given as goal

abbrev pub invariant-loop-count : goal.invariant-loop-count
invariant-loop-count l =
    Going l.bounds l.card l.first (late_in l.initial.state) l.initial.array l.initial.next l.count l.total l.array l.next l.state
