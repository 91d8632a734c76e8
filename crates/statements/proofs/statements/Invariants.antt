-- Invariant: an answer to the statements that are left answers the whole (Going, proofs/StatementsLaws.antt). Assumes nothing.
use Rattle.card.specs.Lent.{lent}
use Rattle.late.specs.State.{late_in}
use Rattle.statements.proofs.StatementsLaws.{Going}
use Rattle.statements.proofs.statements.Given as goal

abbrev pub invariant-loop-count : goal.invariant-loop-count
invariant-loop-count l =
    Going l.bounds l.card (late_in l.initial.state) (lent l.initial.rows l.initial.nodes l.initial.branches) l.at l.count l.place (lent l.rows l.nodes l.branches) l.next l.state
