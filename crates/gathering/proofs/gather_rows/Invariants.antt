-- `gathering::gather_rows` meets its contract: each turn leaves one entry less to be put. Assumes nothing.
use Rattle.gathering.proofs.Rows.{Rowing}
use Rattle.gathering.proofs.gather_rows.Given as goal

abbrev pub invariant-loop-i : goal.invariant-loop-i
invariant-loop-i l = Rowing l.initial.deck l.count l.first l.deck l.i l.to l.offset
