-- `gathering::keep_rows` meets its contract: each turn leaves one entry less to be kept. Assumes nothing.
use Rattle.gathering.proofs.Keeping.{Keeping}
use Rattle.gathering.proofs.keep_rows.Given as goal

abbrev pub invariant-loop-i : goal.invariant-loop-i
invariant-loop-i l = Keeping l.initial.deck l.count l.deck l.i l.to
