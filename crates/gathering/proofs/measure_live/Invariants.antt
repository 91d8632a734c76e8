-- `gathering::measure_live` meets its contract: those counted and those left are all. Assumes nothing.
use Rattle.gathering.proofs.Counting.{Counted}
use Rattle.gathering.proofs.measure_live.Given as goal

abbrev pub invariant-loop-i : goal.invariant-loop-i
invariant-loop-i l = Counted l.deck l.i l.live
