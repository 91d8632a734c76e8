-- `placing::spot_for` meets its contract: entries are passed as long as their numbers are lower. Assumes nothing.
use Rattle.placing.proofs.Spotting.{Spotting}
use Rattle.placing.proofs.spot_for.Given as goal

abbrev pub invariant-loop-i : goal.invariant-loop-i
invariant-loop-i l = Spotting l.deck l.count l.number l.i l.body
