-- `placing::live_place` meets its contract: what is left of the contents decides. Assumes nothing.
use Rattle.placing.proofs.Seeking.{Seeking}
use Rattle.placing.proofs.live_place.Given as goal

abbrev pub invariant-loop-i : goal.invariant-loop-i
invariant-loop-i l = Seeking l.deck l.number l.i
