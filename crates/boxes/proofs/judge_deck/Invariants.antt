-- `boxes::judge_deck` meets its contract: the count's tests, then entry by entry, where what is left to judge decides (`Going`). Assumes nothing.
use Rattle.boxes.proofs.Laws.{Going}
use Rattle.boxes.proofs.judge_deck.Given as goal

abbrev pub invariant-loop-i : goal.invariant-loop-i
invariant-loop-i l = Going l.deck l.count l.i l.least l.last
