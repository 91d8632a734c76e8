-- `seating::judge_each` meets its contract: the judgement is that of those not yet looked at. Assumes nothing.
use mathlib.Core.Path.{◌≡◌}
use lib.ListN.{drop}
use Rattle.seating.specs.Judged.{judged_from}
use Rattle.seating.proofs.judge_each.Given as goal

abbrev pub invariant-loop-i : goal.invariant-loop-i
invariant-loop-i l = judged_from l.number l.most 0 l.list ≡ judged_from l.number l.most l.i (drop l.i l.list)
