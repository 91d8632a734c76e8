-- `weighing::counts_as` meets its contract, by its tests. Assumes nothing.
use Rattle.weighing.proofs.Laws.{counts_pair, counts_none, counts_once}
use Rattle.weighing.proofs.counts_as.Goals as goal

pub returns-then-mode-ne-NONDETERMINISTIC : goal.returns-then-mode-ne-NONDETERMINISTIC
returns-then-mode-ne-NONDETERMINISTIC c = counts_pair c.if-mode-ne-NONDETERMINISTIC.true

pub returns-then-able-eq0 : goal.returns-then-able-eq0
returns-then-able-eq0 c = counts_none c.if-mode-ne-NONDETERMINISTIC.false c.if-able-eq0.true

pub returns : goal.returns
returns c = counts_once c.if-mode-ne-NONDETERMINISTIC.false c.if-able-eq0.false
