-- By the mark that stands there (proofs/Laws.antt). Assumes nothing.
use Rattle.parts.proofs.Steps.{next_at}
use Rattle.mode_and_range.proofs.Laws.{mode_first, mode_second, mode_neither}
use Rattle.mode_and_range.proofs.mode.Goals as goal

pub returns-then-mark-eq-NONDETERMINISTIC : goal.returns-then-mark-eq-NONDETERMINISTIC
returns-then-mark-eq-NONDETERMINISTIC c =
    let a = c.args in
    mode_first (next_at a.card.now a.at c.step-step.result c.step-step.ensures) c.if-mark-eq-NONDETERMINISTIC.true a.state.now

pub returns-then-mark-eq-PROBABILISTIC : goal.returns-then-mark-eq-PROBABILISTIC
returns-then-mark-eq-PROBABILISTIC c =
    let a = c.args in
    mode_second (next_at a.card.now a.at c.step-step.result c.step-step.ensures) c.if-mark-eq-NONDETERMINISTIC.false c.if-mark-eq-PROBABILISTIC.true a.state.now

pub returns : goal.returns
returns c =
    let a = c.args in
    mode_neither (next_at a.card.now a.at c.step-step.result c.step-step.ensures) c.if-mark-eq-NONDETERMINISTIC.false c.if-mark-eq-PROBABILISTIC.false _
