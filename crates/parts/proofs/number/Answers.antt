-- The step finds a number, which is judged and kept, or reading stops. Assumes nothing.
use Rattle.parts.proofs.Lines.{number_stops, number_read}
use Rattle.parts.proofs.Steps.{next_at, number_small}
use Rattle.parts.proofs.number.Goals as goal

pub returns-then-mark-ne-NUMBER : goal.returns-then-mark-ne-NUMBER
returns-then-mark-ne-NUMBER c =
    let a = c.args in
    number_stops (next_at a.card.now a.at c.step_number-step.result c.step_number-step.ensures) _ c.if-mark-ne-NUMBER.true

pub returns : goal.returns
returns c =
    let a = c.args in
    number_read (next_at a.card.now a.at c.step_number-step.result c.step_number-step.ensures) a.state.now
    c.if-mark-ne-NUMBER.false (number_small a.card.now a.at c.step_number-step.result c.step_number-step.ensures c.if-mark-ne-NUMBER.false)
    c.judge_state.ensures
