-- A way out for each kind of weight (proofs/BranchLaws.antt). Assumes nothing.
use Rattle.parts.proofs.Steps.{next_at}
use Rattle.branches.proofs.BranchLaws.{decimal_read, weight_stops, whole_read, ratio_stops, ratio_read}
use Rattle.branches.proofs.weight.Goals as goal

pub returns-then-mark-eq-DECIMAL : goal.returns-then-mark-eq-DECIMAL
returns-then-mark-eq-DECIMAL c =
    let a = c.args in
    decimal_read (next_at a.card.now a.at c.step_number-step.result c.step_number-step.ensures) _
    c.weighed.ensures a.state.now c.judge_form.ensures c.if-mark-eq-DECIMAL.true c.decimal-judged.ensures

pub returns-then-mark-ne-NUMBER : goal.returns-then-mark-ne-NUMBER
returns-then-mark-ne-NUMBER c =
    let a = c.args in
    weight_stops (next_at a.card.now a.at c.step_number-step.result c.step_number-step.ensures) _ c.if-mark-eq-DECIMAL.false
    c.if-mark-ne-NUMBER.true

pub returns-then-second-ne-SLASH : goal.returns-then-second-ne-SLASH
returns-then-second-ne-SLASH c =
    let a = c.args in
    whole_read (next_at a.card.now a.at c.step_number-step.result c.step_number-step.ensures) a.state.now
    c.weighed-then-second-ne-SLASH.ensures c.if-mark-ne-NUMBER.false
    (next_at a.card.now c.step_number-step.result.next.at c.step_slash-slash.result c.step_slash-slash.ensures)
    c.if-second-ne-SLASH.true c.whole-judged.ensures

pub returns-then-third-ne-NUMBER : goal.returns-then-third-ne-NUMBER
returns-then-third-ne-NUMBER c =
    let a = c.args in
    ratio_stops (next_at a.card.now a.at c.step_number-step.result c.step_number-step.ensures) _ c.if-mark-ne-NUMBER.false
    (next_at a.card.now c.step_number-step.result.next.at c.step_slash-slash.result c.step_slash-slash.ensures)
    c.if-second-ne-SLASH.false (next_at a.card.now c.step_slash-slash.result.next.at c.step_number-last.result
    c.step_number-last.ensures) c.if-third-ne-NUMBER.true

pub returns : goal.returns
returns c =
    let a = c.args in
    ratio_read (next_at a.card.now a.at c.step_number-step.result c.step_number-step.ensures) a.state.now
    c.weighed-2.ensures c.if-mark-ne-NUMBER.false
    (next_at a.card.now c.step_number-step.result.next.at c.step_slash-slash.result c.step_slash-slash.ensures)
    c.if-second-ne-SLASH.false (next_at a.card.now c.step_slash-slash.result.next.at c.step_number-last.result
    c.step_number-last.ensures) c.if-third-ne-NUMBER.false c.ratio-judged.ensures
