-- A way out for each mark, in their order (proofs/Laws.antt). Assumes nothing.
use Rattle.parts.proofs.Steps.{next_at}
use Rattle.mode_and_range.proofs.Laws.{zero_misses, dots_miss, top_misses, top_past, top_fits}
use Rattle.mode_and_range.proofs.span.Goals as goal

pub returns-then-mark-ne-NUMBER : goal.returns-then-mark-ne-NUMBER
returns-then-mark-ne-NUMBER c =
    let a = c.args in
    zero_misses _ (next_at a.card.now a.at c.step_number-step.result c.step_number-step.ensures)
    (λ e f. c.if-mark-ne-NUMBER.true e) _

pub returns-then-mark-ne-FIRST : goal.returns-then-mark-ne-FIRST
returns-then-mark-ne-FIRST c =
    let a = c.args in
    zero_misses _ (next_at a.card.now a.at c.step_number-step.result c.step_number-step.ensures)
    (λ e f. c.if-mark-ne-FIRST.true f) _

pub returns-then-dots-ne-DOTS : goal.returns-then-dots-ne-DOTS
returns-then-dots-ne-DOTS c =
    let a = c.args in
    dots_miss _ (next_at a.card.now a.at c.step_number-step.result c.step_number-step.ensures) c.if-mark-ne-NUMBER.false
    c.if-mark-ne-FIRST.false (next_at a.card.now c.step_number-step.result.next.at c.step-between.result c.step-between.ensures)
    c.if-dots-ne-DOTS.true _

pub returns-then-top-ne-NUMBER : goal.returns-then-top-ne-NUMBER
returns-then-top-ne-NUMBER c =
    let a = c.args in
    top_misses _ (next_at a.card.now a.at c.step_number-step.result c.step_number-step.ensures) c.if-mark-ne-NUMBER.false
    c.if-mark-ne-FIRST.false (next_at a.card.now c.step_number-step.result.next.at c.step-between.result c.step-between.ensures)
    c.if-dots-ne-DOTS.false (next_at a.card.now c.step-between.result.next.at c.step_number-last.result
    c.step_number-last.ensures) c.if-top-ne-NUMBER.true _

pub returns-then-top-most : goal.returns-then-top-most
returns-then-top-most c =
    let a = c.args in
    top_past _ (next_at a.card.now a.at c.step_number-step.result c.step_number-step.ensures) c.if-mark-ne-NUMBER.false
    c.if-mark-ne-FIRST.false (next_at a.card.now c.step_number-step.result.next.at c.step-between.result c.step-between.ensures)
    c.if-dots-ne-DOTS.false (next_at a.card.now c.step-between.result.next.at c.step_number-last.result
    c.step_number-last.ensures) c.if-top-ne-NUMBER.false c.if-top-most.true _

pub returns : goal.returns
returns c =
    let a = c.args in
    top_fits _ (next_at a.card.now a.at c.step_number-step.result c.step_number-step.ensures) c.if-mark-ne-NUMBER.false
    c.if-mark-ne-FIRST.false (next_at a.card.now c.step_number-step.result.next.at c.step-between.result c.step-between.ensures)
    c.if-dots-ne-DOTS.false (next_at a.card.now c.step-between.result.next.at c.step_number-last.result
    c.step_number-last.ensures) c.if-top-ne-NUMBER.false c.if-top-most.false a.state.now
