-- A way out where there is no guard, and for each part where there is one (proofs/GuardedLaws.antt). Assumes nothing.
use mathlib.Core.Path.{refl}
use Rattle.parts.proofs.Steps.{next_at}
use Rattle.statements.proofs.GuardedLaws.{none_read, none_stops, guard_ready, left_few, some_stops, arrow_stops, some_read}
use Rattle.statements.proofs.guarded.Goals as goal

pub returns-then-mark-ne-ARROW : goal.returns-then-mark-ne-ARROW
returns-then-mark-ne-ARROW c =
    let a = c.args in
    none_stops _ _ _ _ _ _ _ c.step_guard-step.result
    (next_at a.card.now a.at c.step_guard-step.result c.step_guard-step.ensures) c.if-mark-ne-AND.true c.if-mark-ne-ARROW.true
    a.state.now

pub returns-then-mark-ne-AND : goal.returns-then-mark-ne-AND
returns-then-mark-ne-AND c =
    let a = c.args in
    none_read _ _ _ _ _ _ _ c.step_guard-step.result
    (next_at a.card.now a.at c.step_guard-step.result c.step_guard-step.ensures) c.if-mark-ne-AND.true c.if-mark-ne-ARROW.false refl
    a.state.now

pub conjunction-requires : goal.conjunction-requires
conjunction-requires c = guard_ready c.args.state.now c.args.used c.requires.most_nodes_bound

pub returns-in-Err : goal.returns-in-Err
returns-in-Err c =
    let a = c.args in
    some_stops _ _ _ _ _ _ _ c.step_guard-step.result
    (next_at a.card.now a.at c.step_guard-step.result c.step_guard-step.ensures) c.if-mark-ne-AND.false a.state.now
    _ c.card_language-language.result (c.card_language-language.ensures.asks, c.card_language-language.ensures.values) _ c.in-Err.ensures

pub returns-then-arrow-ne-ARROW : goal.returns-then-arrow-ne-ARROW
returns-then-arrow-ne-ARROW c =
    let a = c.args in
    arrow_stops _ _ _ _ _ _ _ c.step_guard-step.result
    (next_at a.card.now a.at c.step_guard-step.result c.step_guard-step.ensures) c.if-mark-ne-AND.false a.state.now
    _ c.card_language-language.result (c.card_language-language.ensures.asks, c.card_language-language.ensures.values) c.in-Ok.read c.in-Ok.ensures
    (next_at a.card.now c.in-Ok.read c.step_arrow-behind.result c.step_arrow-behind.ensures)
    c.if-arrow-ne-ARROW.true

pub overflow_sub-state : goal.overflow_sub-state
overflow_sub-state c =
    let a = c.args in
    left_few a.card.now a.top a.values a.at a.nodes.now c.conjunction.new.nodes a.used c.step_guard-step.result
    (next_at a.card.now a.at c.step_guard-step.result c.step_guard-step.ensures) c.if-mark-ne-AND.false a.state.now
    c.conjunction.new.state c.card_language-language.result (c.card_language-language.ensures.asks, c.card_language-language.ensures.values) c.in-Ok.read c.in-Ok.ensures

pub returns : goal.returns
returns c =
    let a = c.args in
    some_read _ _ _ _ _ _ _ c.step_guard-step.result
    (next_at a.card.now a.at c.step_guard-step.result c.step_guard-step.ensures) c.if-mark-ne-AND.false a.state.now
    _ c.card_language-language.result (c.card_language-language.ensures.asks, c.card_language-language.ensures.values) c.in-Ok.read c.in-Ok.ensures
    (next_at a.card.now c.in-Ok.read c.step_arrow-behind.result c.step_arrow-behind.ensures)
    c.if-arrow-ne-ARROW.false
