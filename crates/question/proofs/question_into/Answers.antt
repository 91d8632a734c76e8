-- One way out for each way in which reading may end (proofs/Whole.antt). Assumes nothing.
use native.Mathlib.Omega.{arith}
use mathlib.Core.Path.{◌≡◌, sym}
use Rattle.std.proofs.lemmas.Result.{err_from_is_err_and}
use Rattle.marks_on_a_card.specs.Kinds.{k_end}
use Rattle.late.specs.Settled.{settled}
use Rattle.late.specs.State.{late_in}
use Rattle.question.proofs.Whole.{too_long_law, from_first, formula_stops, unended, some_node, broken, understood}
use Rattle.question.proofs.question_into.Goals as goal

-- it goes on only where nothing stands behind the question
nothing-behind : (c : goal.In_ok-settle) → c.step-step.result.mark.kind ≡ k_end
nothing-behind c = omega arith

-- what is kept is held against the number of seats
settles-for-seats : (c : goal.In_ok-settle) → c.settle.result ≡ settled c.args.seats (late_in c.expression.new.state)
settles-for-seats c = c.settle.ensures

pub returns-then-question-gt-CARD_BYTES : goal.returns-then-question-gt-CARD_BYTES
returns-then-question-gt-CARD_BYTES c =
    too_long_law c.args.question.now c.args.seats c.args.top c.args.values c.args.nodes.now c.args.nodes.now (omega (arith, c.if-question-gt-CARD_BYTES.true))

pub returns-in-Err : goal.returns-in-Err
returns-in-Err c =
    rw c.searched.ensures
    (formula_stops c.args.question.now c.args.seats c.args.top c.args.values c.args.nodes.now c.expression.new.nodes (omega (arith, c.if-question-gt-CARD_BYTES.false))
    c.expression.new.state c.question_language-language.result (c.question_language-language.ensures.asks, c.question_language-language.ensures.values) _ (from_first c.args.question.now c.args.seats c.args.top c.args.values c.args.nodes.now c.expression.new.nodes (omega (arith, c.if-question-gt-CARD_BYTES.false)) c.expression.new.state c.question_language-language.result (c.question_language-language.ensures.asks, c.question_language-language.ensures.values) c.first_state-state.result _ c.first_state-state.ensures c.in-Err.ensures))

pub returns-then-mark-ne-END : goal.returns-then-mark-ne-END
returns-then-mark-ne-END c =
    rw c.searched-then-mark-ne-END.ensures
    (unended c.args.question.now c.args.seats c.args.top c.args.values c.args.nodes.now c.expression.new.nodes (omega (arith, c.if-question-gt-CARD_BYTES.false))
    c.expression.new.state c.question_language-language.result (c.question_language-language.ensures.asks, c.question_language-language.ensures.values) _ (from_first c.args.question.now c.args.seats c.args.top c.args.values c.args.nodes.now c.expression.new.nodes (omega (arith, c.if-question-gt-CARD_BYTES.false)) c.expression.new.state c.question_language-language.result (c.question_language-language.ensures.asks, c.question_language-language.ensures.values) c.first_state-state.result _ c.first_state-state.ensures c.in-Ok.ensures) c.step-step.result c.step-step.ensures c.if-mark-ne-END.true)

pub returns-in_err-settle : goal.returns-in_err-settle
returns-in_err-settle c =
    let p = err_from_is_err_and c.from_residual.result c.from_residual.ensures.1 in
    rw (p.1, p.2)
    (broken c.args.question.now c.args.seats c.args.top c.args.values c.args.nodes.now c.expression.new.nodes (omega (arith, c.if-question-gt-CARD_BYTES.false))
    c.expression.new.state c.question_language-language.result (c.question_language-language.ensures.asks, c.question_language-language.ensures.values) _ (from_first c.args.question.now c.args.seats c.args.top c.args.values c.args.nodes.now c.expression.new.nodes (omega (arith, c.if-question-gt-CARD_BYTES.false)) c.expression.new.state c.question_language-language.result (c.question_language-language.ensures.asks, c.question_language-language.ensures.values) c.first_state-state.result _ c.first_state-state.ensures c.in-Ok.ensures) c.step-step.result c.step-step.ensures (omega arith)
    c.requires.le_seats.0 c.requires.le_seats.1 c.settle.result c.settle.ensures c.in_err-settle.was)

pub overflow_sub-result : goal.overflow_sub-result
overflow_sub-result c =
    omega (
      arith,
      some_node c.args.question.now c.args.seats c.args.top c.args.values c.args.nodes.now c.expression.new.nodes (omega (arith, c.if-question-gt-CARD_BYTES.false))
          c.expression.new.state c.question_language-language.result (c.question_language-language.ensures.asks, c.question_language-language.ensures.values) _ (from_first c.args.question.now c.args.seats c.args.top c.args.values c.args.nodes.now c.expression.new.nodes (omega (arith, c.if-question-gt-CARD_BYTES.false)) c.expression.new.state c.question_language-language.result (c.question_language-language.ensures.asks, c.question_language-language.ensures.values) c.first_state-state.result _ c.first_state-state.ensures c.in-Ok.ensures),
    )

pub returns : goal.returns
returns c =
    understood c.args.question.now c.args.seats c.args.top c.args.values c.args.nodes.now c.expression.new.nodes (omega (arith, c.if-question-gt-CARD_BYTES.false))
    c.expression.new.state c.question_language-language.result (c.question_language-language.ensures.asks, c.question_language-language.ensures.values) _ (from_first c.args.question.now c.args.seats c.args.top c.args.values c.args.nodes.now c.expression.new.nodes (omega (arith, c.if-question-gt-CARD_BYTES.false)) c.expression.new.state c.question_language-language.result (c.question_language-language.ensures.asks, c.question_language-language.ensures.values) c.first_state-state.result _ c.first_state-state.ensures c.in-Ok.ensures) c.step-step.result c.step-step.ensures (nothing-behind c)
    c.requires.le_seats.0 c.requires.le_seats.1 c.settle.result (settles-for-seats c) (sym c.in_ok-settle.was)
