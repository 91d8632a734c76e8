-- By whether a `&` stands there; then a way out for each part (proofs/SettingLaws.antt). Assumes nothing.
use native.Mathlib.Omega.{arith}
use Rattle.parts.proofs.Steps.{next_at}
use Rattle.parts.proofs.Answers.{returned}
use Rattle.branches.proofs.SettingLaws.{none_set, words_halt, value_halts, close_halts, set_read}
use Rattle.branches.proofs.setting.Goals as goal

pub returns-then-mark-ne-AND : goal.returns-then-mark-ne-AND
returns-then-mark-ne-AND c =
    let a = c.args in
    none_set _ _ _ (next_at a.card.now a.at c.step_sign-step.result c.step_sign-step.ensures) c.if-mark-ne-AND.true a.state.now

pub returns-in_err-words : goal.returns-in_err-words
returns-in_err-words c =
    let a = c.args in
    rw (returned _ _ c.from_residual.ensures.1)
    (words_halt _ _ _ (next_at a.card.now a.at c.step_sign-step.result c.step_sign-step.ensures) c.if-mark-ne-AND.false _ c.in_err-words.ensures)

pub returns-in_err-read : goal.returns-in_err-read
returns-in_err-read c =
    let a = c.args in
    rw (returned _ _ c.from_residual-in_err-read.ensures.1)
    (value_halts _ _ _ (next_at a.card.now a.at c.step_sign-step.result c.step_sign-step.ensures) c.if-mark-ne-AND.false _
    c.in_ok-words.ensures c.in_err-read.ensures)

pub returns-in_err-close : goal.returns-in_err-close
returns-in_err-close c =
    let a = c.args in
    rw (returned _ _ c.from_residual-in_err-close.ensures.1)
    (close_halts _ _ _ (next_at a.card.now a.at c.step_sign-step.result c.step_sign-step.ensures) c.if-mark-ne-AND.false _
    c.in_ok-words.ensures c.in_ok-read.ensures c.in_err-close.ensures)

pub overflow_add-state : goal.overflow_add-state
overflow_add-state c =
    let few = c.in_ok-read.ensures.small in
    omega (arith, few)

pub returns : goal.returns
returns c =
    let a = c.args in
    set_read _ _ _ (next_at a.card.now a.at c.step_sign-step.result c.step_sign-step.ensures) c.if-mark-ne-AND.false _
    c.in_ok-words.ensures c.in_ok-read.ensures c.in_ok-close.ensures
