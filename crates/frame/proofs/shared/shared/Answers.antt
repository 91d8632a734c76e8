-- By whether a number is declared there; then a way out for each part (proofs/SharedLaws.antt). Assumes nothing.
use native.Mathlib.Omega.{arith}
use mathlib.Core.Path.{refl}
use Rattle.marks.specs.Step.{step_at}
use Rattle.parts.proofs.Steps.{next_at}
use Rattle.parts.proofs.Answers.{returned}
use Rattle.frame.proofs.SharedLaws.{not_declared, is_declared, none_shared, words_halt, range_halts, shared_read}
use Rattle.frame.proofs.shared.shared.Goals as goal

pub returns-then-not-declared : goal.returns-then-not-declared
returns-then-not-declared c =
    let a = c.args in
    none_shared _ _ (next_at a.card.now a.at (step_at a.card.now a.at) refl)
    (not_declared _ _ c.declared.ensures c.if-not-declared.true) a.state.now

pub returns-in_err-words : goal.returns-in_err-words
returns-in_err-words c =
    let a = c.args in
    rw (returned _ _ c.from_residual.ensures.1)
    (words_halt _ _ (next_at a.card.now a.at (step_at a.card.now a.at) refl)
    (is_declared _ _ c.declared.ensures c.if-not-declared.false) _ c.in_err-words.ensures)

pub returns-in_err-end : goal.returns-in_err-end
returns-in_err-end c =
    let a = c.args in
    rw (returned _ _ c.from_residual-in_err-end.ensures.1)
    (range_halts _ _ (next_at a.card.now a.at (step_at a.card.now a.at) refl)
    (is_declared _ _ c.declared.ensures c.if-not-declared.false) _ c.in_ok-words.ensures c.in_err-end.ensures)

pub overflow_add-state : goal.overflow_add-state
overflow_add-state c = let few = c.in_ok-end.ensures.within in omega (arith, few)

pub returns : goal.returns
returns c =
    let a = c.args in
    shared_read _ _ (next_at a.card.now a.at (step_at a.card.now a.at) refl)
    (is_declared _ _ c.declared.ensures c.if-not-declared.false) _ c.in_ok-words.ensures c.in_ok-end.ensures
