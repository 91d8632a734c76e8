-- `entries::ask` meets its contract: the stages in their order, each by the contract of what judges it. Assumes nothing.
use mathlib.Core.List.{[]}
use mathlib.Core.Path.{refl, sym, ap}
use Rattle.std.proofs.lemmas.Result.{err_from_is_err_and}
use Rattle.ask_stages.proofs.Entry.{card_refused, seats_fit, few_shared, question_number, question_refused, still_long, seats_refused, answered}
use Rattle.entries.specs.Answered.{asked}
use Rattle.outline.proofs.ReadInto.{arrays_none}
use Rattle.entries.proofs.ask.Goals as goal

pub read_into-requires : goal.read_into-requires
read_into-requires c = arrays_none

pub returns-in_err-head : goal.returns-in_err-head
returns-in_err-head c =
    let p = err_from_is_err_and c.from_residual.result c.from_residual.ensures.1 in
    rw (p.1, p.2) (sym (ap asked (card_refused _ _ _ c.in_err-head.ensures refl)))

pub question_into-requires : goal.question_into-requires
question_into-requires c =
    record { le_seats = seats_fit _ [] [] c.in_ok-head.ensures refl; values_le_most_shared = few_shared _ [] [] c.in_ok-head.ensures refl }

pub in_question-requires : goal.in_question-requires
in_question-requires c = question_number _ _ [] c.in_ok-head.ensures refl _ _ c.in-Err.ensures refl

pub returns-in-Err : goal.returns-in-Err
returns-in-Err c = rw c.in_question.ensures (sym (ap asked (question_refused _ _ _ c.in_ok-head.ensures refl _ _ c.in-Err.ensures refl)))

pub returns-in_err-judge_seats : goal.returns-in_err-judge_seats
returns-in_err-judge_seats c =
    let p = err_from_is_err_and c.from_residual-in_err-judge_seats.result c.from_residual-in_err-judge_seats.ensures.1 in
    rw (p.1, p.2) (sym (ap asked (seats_refused _ _ _ c.in_ok-head.ensures refl _ _ c.in-Ok.ensures refl c.in_err-judge_seats.ensures refl)))

pub slice_bounds-held-end : goal.slice_bounds-held-end
slice_bounds-held-end c = sym (still_long _ _ [] c.in_ok-head.ensures refl _ _ c.in-Ok.ensures refl)

pub returns : goal.returns
returns c =
    sym (ap asked (answered _ _ _ c.in_ok-head.ensures refl _ _ c.in-Ok.ensures refl c.in_ok-judge_seats.ensures refl c.count_seats-counts.ensures c.shared_of-shared.ensures c.held.ensures))
