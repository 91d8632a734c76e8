-- `entries::first_move` meets its contract: the first refusal of card and seats, or what the walk finds. Assumes nothing.
use mathlib.Core.List.{[]}
use mathlib.Core.Path.{sym, ap}
use Rattle.std.proofs.lemmas.Result.{err_from_is_err_and}
use Rattle.able_seats.specs.Moved.{moved}
use Rattle.outline.proofs.ReadInto.{arrays_none}
use Rattle.entries.proofs.MoveStages.{card_refused, seats_refused, few, answered}
use Rattle.entries.proofs.first_move.Goals as goal

pub read_into-requires : goal.read_into-requires
read_into-requires c = arrays_none

pub returns-in_err-whole : goal.returns-in_err-whole
returns-in_err-whole c =
    let p = err_from_is_err_and c.from_residual.result c.from_residual.ensures.1 in
    rw (p.1, p.2) (sym (ap moved (card_refused _ _ c.in_err-whole.ensures)))

pub returns-in_err-judge_seats : goal.returns-in_err-judge_seats
returns-in_err-judge_seats c =
    let p = err_from_is_err_and c.from_residual-in_err-judge_seats.result c.from_residual-in_err-judge_seats.ensures.1 in
    rw (p.1, p.2) (sym (ap moved (seats_refused _ _ c.in_ok-whole.ensures c.in_err-judge_seats.ensures)))

pub first_able-requires : goal.first_able-requires
first_able-requires c = few _ [] c.in_ok-whole.ensures

pub returns : goal.returns
returns c =
    rw c.first_able.ensures (sym (ap moved (answered _ _ c.in_ok-whole.ensures c.in_ok-judge_seats.ensures c.count_seats-counts.ensures c.shared_of-shared.ensures)))
