-- `panel::panel` meets its contract: the first refusal of card and seats, or the panel that the table holds. Assumes nothing.
use Rattle.std.proofs.lemmas.Result.{err_from_is_err_and}
use Rattle.outline.proofs.ReadInto.{arrays_none}
use Rattle.panel.proofs.Entry.{card_refused, seats_refused, filling, entry_prints, entry_said}
use Rattle.room.proofs.Entries.{entered_refused}
use Rattle.panel.proofs.panel.Goals as goal

pub read_into-requires : goal.read_into-requires
read_into-requires c = arrays_none

pub returns-in_err-head : goal.returns-in_err-head
returns-in_err-head c =
    let p = err_from_is_err_and c.from_residual.result c.from_residual.ensures.1 in
    rw (p.1, p.2) (entered_refused (card_refused _ _ c.in_err-head.ensures))

pub returns-in_err-judge_seats : goal.returns-in_err-judge_seats
returns-in_err-judge_seats c =
    let p = err_from_is_err_and c.from_residual-in_err-judge_seats.result c.from_residual-in_err-judge_seats.ensures.1 in
    rw (p.1, p.2) (entered_refused (seats_refused _ _ c.in_ok-head.ensures c.in_err-judge_seats.ensures))

pub fill-requires : goal.fill-requires
fill-requires c = filling _ _ c.in_ok-head.ensures c.in_ok-judge_seats.ensures

pub enter_panel-requires : goal.enter_panel-requires
enter_panel-requires c = entry_prints _ _ c.in_ok-head.ensures c.in_ok-judge_seats.ensures c.fill.ensures

pub returns : goal.returns
returns c = rw (entry_said _ _ c.in_ok-head.ensures c.in_ok-judge_seats.ensures c.fill.ensures) at c.enter_panel.ensures
