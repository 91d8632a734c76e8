-- A way out for each part, in the order of the parts (proofs/RangeLaws.antt). Assumes nothing.
use Rattle.parts.proofs.Answers.{returned}
use Rattle.mode_and_range.proofs.RangeLaws.{span_halts, square_halts, init_halts, start_halts, semicolon_halts, range_read}
use Rattle.mode_and_range.proofs.range.Goals as goal

pub returns-in_err-values : goal.returns-in_err-values
returns-in_err-values c = rw (returned _ _ c.from_residual.ensures.1) (span_halts _ _ _ _ c.in_err-values.ensures)

pub returns-in_err-close : goal.returns-in_err-close
returns-in_err-close c = rw (returned _ _ c.from_residual-in_err-close.ensures.1) (square_halts _ _ _ _ c.in_ok-values.ensures c.in_err-close.ensures)

pub returns-in_err-init : goal.returns-in_err-init
returns-in_err-init c =
    rw (returned _ _ c.from_residual-in_err-init.ensures.1) (init_halts _ _ _ _ c.in_ok-values.ensures c.in_ok-close.ensures c.in_err-init.ensures)

pub returns-in_err-last : goal.returns-in_err-last
returns-in_err-last c =
    rw (returned _ _ c.from_residual-in_err-last.ensures.1)
    (start_halts _ _ _ _ c.in_ok-values.ensures c.in_ok-close.ensures c.in_ok-init.ensures c.in_err-last.ensures)

pub returns-in_err-end : goal.returns-in_err-end
returns-in_err-end c =
    rw (returned _ _ c.from_residual-in_err-end.ensures.1)
    (semicolon_halts _ _ _ _ c.in_ok-values.ensures c.in_ok-close.ensures c.in_ok-init.ensures c.in_ok-last.ensures c.in_err-end.ensures)

pub returns : goal.returns
returns c =
    range_read _ _ _ _ c.in_ok-values.ensures c.in_ok-close.ensures c.in_ok-init.ensures c.in_ok-last.ensures c.in_ok-end.ensures
