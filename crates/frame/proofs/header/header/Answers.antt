-- A way out for each part, in the order of the parts (proofs/HeaderLaws.antt). Assumes nothing.
use Rattle.parts.proofs.Answers.{returned}
use Rattle.frame.proofs.HeaderLaws.{mode_halts, shared_halts, words_halt, range_halts, header_read}
use Rattle.frame.proofs.header.header.Goals as goal

pub returns-in_err-first : goal.returns-in_err-first
returns-in_err-first c = rw (returned _ _ c.from_residual.ensures.1) (mode_halts _ _ _ c.in_err-first.ensures)

pub returns-in_err-behind : goal.returns-in_err-behind
returns-in_err-behind c =
    rw (returned _ _ c.from_residual-in_err-behind.ensures.1) (shared_halts _ _ _ c.in_ok-first.ensures c.in_err-behind.ensures)

pub returns-in_err-words : goal.returns-in_err-words
returns-in_err-words c =
    rw (returned _ _ c.from_residual-in_err-words.ensures.1)
    (words_halt _ _ _ c.in_ok-first.ensures c.in_ok-behind.ensures c.in_err-words.ensures)

pub returns-in_err-end : goal.returns-in_err-end
returns-in_err-end c =
    rw (returned _ _ c.from_residual-in_err-end.ensures.1)
    (range_halts _ _ _ c.in_ok-first.ensures c.in_ok-behind.ensures c.in_ok-words.ensures c.in_err-end.ensures)

pub returns : goal.returns
returns c = header_read _ _ _ c.in_ok-first.ensures c.in_ok-behind.ensures c.in_ok-words.ensures c.in_ok-end.ensures
