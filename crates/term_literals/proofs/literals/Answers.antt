-- Invariant: the term is what the literals so far and the others behind the mark ahead make (Turning). The measure is how many marks
-- stand behind the mark ahead.
use Rattle.std.proofs.lemmas.Result.{err_from_is_err_and}
use Rattle.term_literals.proofs.TermLaws.{first_wrong, begins, turn_word, turn_literal, turn_on, turn_less, ends_open, ends_closed}
use Rattle.term_literals.proofs.literals.Goals as goal

pub returns-in_err-first : goal.returns-in_err-first
returns-in_err-first c =
    let p = err_from_is_err_and c.from_residual.result c.from_residual.ensures.1 in
    rw (p.1, p.2) (first_wrong c.args.part.now c.args.at c.args.seat c.args.i c.in_err-first.field-0.0 c.in_err-first.ensures)

pub loop-ahead-init : goal.loop-ahead-init
loop-ahead-init c =
    begins c.args.part.now c.args.at c.args.seat c.args.i c.in_ok-first.first c.in_ok-first.ensures c.step_sign-ahead.result c.step_sign-ahead.ensures _ c.note.ensures c.relation_due.result c.relation_due.ensures c.as_due-due.result c.as_due-due.ensures

pub returns-then-word-ne-SEAT : goal.returns-then-word-ne-SEAT
returns-then-word-ne-SEAT c =
    turn_word c.loop-ahead.invariant c.loop-ahead-test.true c.step_tight_seat-word.result c.step_tight_seat-word.ensures c.if-word-ne-SEAT.true

pub returns-in_err-more : goal.returns-in_err-more
returns-in_err-more c =
    let p = err_from_is_err_and c.from_residual-in_err-more.result c.from_residual-in_err-more.ensures.1 in
    rw (p.1, p.2)
    (turn_literal c.loop-ahead.invariant c.loop-ahead-test.true c.step_tight_seat-word.result c.step_tight_seat-word.ensures c.if-word-ne-SEAT.false c.in_err-more.field-0.0 c.in_err-more.ensures)

pub loop-ahead-smaller : goal.loop-ahead-smaller
loop-ahead-smaller c =
    turn_less c.loop-ahead.invariant c.loop-ahead-test.true c.step_tight_seat-word.result c.step_tight_seat-word.ensures c.if-word-ne-SEAT.false c.in_ok-more.more c.in_ok-more.ensures c.step_and-ahead.result c.step_and-ahead.ensures

pub loop-ahead-preserved : goal.loop-ahead-preserved
loop-ahead-preserved c =
    turn_on c.loop-ahead.invariant c.loop-ahead-test.true
    c.step_tight_seat-word.result c.step_tight_seat-word.ensures c.if-word-ne-SEAT.false
    c.in_ok-more.more c.in_ok-more.ensures
    c.step_and-ahead.result c.step_and-ahead.ensures
    c.note-in-loop-ahead.new.seen c.note-in-loop-ahead.ensures c.one_more-count.result c.one_more-count.ensures
    c.relation_due-in-loop-ahead.result c.relation_due-in-loop-ahead.ensures c.as_due-due-in-loop-ahead.result c.as_due-due-in-loop-ahead.ensures
    c.mixes-mixed.result c.mixes-mixed.ensures

pub returns-then-ahead-ne-ROUND_CLOSE : goal.returns-then-ahead-ne-ROUND_CLOSE
returns-then-ahead-ne-ROUND_CLOSE c =
    ends_open c.loop-ahead.invariant c.loop-ahead-test.false c.if-ahead-ne-ROUND_CLOSE.true

pub returns : goal.returns
returns c =
    ends_closed c.loop-ahead.invariant c.loop-ahead-test.false c.if-ahead-ne-ROUND_CLOSE.false c.each_once.result c.each_once.ensures
