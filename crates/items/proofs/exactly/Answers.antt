-- Invariant: the whole is what the terms so far and the others behind the mark ahead make (Turning). The measure is how many marks
-- stand behind the mark ahead.
use Rattle.std.proofs.lemmas.Result.{err_from_is_err_and}
use Rattle.items.proofs.OneLaws.{first_wrong, begins, turn_wrong, turn_on, turn_less, ends_open, ends_closed}
use Rattle.items.proofs.exactly.Goals as goal

pub returns-in_err-first : goal.returns-in_err-first
returns-in_err-first c =
    let p = err_from_is_err_and c.from_residual.result c.from_residual.ensures.1 in
    rw (p.1, p.2) (first_wrong c.args.part.now c.in_err-first.field-0.0 c.in_err-first.ensures)

pub loop-ahead-init : goal.loop-ahead-init
loop-ahead-init c =
    begins c.args.part.now c.in_ok-first.first c.in_ok-first.ensures c.step_joint-ahead.result c.step_joint-ahead.ensures

pub returns-in_err-more : goal.returns-in_err-more
returns-in_err-more c =
    let p = err_from_is_err_and c.from_residual-in_err-more.result c.from_residual-in_err-more.ensures.1 in
    rw (p.1, p.2) (turn_wrong c.loop-ahead.invariant c.loop-ahead-test.true _ c.in_err-more.field-0.0 c.in_err-more.ensures)

pub loop-ahead-smaller : goal.loop-ahead-smaller
loop-ahead-smaller c =
    turn_less c.loop-ahead.invariant c.loop-ahead-test.true _ c.in_ok-more.more c.in_ok-more.ensures c.step_joint-ahead-in-loop-ahead.result c.step_joint-ahead-in-loop-ahead.ensures

pub loop-ahead-preserved : goal.loop-ahead-preserved
loop-ahead-preserved c =
    turn_on c.loop-ahead.invariant c.loop-ahead-test.true _ c.in_ok-more.more c.in_ok-more.ensures
    c.step_joint-ahead-in-loop-ahead.result c.step_joint-ahead-in-loop-ahead.ensures c.one_more-number.ensures
    c.one_more-number.result c.one_more-number.ensures c.agrees-all.result c.agrees-all.ensures

pub returns-then-ahead-ne-ROUND_CLOSE : goal.returns-then-ahead-ne-ROUND_CLOSE
returns-then-ahead-ne-ROUND_CLOSE c =
    ends_open c.loop-ahead.invariant c.loop-ahead-test.false c.if-ahead-ne-ROUND_CLOSE.true

pub returns : goal.returns
returns c =
    ends_closed c.loop-ahead.invariant c.loop-ahead-test.false c.if-ahead-ne-ROUND_CLOSE.false c.seats_asked.result c.pack_one.result c.seats_asked.ensures c.pack_one.ensures
