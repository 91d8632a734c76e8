-- Invariant: the group is what the literals so far and the others behind the mark ahead make (Turning). The measure is how many
-- marks stand behind the mark ahead.
use Rattle.std.proofs.lemmas.Result.{err_from_is_err_and}
use Rattle.group.proofs.Groups.{first_wrong, begins, turn_word, turn_literal, turn_on, turn_less, ends_open, ends_closed}
use mathlib.Core.Path.{refl}
use Rattle.group.proofs.group.Goals as goal

pub returns-in_err-first : goal.returns-in_err-first
returns-in_err-first c =
    let p = err_from_is_err_and c.from_residual.result c.from_residual.ensures.1 in
    rw (p.1, p.2) (first_wrong c.args.part.now c.args.at c.args.seat c.in_err-first.field-0.0 c.in_err-first.ensures)

pub loop-ahead-init : goal.loop-ahead-init
loop-ahead-init c =
    begins c.args.part.now c.args.at c.args.seat
    c.in_ok-first.first _ c.joint-joint.result c.joint-joint.ensures
    c.in_ok-first.ensures c.step_joint-ahead.result c.step_joint-ahead.ensures refl _ c.note.ensures

pub returns-then-word-ne-SEAT : goal.returns-then-word-ne-SEAT
returns-then-word-ne-SEAT c =
    turn_word c.args.part.now c.args.at c.args.seat
    c.in_ok-first.first _ c.joint-joint.result c.joint-joint.ensures
    c.loop-ahead.seen c.loop-ahead.count c.loop-ahead.alike c.loop-ahead.ahead c.loop-ahead.invariant
    c.loop-ahead-test.true c.step_seat-word.result c.step_seat-word.ensures c.if-word-ne-SEAT.true

pub returns-in_err-more : goal.returns-in_err-more
returns-in_err-more c =
    let p = err_from_is_err_and c.from_residual-in_err-more.result c.from_residual-in_err-more.ensures.1 in
    rw (p.1, p.2)
    (turn_literal c.args.part.now c.args.at c.args.seat
    c.in_ok-first.first _ c.joint-joint.result c.joint-joint.ensures
    c.loop-ahead.seen c.loop-ahead.count c.loop-ahead.alike c.loop-ahead.ahead c.loop-ahead.invariant
    c.loop-ahead-test.true c.step_seat-word.result c.step_seat-word.ensures
    c.if-word-ne-SEAT.false c.in_err-more.field-0.0 c.in_err-more.ensures)

pub loop-ahead-smaller : goal.loop-ahead-smaller
loop-ahead-smaller c =
    turn_less c.args.part.now c.args.at c.args.seat
    c.in_ok-first.first _ c.joint-joint.result c.joint-joint.ensures
    c.loop-ahead.seen c.loop-ahead.count c.loop-ahead.alike c.loop-ahead.ahead c.loop-ahead.invariant
    c.loop-ahead-test.true c.step_seat-word.result c.step_seat-word.ensures
    c.if-word-ne-SEAT.false c.in_ok-more.more c.in_ok-more.ensures
    c.step_closing-ahead.result c.step_closing-ahead.ensures

pub loop-ahead-preserved : goal.loop-ahead-preserved
loop-ahead-preserved c =
    turn_on c.args.part.now c.args.at c.args.seat
    c.in_ok-first.first _ c.joint-joint.result c.joint-joint.ensures
    c.loop-ahead.seen c.loop-ahead.count c.loop-ahead.alike c.loop-ahead.ahead c.loop-ahead.invariant
    c.loop-ahead-test.true c.step_seat-word.result c.step_seat-word.ensures
    c.if-word-ne-SEAT.false c.in_ok-more.more c.in_ok-more.ensures
    c.step_closing-ahead.result c.step_closing-ahead.ensures
    c.note-in-loop-ahead.new.seen c.note-in-loop-ahead.ensures c.one_more-count.result c.one_more-count.ensures
    c.same-alike.result c.same-alike.ensures

pub returns-then-ahead-ne-ROUND_CLOSE : goal.returns-then-ahead-ne-ROUND_CLOSE
returns-then-ahead-ne-ROUND_CLOSE c =
    ends_open c.args.part.now c.args.at c.args.seat
    c.in_ok-first.first _ c.joint-joint.result c.joint-joint.ensures
    c.loop-ahead.seen c.loop-ahead.count c.loop-ahead.alike c.loop-ahead.ahead c.loop-ahead.invariant
    c.loop-ahead-test.false c.if-ahead-ne-ROUND_CLOSE.true

pub returns : goal.returns
returns c =
    ends_closed c.args.part.now c.args.at c.args.seat
    c.in_ok-first.first _ c.joint-joint.result c.joint-joint.ensures
    c.loop-ahead.seen c.loop-ahead.count c.loop-ahead.alike c.loop-ahead.ahead c.loop-ahead.invariant
    c.loop-ahead-test.false c.if-ahead-ne-ROUND_CLOSE.false
    c.want.result c.pack_group.result c.kind-kind.result c.sign-sign.result
    c.want.ensures c.kind-kind.ensures c.sign-sign.ensures c.pack_group.ensures
