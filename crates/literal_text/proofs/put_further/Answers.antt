-- `literal_text::put_further` meets its contract: where the digits are few the bytes are the text's, else it is a sign and then a literal.
-- Assumes nothing.
use Rattle.phrases.proofs.Laws.{put_first, puts_then, puts_as, either_text}
use Rattle.room.proofs.Decimal.{decimal_one}
use Rattle.card.specs.Card.{all, any}
use Rattle.texts.specs.Writing.{sign_text}
use Rattle.literal_text.proofs.Laws.{decimal_teen, further_is, further_isnt}
use Rattle.literal_text.proofs.put_further.Goals as goal

pub returns-then-relation-eq-IS : goal.returns-then-relation-eq-IS
returns-then-relation-eq-IS c =
    let a = c.args in
    puts_as _ (further_is a.sign a.relation a.state a.seat c.if-state-lt10.true (decimal_one a.seat c.if-seat-lt10.true) c.joint_of-joint.ensures c.if-relation-eq-IS.true) (put_first c.put_filled.ensures)

pub returns-then-seat-lt10 : goal.returns-then-seat-lt10
returns-then-seat-lt10 c =
    let a = c.args in
    puts_as _ (further_isnt a.sign a.relation a.state a.seat c.if-state-lt10.true (decimal_one a.seat c.if-seat-lt10.true) c.joint_of-joint.ensures c.if-relation-eq-IS.false) (put_first c.put_filled-then-seat-lt10.ensures)

pub returns-then-relation-eq-IS-2 : goal.returns-then-relation-eq-IS-2
returns-then-relation-eq-IS-2 c =
    let a = c.args in
    puts_as _ (further_is a.sign a.relation a.state a.seat c.if-state-lt10.true (decimal_teen a.seat c.if-seat-lt10.false c.if-seat-lt20.true) c.joint_of-joint.ensures c.if-relation-eq-IS-2.true) (put_first c.put_filled-then-relation-eq-IS-2.ensures)

pub returns-then-seat-lt20 : goal.returns-then-seat-lt20
returns-then-seat-lt20 c =
    let a = c.args in
    puts_as _ (further_isnt a.sign a.relation a.state a.seat c.if-state-lt10.true (decimal_teen a.seat c.if-seat-lt10.false c.if-seat-lt20.true) c.joint_of-joint.ensures c.if-relation-eq-IS-2.false) (put_first c.put_filled-then-seat-lt20.ensures)

pub returns : goal.returns
returns c =
    puts_then (puts_as _ (either_text all any sign_text c.args.sign) c.put_either-a.ensures) c.put_literal.ensures
