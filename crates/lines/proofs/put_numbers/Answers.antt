-- `lines::put_numbers` meets its contract: after i turns the first i numbers are put. Assumes nothing.
use borrow.Author.Rules.{rules}
use Rattle.phrases.proofs.Laws.{put_first, puts_then, puts_none}
use Rattle.room.proofs.Laws.{put_length}
use Rattle.panel_wording.proofs.Laws.{numbers_next, numbers_end}
use Rattle.lines.proofs.put_numbers.Goals as goal

pub loop-value-init : goal.loop-value-init
loop-value-init c = puts_none (search rules) c.place-to.ensures

pub loop-value-preserved : goal.loop-value-preserved
loop-value-preserved c =
    numbers_next c.args.values.now c.loop-value.value-index c.loop-value-test.true c.loop-value.invariant (puts_then (put_first c.put_byte-a.ensures) (put_first c.put_number-to.ensures))

pub shape_of-room : goal.shape_of-room
shape_of-room c = put_length c.loop-value.invariant.put

pub returns : goal.returns
returns c =
    numbers_end c.args.values.now _ c.loop-value-test.false c.loop-value.invariant
