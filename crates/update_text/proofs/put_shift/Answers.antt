-- `update_text::put_shift` meets its contract: by the digits, one put after the other. Assumes nothing.
use Rattle.update_text.proofs.Laws.{shift_digits}
use Rattle.phrases.proofs.Laws.{put_first, puts_then, puts_as}
use Rattle.update_text.proofs.put_shift.Goals as goal

pub returns-then-end-lt10 : goal.returns-then-end-lt10
returns-then-end-lt10 c =
    puts_as _ (shift_digits c.args.seats c.args.own c.args.end c.if-own-lt10.true c.if-end-lt10.true)
    (puts_then (put_first c.put_filled-most.ensures) (puts_then (put_first c.put_number-close.ensures) (put_first c.put_bytes.ensures)))

pub returns : goal.returns
returns c =
    puts_then c.put_numbered-a.ensures (puts_then c.put_numbered-b.ensures (puts_then c.put_numbered-c.ensures
    (puts_then c.put_numbered-d.ensures (puts_then c.put_numbered-e.ensures (put_first c.put_bytes-2.ensures)))))
