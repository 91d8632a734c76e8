-- `statement_copies::put_first` meets its contract: by which text it is, and by the digits. Assumes nothing.
use Rattle.room.proofs.Decimal.{decimal_one}
use Rattle.phrases.proofs.Laws.{put_first, puts_then, puts_as}
use Rattle.statement_copies.proofs.put_first.Goals as goal

pub returns-then-style-lt10 : goal.returns-then-style-lt10
returns-then-style-lt10 c =
    puts_as _ (λ t. rw (c.in-Written.is, decimal_one c.args.style.own c.if-style-lt10.true)) (put_first c.put_filled.ensures)

pub returns-else-style-lt10 : goal.returns-else-style-lt10
returns-else-style-lt10 c = puts_as _ (λ t. rw c.in-Written.is) c.put_numbered.ensures

pub returns-then-style-lt10-2 : goal.returns-then-style-lt10-2
returns-then-style-lt10-2 c =
    puts_as _ (λ t. rw (c.in-Reduced.is, decimal_one c.args.style.own c.if-style-lt10-2.true))
    (puts_then (put_first c.put_filled-above.ensures) (puts_then (put_first c.put_number-close.ensures) (put_first c.put_byte.ensures)))

pub returns-else-style-lt10-2 : goal.returns-else-style-lt10-2
returns-else-style-lt10-2 c =
    puts_as _ (λ t. rw c.in-Reduced.is) (puts_then c.put_numbered-a.ensures (puts_then c.put_numbered-b.ensures (put_first c.put_byte-in-Reduced.ensures)))
