-- `reduced_text::put_counter` meets its contract: by the digits of the seats and of what it starts at. Assumes nothing.
use mathlib.Core.Path.{sym}
use native.Mathlib.Omega.{arith}
use Rattle.room.proofs.Decimal.{decimal_one, decimal_teen}
use Rattle.phrases.proofs.Laws.{put_first, puts_as}
use Rattle.reduced_text.proofs.put_counter.Goals as goal

pub returns-then-seats-lt10 : goal.returns-then-seats-lt10
returns-then-seats-lt10 c =
    puts_as _ (λ t. rw (sym c.start_of-v.ensures.number, decimal_one c.args.d c.requires.0, decimal_one c.args.seats c.if-seats-lt10.true, decimal_one c.start_of-v.result (omega arith)))
    (put_first c.put_filled.ensures)

pub returns-then-v-lt10 : goal.returns-then-v-lt10
returns-then-v-lt10 c =
    puts_as _ (λ t. rw (sym c.start_of-v.ensures.number, decimal_one c.args.d c.requires.0, decimal_teen c.args.seats c.if-seats-lt10.false c.requires.1, decimal_one c.start_of-v.result c.if-v-lt10.true))
    (put_first c.put_filled-then-v-lt10.ensures)

pub returns : goal.returns
returns c =
    puts_as _ (λ t. rw (sym c.start_of-v.ensures.number, decimal_one c.args.d c.requires.0, decimal_teen c.args.seats c.if-seats-lt10.false c.requires.1, decimal_teen c.start_of-v.result c.if-v-lt10.false (omega arith)))
    (put_first c.put_filled-2.ensures)
