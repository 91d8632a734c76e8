-- `card_text::put_module` meets its contract: by the digits of the seat. Assumes nothing.
use Rattle.room.proofs.Decimal.{decimal_one, decimal_teen}
use Rattle.phrases.proofs.Laws.{put_first, puts_as}
use Rattle.card_text.proofs.put_module.Goals as goal

pub returns-then-seat-lt10 : goal.returns-then-seat-lt10
returns-then-seat-lt10 c = puts_as _ (λ t. rw (decimal_one c.args.seat c.if-seat-lt10.true)) (put_first c.put_filled.ensures)

pub returns : goal.returns
returns c = puts_as _ (λ t. rw (decimal_teen c.args.seat c.if-seat-lt10.false c.requires)) (put_first c.put_filled-2.ensures)
