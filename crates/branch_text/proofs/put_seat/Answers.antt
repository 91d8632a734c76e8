-- `branch_text::put_seat` meets its contract: of one digit. Assumes nothing.
use Rattle.phrases.proofs.Laws.{put_first, puts_as}
use Rattle.room.proofs.Decimal.{decimal_one}
use Rattle.branch_text.proofs.put_seat.Goals as goal

pub returns : goal.returns
returns c = puts_as _ (λ t. rw (decimal_one c.args.end c.requires)) (put_first c.put_filled.ensures)
