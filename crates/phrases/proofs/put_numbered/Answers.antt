-- `phrases::put_numbered` meets its contract: one put after the other. Assumes nothing.
use Rattle.phrases.proofs.Laws.{put_first, puts_then}
use Rattle.phrases.proofs.put_numbered.Goals as goal

pub returns : goal.returns
returns c =
    puts_then (put_first c.put_bytes-a.ensures) (put_first c.put_number.ensures)
