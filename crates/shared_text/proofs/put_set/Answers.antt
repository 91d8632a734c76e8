-- `shared_text::put_set` meets its contract: one put after the other. Assumes nothing.
use Rattle.phrases.proofs.Laws.{put_first, puts_then}
use Rattle.shared_text.proofs.put_set.Goals as goal

pub returns : goal.returns
returns c =
    puts_then c.put_numbered-a.ensures (put_first c.put_byte.ensures)
