-- `shared_text::put_set_last` meets its contract: one put after the other. Assumes nothing.
use Rattle.phrases.proofs.Laws.{put_first, puts_then}
use Rattle.shared_text.proofs.put_set_last.Goals as goal

pub returns : goal.returns
returns c =
    puts_then (put_first c.put_bytes-a.ensures) c.put_set.ensures
