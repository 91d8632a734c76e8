-- `reduced_text::put_head` meets its contract: one put after the other. Assumes nothing.
use Rattle.phrases.proofs.Laws.{put_first, puts_then}
use Rattle.reduced_text.proofs.put_head.Goals as goal

pub returns : goal.returns
returns c =
    puts_then c.put_mode-a.ensures (puts_then c.put_declaration-b.ensures (puts_then (put_first c.put_bytes-c.ensures) c.put_counters.ensures))
