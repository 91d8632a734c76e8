-- `card_text::put_head` meets its contract: one put after the other. Assumes nothing.
use Rattle.phrases.proofs.Laws.{put_first, puts_then}
use Rattle.card_text.proofs.put_head.Goals as goal

pub returns : goal.returns
returns c =
    puts_then c.put_mode-a.ensures (puts_then c.put_declaration-b.ensures (puts_then c.put_numbered-c.ensures (puts_then c.put_numbered-d.ensures (put_first c.put_bytes.ensures))))
