-- `panel_text::put_head` meets its contract: its puts, one after the other. Assumes nothing.
use Rattle.phrases.proofs.Laws.{put_first, puts_then}
use native.Mathlib.Omega.{arith}
use Rattle.panel_text.proofs.put_head.Goals as goal

pub put_counts-d-requires : goal.put_counts-d-requires
put_counts-d-requires c =
    omega (arith, c.requires.0, c.requires.1)

pub returns : goal.returns
returns c =
    puts_then c.put_mode-a.ensures (puts_then (put_first c.put_bytes-b.ensures) (puts_then (put_first c.put_number-c.ensures) (puts_then c.put_counts-d.ensures c.put_shared.ensures)))
