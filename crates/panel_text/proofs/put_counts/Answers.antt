-- `panel_text::put_counts` meets its contract: its two lines, one after the other. Assumes nothing.
use Rattle.phrases.proofs.Laws.{puts_then}
use Rattle.panel_text.proofs.put_counts.Goals as goal

pub returns : goal.returns
returns c =
    puts_then c.put_line-a.ensures c.put_line.ensures
