-- `lines::put_rest` meets its contract: two puts, one after the other. Assumes nothing.
use Rattle.phrases.proofs.Laws.{put_first, puts_then}
use Rattle.lines.proofs.put_rest.Goals as goal

pub returns : goal.returns
returns c = puts_then c.put_numbers-a.ensures (put_first c.put_byte.ensures)
