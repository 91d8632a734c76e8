-- `lines::put_line` meets its contract: a word, and behind it the rest of the line. Assumes nothing.
use Rattle.phrases.proofs.Laws.{put_first, puts_then}
use Rattle.lines.proofs.put_line.Goals as goal

pub returns : goal.returns
returns c = puts_then (put_first c.put_bytes-a.ensures) c.put_rest.ensures
