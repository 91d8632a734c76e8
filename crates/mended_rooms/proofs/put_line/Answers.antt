-- `mended_rooms::put_line` meets its contract: one word, or a word and the rule. Assumes nothing.
use Rattle.phrases.proofs.Laws.{put_first, puts_then, puts_as}
use Rattle.mended_rooms.proofs.Listed.{line_dropped}
use Rattle.mended_rooms.proofs.put_line.Goals as goal

pub returns : goal.returns
returns c =
    puts_as _ (line_dropped c.in-Some.rule c.in-Some.is) (puts_then (put_first c.put_bytes-a.ensures) (puts_then (put_first c.put_number-b.ensures) (put_first c.put_byte.ensures)))
