-- `program_lines::put_refusal` meets its contract: its puts, one after the other; the line is short, since its numbers are. Assumes nothing.
use Rattle.program_lines.proofs.Printing.{refusal_short}
use Rattle.phrases.proofs.Laws.{put_first, puts_then}
use Rattle.program_lines.proofs.put_refusal.Goals as goal

pub returns : goal.returns
returns c =
    let line =
    puts_then (put_first c.put_bytes-a.ensures)
    (puts_then (put_first (rw c.from.ensures at c.put_number-b.ensures))
    (puts_then (put_first c.put_byte-c.ensures)
    (puts_then (put_first c.put_number-d.ensures) (put_first c.put_byte.ensures)))) in
    record { line = line.put; short = refusal_short c.ranges.number.fits c.ranges.place.fits line.put }
