-- `deck_writer::put_lines` meets its contract: each turn leaves one entry less to be put. Assumes nothing.
use Rattle.deck_writer.proofs.Putting.{LinesLeft}
use Rattle.deck_writer.proofs.put_lines.Given as goal

abbrev pub invariant-loop-i : goal.invariant-loop-i
invariant-loop-i l = LinesLeft l.initial.room l.room l.contents l.first l.at l.i l.offset l.to
