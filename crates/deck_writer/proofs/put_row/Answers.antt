-- `deck_writer::put_row` meets its contract: its fields, one behind the other. Assumes nothing.
use Rattle.room.proofs.Laws.{then}
use Rattle.deck_writer.proofs.put_row.Goals as goal

pub returns : goal.returns
returns c =
    then c.put_word-a.ensures (then c.put_word-b.ensures (then c.put_word-c.ensures (then c.put_byte-d.ensures c.put_byte.ensures)))
