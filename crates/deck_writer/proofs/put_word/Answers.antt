-- `deck_writer::put_word` meets its contract: two bytes, one behind the other. Assumes nothing.
use Rattle.room.proofs.Laws.{then}
use Rattle.deck_writer.proofs.put_word.Goals as goal

pub returns : goal.returns
returns c =
    then c.put_byte-a.ensures c.put_byte.ensures
