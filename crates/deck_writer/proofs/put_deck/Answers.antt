-- `deck_writer::put_deck` meets its contract: count, entries and bodies, one behind the other. Assumes nothing.
use Rattle.deck_writer.proofs.Putting.{deck_put}
use Rattle.deck_writer.proofs.put_deck.Goals as goal

pub returns : goal.returns
returns c =
    deck_put c.put_byte-a.ensures c.put_lines.ensures c.put_run.ensures
