-- `tablet::open_panel_box_write` meets its contract: the entry's answer, in numbers. Assumes nothing.
use Rattle.tablet.proofs.Laws.{told}
use Rattle.tablet.proofs.open_panel_box_write.Goals as goal

pub returns : goal.returns
returns c = told c.write_deck.ensures c.from.ensures
