-- `tablet::open_panel_add` meets its contract: the entry's answer, in numbers, and the deck as it leaves it. Assumes nothing.
use Rattle.tablet.proofs.Laws.{deck_told}
use Rattle.tablet.proofs.open_panel_add.Goals as goal

pub returns : goal.returns
returns c = deck_told c.add.ensures c.from.ensures
