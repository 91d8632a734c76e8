-- `tablet::open_panel_tidy` meets its contract: the entry's answer, in numbers, and the deck as it leaves it. Assumes nothing.
use Rattle.tablet.proofs.Laws.{deck_told}
use Rattle.tablet.proofs.open_panel_tidy.Goals as goal

pub returns : goal.returns
returns c = deck_told c.tidy.ensures c.from.ensures
