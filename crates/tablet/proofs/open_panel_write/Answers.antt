-- `tablet::open_panel_write` meets its contract: the entry's answer, in numbers. Assumes nothing.
use Rattle.tablet.proofs.Laws.{told}
use Rattle.tablet.proofs.open_panel_write.Goals as goal

pub returns : goal.returns
returns c = told c.write.ensures c.from.ensures
