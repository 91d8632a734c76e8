-- `tablet::open_panel_convert` meets its contract: the entry's answer, in numbers. Assumes nothing.
use Rattle.tablet.proofs.Laws.{told}
use Rattle.tablet.proofs.open_panel_convert.Goals as goal

pub returns : goal.returns
returns c = told c.convert.ensures c.from.ensures
