-- `tablet::open_panel_show` meets its contract: the entry's answer, in numbers. Assumes nothing.
use Rattle.tablet.proofs.Laws.{told}
use Rattle.tablet.proofs.open_panel_show.Goals as goal

pub returns : goal.returns
returns c = told c.panel.ensures c.from.ensures
