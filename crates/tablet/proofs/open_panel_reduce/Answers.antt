-- `tablet::open_panel_reduce` meets its contract: the entry's answer, in numbers. Assumes nothing.
use Rattle.tablet.proofs.Laws.{told}
use Rattle.tablet.proofs.open_panel_reduce.Goals as goal

pub returns : goal.returns
returns c = told c.reduce.ensures c.from.ensures
