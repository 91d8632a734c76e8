-- `tablet::open_panel_mend` meets its contract: what the entry promises, in numbers. Assumes nothing.
use Rattle.mended_told.proofs.Telling.{mend_told}
use Rattle.tablet.proofs.open_panel_mend.Goals as goal

pub returns : goal.returns
returns c =
    mend_told c.args.deck.now c.mend-mended.ensures c.tell_mended.ensures
