-- `tablet::open_panel_box_find_with` meets its contract: where the card stands, in numbers. Assumes nothing.
use Rattle.tablet.proofs.Laws.{part_told}
use Rattle.tablet.proofs.open_panel_box_find_with.Goals as goal

pub returns : goal.returns
returns c = part_told c.locate_with-place.ensures c.tell_part.ensures
