-- `boxes::locate_with` meets its contract: the base is judged, then the expansion; the expansion is sought first. Assumes nothing.
use Rattle.std.proofs.Common.{rules}
use Rattle.boxes.proofs.Lookup.{place_small}
use Rattle.boxes.proofs.locate_with.Goals as goal

pub overflow_add-result : goal.overflow_add-result
overflow_add-result c = search (rules, place_small, c.in-Err.ensures)
