-- `tablet::open_panel_first_move` meets its contract: the answer, in numbers. Assumes nothing.
use mathlib.Core.Path.{ap, ◌∙◌}
use Rattle.tablet.specs.Moves.{move_numbers}
use Rattle.tablet.proofs.open_panel_first_move.Goals as goal

pub returns : goal.returns
returns c = c.move_in_numbers.ensures ∙ ap move_numbers c.first_move-answer.ensures
