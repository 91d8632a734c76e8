-- `tablet::open_panel_ask` meets its contract: the answer, in numbers. Assumes nothing.
use mathlib.Core.Path.{ap, ◌∙◌}
use Rattle.tablet.specs.AskedTold.{asked_numbers}
use Rattle.tablet.proofs.open_panel_ask.Goals as goal

pub returns : goal.returns
returns c = c.asked_in_numbers.ensures ∙ ap asked_numbers c.ask-asked.ensures
