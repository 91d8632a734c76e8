-- `tablet::open_panel_box_judge` meets its contract: the deck's verdict, in numbers. Assumes nothing.
use mathlib.Core.Path.{ap, ◌∙◌}
use Rattle.answers.specs.Numbered.{verdict_numbers}
use Rattle.tablet.proofs.open_panel_box_judge.Goals as goal

pub returns : goal.returns
returns c = c.from.ensures ∙ ap verdict_numbers c.judge_deck.ensures
