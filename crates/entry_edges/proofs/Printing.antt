-- Each by computing. Assumes nothing.
use mathlib.Core.Path.{refl}
use Rattle.card.specs.Weight.{units_of}
use Rattle.reading.specs.Reading.{read_under}
use Rattle.room.specs.Digits.{decimal}
use Rattle.meaning.specs.Panel.{panel}
use Rattle.meaning.specs.CardA.{card_a}
use Rattle.panel_wording.specs.PanelText.{panel_of}
use Rattle.seating.specs.Judged.{judged_seats, judged_by}
use Rattle.panel_said.specs.PanelSaid.{panel_said}
use Rattle.panel_said.specs.Program.{program_of, answer_to, seats_line, card_behind}
use Rattle.entry_edges.specs.Printing.{Printing}

pub printing : Printing
unfolding program_of answer_to seats_line card_behind panel_said judged_seats judged_by read_under panel_of panel card_a decimal units_of
printing = record { card_a_holds = refl; no_card = refl }
