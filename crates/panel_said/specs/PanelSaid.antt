-- What the panel entry has to say of any bytes and any seats: the card's refusal, the seats' refusal, or the panel's text ("Refusal
-- numbers"). Assumes nothing.
use Rattle.std.specs.Prelude.{ℕ, List}
use Rattle.card.specs.Card.{Card}
use Rattle.entry.specs.Said.{◌>>=◌, ◌>>◌, return}
use Rattle.room.specs.Answer.{Text}
use Rattle.seating.specs.Judged.{seating_of}
use Rattle.seating.specs.SeatsSaid.{seats_said}
use Rattle.rows.specs.Said.{card_said}
use Rattle.panel_wording.specs.PanelText.{panel_of}

-- of a card that is taken
abbrev pub shown_said : List ℕ → Card → Text
shown_said seats c = do
  seats_said seats c
  return (panel_of c (seating_of c seats))

unfoldable pub panel_said : List ℕ → List ℕ → Text
panel_said card seats = do
  c ← card_said card
  shown_said seats c
