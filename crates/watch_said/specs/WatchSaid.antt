-- What a spectator's entry has to say of any card, seats and list: the card's refusal, the seats', the list's, or the line of class counts
-- (document 02, 2026-05). Assumes nothing.
use Rattle.std.specs.Prelude.{ℕ, List}
use Rattle.card.specs.Card.{Card}
use Rattle.entry.specs.Said.{◌>>=◌, ◌>>◌, return}
use Rattle.room.specs.Answer.{Text}
use Rattle.seating.specs.Judged.{seating_of}
use Rattle.seating.specs.SeatsSaid.{seats_said}
use Rattle.rows.specs.Said.{card_said}
use Rattle.classes.specs.Classes.{watch_of}
use Rattle.classes.specs.ClassesSaid.{classes_said}

-- of seats that are a seating
abbrev pub watch_seated : List ℕ → List ℕ → Card → Text
watch_seated seats list c = do
  classes_said list c
  return (watch_of list (seating_of c seats))

-- of a card that is taken
abbrev pub watch_card : List ℕ → List ℕ → Card → Text
watch_card seats list c = do
  seats_said seats c
  watch_seated seats list c

unfoldable pub watch_said : (card seats list : List ℕ) → Text
watch_said card seats list = do
  c ← card_said card
  watch_card seats list c
