-- What writing has to say of any bytes: the refusal of the card, or its written form ("Refusal numbers"). Assumes nothing.
use Rattle.std.specs.Prelude.{ℕ, List}
use Rattle.card.specs.Card.{Card}
use Rattle.entry.specs.Said.{◌>>=◌, return}
use Rattle.room.specs.Answer.{Text}
use Rattle.rows.specs.Said.{card_said}
use Rattle.texts.specs.Writing.{write_of}

-- of a card that is taken
abbrev pub write_card : Card → Text
write_card c = return (write_of c)

unfoldable pub write_said : List ℕ → Text
write_said card = do
  c ← card_said card
  write_card c
