-- What reducing has to say of any bytes: the refusal of the card, or its reduced text ("Refusal numbers"). Assumes nothing.
use Rattle.std.specs.Prelude.{ℕ, List}
use Rattle.card.specs.Card.{Card}
use Rattle.entry.specs.Said.{◌>>=◌, return}
use Rattle.room.specs.Answer.{Text}
use Rattle.rows.specs.Said.{card_said}
use Rattle.texts.specs.ReducedText.{reduced_of}

-- of a card that is taken
abbrev pub reduce_card : Card → Text
reduce_card c = return (reduced_of c)

unfoldable pub reduce_said : List ℕ → Text
reduce_said card = do
  c ← card_said card
  reduce_card c
