-- The first stage of an entry that takes a card as bytes: the card's refusal, or the card ("Refusal numbers"). Assumes nothing.
use Rattle.std.specs.Prelude.{ℕ, ◌≡◌, List, ◌∷◌}
use Rattle.card.specs.Refusals.{wrong_weight, decimal_weight}
use Rattle.card.specs.Card.{Card}
use Rattle.reading.specs.Reading.{Outcome, taken, refused as turned, read_of}
use Rattle.entry.specs.Said.{Said, says, refused}
use Rattle.entry.specs.Numbers.{Numbers, ◌to◌, only}

abbrev pub outcome_said : Outcome → Said Card
outcome_said (taken c) = says c
outcome_said (turned number place) = refused number place

abbrev pub card_said : List ℕ → Said Card
card_said card = outcome_said (read_of card)

-- its numbers
abbrev pub card_numbers : Numbers
card_numbers = (0 to wrong_weight) ∷ only decimal_weight

-- a card that is taken
abbrev pub Read : List ℕ → Type 0
Read card = (c : Card) × (read_of card ≡ taken c)
