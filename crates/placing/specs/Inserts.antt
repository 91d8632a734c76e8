-- When a card can be put into a tidy deck: written without gaps from live cards, with room behind it. Assumes nothing.
use Rattle.std.specs.Prelude.{ℕ, suc, ◌+◌, ◌≤◌, ◌<◌, ◌≡◌, true, List, ◌++◌, length, drop}
use Rattle.card.specs.Limits.{deck_bytes, most_cards, word_numbers}
use Rattle.card.specs.Valid.{Every}
use Rattle.deck.specs.Contents.{behind}
use Rattle.gathering.specs.declared.Live.{Live}
use Rattle.deck.specs.Deck.{Entry, held_by, bodies, deck_text}

pub record Insertable (deck : List ℕ) (known : Live) (number : ℕ) (card : List ℕ) : Type 0 where
  pub text : deck ≡ deck_text (held_by deck) ++ drop (length (deck_text (held_by deck))) deck
  pub live : Every (λ (e : Entry). e.live ≡ true) (held_by deck)
  pub count : known.cards ≡ length (held_by deck)
  pub total : known.bytes ≡ length (bodies (held_by deck))
  pub word : number < word_numbers
  pub few : known.cards < most_cards
  pub room : behind (suc known.cards) + known.bytes + length card ≤ length deck
  pub short : length deck ≤ deck_bytes
