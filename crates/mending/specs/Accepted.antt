-- Which decks can be mended, and which mending is to leave as they are (document 02, 2026-09). Nothing here is computed. Assumes nothing.
use Rattle.std.specs.Prelude.{ℕ, ◌<◌, ◌≤◌, ◌≡◌, List, length}
use Rattle.card.specs.Card.{Card}
use Rattle.deck.specs.Contents.{count_of}
use Rattle.deck.specs.Deck.{body_of}
use Rattle.deck.specs.Sound.{entry_at, Head, Sound}
use Rattle.deck_written.specs.Fine.{NoGaps}
use Rattle.reading.specs.Reading.{taken, read_of}
use Rattle.mending.specs.Mending.{kept_in}

-- the card of every live entry is accepted
abbrev pub Accepted : List ℕ → Type 0
Accepted deck = (i : ℕ) → i < count_of deck → (entry_at deck i).flag ≡ 1 → (c : Card) × (read_of (body_of deck (entry_at deck i)) ≡ taken c)

-- a sound deck whose live cards are all taken; whole, if there is nothing between its bodies either
pub record Good (deck : List ℕ) : Type 0 where
  pub sound : Sound deck
  pub accepted : Accepted deck

pub record Whole (deck : List ℕ) : Type 0 where
  pub good : Good deck
  pub no_gaps : NoGaps deck

-- a deck that can be mended: count, contents and length are right, and something is kept
pub record Mendable (deck : List ℕ) : Type 0 where
  pub head : Head deck
  pub some : 1 ≤ length (kept_in deck)
