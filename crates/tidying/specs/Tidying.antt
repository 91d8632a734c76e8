-- What tidying a box has to say, and adding a card to it (document 02, 2026-12). All of the lent room is the deck, so what lies behind its last body is a gap like any other.
-- Assumes nothing.
use Rattle.std.specs.Prelude.{ℕ, ◌+◌, Bool, true, List, [], ◌∷◌, leb, ltb, length}
use Rattle.card.specs.Limits.{most_cards, count_bytes, entry_bytes}
use Rattle.card.specs.Refusals.{no_live_card, not_added}
use Rattle.card.specs.Text.{when◌then◌else◌}
use Rattle.entry.specs.Said.{Said, says, refused, ◌>>=◌, ◌>>◌, return, unless}
use Rattle.entry.specs.Contract.{fits}
use Rattle.deck.specs.Contents.{Row, contents_of}
use Rattle.deck.specs.Deck.{Entry, deck_of, deck_text, kept}
use Rattle.deck.specs.Lookup.{is_live}
use Rattle.rows.specs.Said.{card_said}

-- ---- tidying

abbrev pub is_live_entry : Entry → Bool
is_live_entry e = e.live

-- what is kept: the live cards in their order
abbrev pub live_entries : List Entry → List Entry
live_entries es = kept is_live_entry es

-- how both begin: 11 for the deck as lent, then 12 where no card is live
abbrev pub live_said : List ℕ → Said (List Entry)
live_said deck = do
  es ← deck_of deck
  unless (leb 1 (length (live_entries es))) no_live_card 0
  return (live_entries es)

unfoldable pub tidy_said : List ℕ → Said (List ℕ)
tidy_said deck = do
  es ← live_said deck
  return (deck_text es)

-- ---- adding

abbrev pub live_card : (number : ℕ) (card : List ℕ) → Entry
live_card number card = record { number = number; live = true; body = card }

-- at its place by number: behind all lower ones
abbrev pub with_card : Entry → List Entry → List Entry
with_card new [] = new ∷ []
with_card new (e ∷ es) = when ltb e.number new.number then e ∷ with_card new es else new ∷ e ∷ es

-- 19 at the first byte of a live entry with this number; the entries start at `at`
abbrev pub number_free : (number at : ℕ) → List Row → Said (Unit {0})
number_free number at [] = says tt
number_free number at (r ∷ rs) = when is_live number r then refused not_added at else number_free number (at + entry_bytes) rs

-- the live cards and the new one, written without gaps
abbrev pub added_text : (number : ℕ) (card : List ℕ) → List Entry → List ℕ
added_text number card es = deck_text (with_card (live_card number card) es)

-- behind the card's own refusals: 19 for the number, 19 for a 65th live card, then 10
abbrev pub place_said : (deck : List ℕ) (number : ℕ) (card : List ℕ) → List Entry → Said (List ℕ)
place_said deck number card es = do
  number_free number count_bytes (contents_of deck)
  unless (ltb (length es) most_cards) not_added 0
  fits deck (added_text number card es)
  return (added_text number card es)

unfoldable pub add_said : (deck : List ℕ) (number : ℕ) (card : List ℕ) → Said (List ℕ)
add_said deck number card = do
  es ← live_said deck
  card_said card
  place_said deck number card es
