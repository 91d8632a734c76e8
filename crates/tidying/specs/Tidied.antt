-- When a deck can be tidied and a card added to it, why not otherwise, and what is so of the deck afterwards (document 02, 2026-12). Of this only the new texts and the lent room as it is
-- left are computed. Assumes nothing.
use Rattle.std.specs.Prelude.{ℕ, ◌+◌, ◌*◌, ◌≤◌, ◌<◌, ◌≡◌, true, List, ◌∷◌, ◌++◌, map, length, drop}
use Rattle.card.specs.Limits.{most_cards, count_bytes, entry_bytes}
use Rattle.card.specs.Valid.{Every}
use Rattle.entry.specs.Said.{says}
use Rattle.deck.specs.Contents.{byte}
use Rattle.deck.specs.Deck.{Entry, held_by, deck_of, deck_text}
use Rattle.deck.specs.Given.{LiveAt, NoLive}
use Rattle.deck.specs.Lookup.{find}
use Rattle.deck.specs.Sound.{Sound}
use Rattle.deck_written.specs.Fine.{NoGaps}
use Rattle.rows.specs.Said.{Read}
use Rattle.tidying.specs.Tidying.{live_entries, live_card, with_card, added_text, tidy_said}

-- the live cards of a deck, in their order
abbrev pub live_cards : List ℕ → List Entry
live_cards deck = live_entries (held_by deck)

-- the deck tidied, and with a card
abbrev pub tidy_text : List ℕ → List ℕ
tidy_text deck = deck_text (live_cards deck)

abbrev pub text_with : (deck : List ℕ) (number : ℕ) (card : List ℕ) → List ℕ
text_with deck number card = added_text number card (live_cards deck)

-- the lent room afterwards: the new deck, and zero bytes behind it
abbrev pub zeroed : List ℕ → List ℕ
zeroed t = map (λ (b : ℕ). 0) t

abbrev pub lent_after : (new was : List ℕ) → List ℕ
lent_after new was = new ++ zeroed (drop (length new) was)

-- ---- when

-- a sound deck with a live card
pub record Tidiable (deck : List ℕ) : Type 0 where
  pub sound : Sound deck
  pub some : 1 ≤ length (live_cards deck)

-- and an accepted card whose number is not live; one live card more is not too many
pub record Placeable (deck : List ℕ) (number : ℕ) (card : List ℕ) : Type 0 where
  pub tidiable : Tidiable deck
  pub read : Read card
  pub free : NoLive deck number
  pub few : length (live_cards deck) < most_cards

-- and there is room for it
pub record Addable (deck : List ℕ) (number : ℕ) (card : List ℕ) : Type 0 where
  pub placeable : Placeable deck number card
  pub room : length (text_with deck number card) ≤ length deck

-- a deck that is tidy already
pub record Tidy (deck : List ℕ) : Type 0 where
  pub sound : Sound deck
  pub no_gaps : NoGaps deck
  pub live : Every (λ (e : Entry). e.live ≡ true) (held_by deck)

-- ---- why not

-- 12: no card is live
abbrev pub NoneLive : List ℕ → Type 0
NoneLive deck = (number : ℕ) → NoLive deck number

-- 19: the number is live already, at its entry's first byte, or else the card would be a 65th live one, at 0
pub data NoPlaceAt (deck : List ℕ) (number : ℕ) : ℕ → Type 0 where
  live_already : (i : ℕ) → LiveAt deck number i → NoPlaceAt deck number (count_bytes + entry_bytes * i)
  too_many : NoLive deck number → most_cards ≤ length (live_cards deck) → NoPlaceAt deck number 0

-- ---- what is so afterwards

-- `new` is a deck of these entries without gaps, all live, and so it is in the room that was lent, which is as long as before
pub record NewDeck (was new : List ℕ) (es : List Entry) : Type 0 where
  pub live : Every (λ (e : Entry). e.live ≡ true) es
  pub short : length new ≤ length was
  pub sound : Sound new
  pub no_gaps : NoGaps new
  pub holds : deck_of new ≡ says es
  pub room_long : length (lent_after new was) ≡ length was
  pub room_zero : (i : ℕ) → length new ≤ i → byte (lent_after new was) i ≡ 0
  pub room_sound : Sound (lent_after new was)
  pub room_holds : deck_of (lent_after new was) ≡ says es
  -- tidying it again changes nothing
  pub again : tidy_said new ≡ says new
  pub room_again : tidy_said (lent_after new was) ≡ says new
  pub room_same : lent_after new (lent_after new was) ≡ lent_after new was

-- the live cards as they were, and every number gives what it gave
pub record TidiedDeck (deck : List ℕ) : Type 0 where
  pub new : NewDeck deck (tidy_text deck) (live_cards deck)
  pub finds : (number : ℕ) → find (lent_after (tidy_text deck) deck) number ≡ find deck number

-- a card among others: the lower numbers before it and the higher ones behind it are all the others, in their order
pub record AtItsPlace (new : Entry) (others all : List Entry) : Type 0 where
  pub before : List Entry
  pub behind : List Entry
  pub were : others ≡ before ++ behind
  pub are : all ≡ before ++ (new ∷ behind)
  pub lower : Every (λ (e : Entry). e.number < new.number) before
  pub higher : Every (λ (e : Entry). new.number < e.number) behind

-- the new number gives the card, and every other one what it gave
pub record AddedDeck (deck : List ℕ) (number : ℕ) (card : List ℕ) : Type 0 where
  pub new : NewDeck deck (text_with deck number card) (with_card (live_card number card) (live_cards deck))
  pub placed : AtItsPlace (live_card number card) (live_cards deck) (with_card (live_card number card) (live_cards deck))
  pub finds : find (lent_after (text_with deck number card) deck) number ≡ says card
  pub others : (other : ℕ) → (other ≡ number → ⊥) → find (lent_after (text_with deck number card) deck) other ≡ find deck other
