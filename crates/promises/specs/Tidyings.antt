-- Document 02's tidying of a box and adding of a card within the lent deck (2026-12): what is answered, what stands in the deck afterwards, and what the new deck is. The words on the right of an `↔`
-- are in `tidying/specs/Tidied.antt`. Each statement on an entry begins with the promise that its code is proved to keep: the deck `was` became `is`. Assumes nothing.
use Rattle.std.specs.Prelude.{ℕ, ◌+◌, ◌≤◌, ◌<◌, ◌≡◌, ◌↔◌, ◌⊎◌, List, length}
use Rattle.card.specs.Limits.{entry_bytes, word_numbers}
use Rattle.card.specs.Refusals.{malformed_deck, no_live_card, room_too_small, not_added, OfCard}
use Rattle.entry.specs.Said.{Said}
use Rattle.reading.specs.Reading.{refused as turned, read_of}
use Rattle.rows.specs.Said.{Read}
use Rattle.deck.specs.Deck.{Bytes}
use Rattle.deck.specs.Given.{NoLive}
use Rattle.deck.specs.Sound.{Sound, MalformedAt}
use Rattle.room.specs.Answer.{Answer}
use Rattle.room.specs.Answer.{Done, Refused}
use Rattle.answers.specs.declared.OpenPanelAnswer.{OpenPanelAnswer}
use Rattle.tidying.specs.Tidying.{tidy_said, add_said}
use Rattle.tidying.specs.Tidied.{tidy_text, text_with, lent_after, Tidiable, Placeable, Addable, Tidy, NoneLive, NoPlaceAt, TidiedDeck, AddedDeck}
use Rattle.tidy.specs.Tidies.{Tidied}
use Rattle.tablet.specs.LentDeck.{DeckTold}
use Rattle.tidying_edges.specs.TidyingEdges.{TidyingEdges}
use Rattle.entry_promises.specs.ForC.{Answers}

-- ---- tidying

pub record TidiesDeck (was is : List ℕ) (a : Answer) : Type 0 where
  -- 11 at the first wrong field, as for every deck; then 12 at 0, where no card is live
  pub malformed : (place : ℕ) → (a ≡ Refused malformed_deck place) ↔ MalformedAt was place
  pub none_live : (place : ℕ) → (a ≡ Refused no_live_card place) ↔ (Sound was × NoneLive was × (place ≡ 0))
  -- else the new length; the tidied deck stands there, and zero bytes behind it
  pub done : (long : ℕ) → (a ≡ Done long) ↔ (Tidiable was × (long ≡ length (tidy_text was)))
  pub stands : Tidiable was → is ≡ lent_after (tidy_text was) was
  pub no_other : (number place : ℕ) → a ≡ Refused number place → (number ≡ malformed_deck) ⊎ (number ≡ no_live_card)
  -- a refusal touches no byte
  pub unchanged : (number place : ℕ) → a ≡ Refused number place → is ≡ was

-- the name for C
pub record TidyTells (was is : List ℕ) (a : OpenPanelAnswer) : Type 0 where
  -- 0 and the new length
  pub done : (long : ℕ) → Answers a 0 long ↔ (Tidiable was × (long ≡ length (tidy_text was)))
  pub stands : Tidiable was → is ≡ lent_after (tidy_text was) was
  -- 11 and its place, 12 and 0
  pub malformed : (place : ℕ) → Answers a malformed_deck place ↔ MalformedAt was place
  pub none_live : (place : ℕ) → Answers a no_live_card place ↔ (Sound was × NoneLive was × (place ≡ 0))
  pub no_other : (a.number ≡ 0) ⊎ (a.number ≡ malformed_deck) ⊎ (a.number ≡ no_live_card)
  pub unchanged : (a.number ≡ 0 → ⊥) → is ≡ was

-- ---- adding

-- the numbers of its refusals: the deck's, the card's own, 19 and 10
abbrev pub AddRefuses : ℕ → Type 0
AddRefuses r = (r ≡ malformed_deck) ⊎ (r ≡ no_live_card) ⊎ OfCard r ⊎ (r ≡ not_added) ⊎ (r ≡ room_too_small)

-- `new` is the number that the card is to have
pub record AddsCard (new : ℕ) (card was is : List ℕ) (a : Answer) : Type 0 where
  -- 11 and 12 as in tidying, then the card's own refusals
  pub malformed : (place : ℕ) → (a ≡ Refused malformed_deck place) ↔ MalformedAt was place
  pub none_live : (place : ℕ) → (a ≡ Refused no_live_card place) ↔ (Sound was × NoneLive was × (place ≡ 0))
  pub wrong_card : (number place : ℕ) → OfCard number → (a ≡ Refused number place) ↔ (Tidiable was × (read_of card ≡ turned number place))
  -- then 19: a number that is live already, at its entry, or else a 65th live card, at 0
  pub no_place : (place : ℕ) → (a ≡ Refused not_added place) ↔ (Tidiable was × Read card × NoPlaceAt was new place)
  -- then 10, where less is lent than the tidied deck with the card needs, at what it needs
  pub small_room : (place : ℕ) → (a ≡ Refused room_too_small place)
      ↔ (Placeable was new card × (length was < length (text_with was new card)) × (place ≡ length (text_with was new card)))
  -- else the new length; the tidied deck with the card stands there, and zero bytes behind it
  pub done : (long : ℕ) → (a ≡ Done long) ↔ (Addable was new card × (long ≡ length (text_with was new card)))
  pub stands : Addable was new card → is ≡ lent_after (text_with was new card) was
  pub no_other : (number place : ℕ) → a ≡ Refused number place → (1 ≤ number) × AddRefuses number
  -- a refusal touches no byte: the deck is not even tidied
  pub unchanged : (number place : ℕ) → a ≡ Refused number place → is ≡ was

-- the name for C
pub record AddTells (new : ℕ) (card was is : List ℕ) (a : OpenPanelAnswer) : Type 0 where
  -- 0 and the new length
  pub done : (long : ℕ) → Answers a 0 long ↔ (Addable was new card × (long ≡ length (text_with was new card)))
  pub stands : Addable was new card → is ≡ lent_after (text_with was new card) was
  pub malformed : (place : ℕ) → Answers a malformed_deck place ↔ MalformedAt was place
  pub none_live : (place : ℕ) → Answers a no_live_card place ↔ (Sound was × NoneLive was × (place ≡ 0))
  pub wrong_card : (number place : ℕ) → 1 ≤ number → OfCard number → Answers a number place ↔ (Tidiable was × (read_of card ≡ turned number place))
  pub no_place : (place : ℕ) → Answers a not_added place ↔ (Tidiable was × Read card × NoPlaceAt was new place)
  pub small_room : (place : ℕ) → Answers a room_too_small place
      ↔ (Placeable was new card × (length was < length (text_with was new card)) × (place ≡ length (text_with was new card)))
  pub no_other : (a.number ≡ 0) ⊎ AddRefuses a.number
  pub unchanged : (a.number ≡ 0 → ⊥) → is ≡ was

-- ---- all of it

pub record Tidyings : Type 0 where
  pub tidy : (was is : List ℕ) (a : Answer) → Tidied was is (tidy_said was) a → TidiesDeck was is a
  pub tidy_for_c : (was is : List ℕ) (a : OpenPanelAnswer) → DeckTold was is (tidy_said was) a → TidyTells was is a
  pub add : (new : ℕ) (card was is : List ℕ) (a : Answer) → Tidied was is (add_said was new card) a → AddsCard new card was is a
  pub add_for_c : (new : ℕ) (card was is : List ℕ) (a : OpenPanelAnswer) → DeckTold was is (add_said was new card) a → AddTells new card was is a
  -- the tidied deck: sound, without gaps, the live cards and nothing else
  pub tidied : (deck : List ℕ) → Tidiable deck → Bytes deck → TidiedDeck deck
  -- the deck with the card: the live cards and this one at its place
  pub added : (deck : List ℕ) (new : ℕ) (card : List ℕ) → Addable deck new card → new < word_numbers → Bytes deck → AddedDeck deck new card
  -- adding tidies: it is as if the deck had been tidied before, whatever the card and the room; of a number that is live the place alone is another
  pub tidies_first : (deck : List ℕ) (new : ℕ) (card : List ℕ) → Tidiable deck → NoLive deck new → Bytes deck
      → (add_said (lent_after (tidy_text deck) deck) new card ≡ add_said deck new card)
      × (lent_after (text_with deck new card) (lent_after (tidy_text deck) deck) ≡ lent_after (text_with deck new card) deck)
  -- an entry and the card longer
  pub length_with : (deck : List ℕ) (new : ℕ) (card : List ℕ) → length (text_with deck new card) ≡ length (tidy_text deck) + entry_bytes + length card
  -- a tidy deck stays as it is, and so does what was tidied, with its zero bytes
  pub same : (deck is : List ℕ) (a : Answer) → Tidy deck → Bytes deck → Tidied deck is (tidy_said deck) a → (a ≡ Done (length deck)) × (is ≡ deck)
  pub again : (deck is₁ is₂ : List ℕ) (a₁ a₂ : Answer) → Tidiable deck → Bytes deck → Tidied deck is₁ (tidy_said deck) a₁ → Tidied is₁ is₂ (tidy_said is₁) a₂ → (a₂ ≡ a₁) × (is₂ ≡ is₁)
  -- two answers that keep the contract are the same, and so are the decks; for C too
  pub unique : (said : Said (List ℕ)) (was is₁ is₂ : List ℕ) (a₁ a₂ : Answer) → Tidied was is₁ said a₁ → Tidied was is₂ said a₂ → (a₁ ≡ a₂) × (is₁ ≡ is₂)
  pub unique_for_c : (said : Said (List ℕ)) (was is₁ is₂ : List ℕ) (a₁ a₂ : OpenPanelAnswer) → DeckTold was is₁ said a₁ → DeckTold was is₂ said a₂ → (a₁ ≡ a₂) × (is₁ ≡ is₂)
  pub edges : TidyingEdges
