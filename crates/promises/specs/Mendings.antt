-- Document 02's mending of a box (2026-09): which entries are kept, what is answered, what stands in both rooms afterwards, and what the new deck is. The words on the
-- right of an `↔` are in `mending/specs`. Each statement on the entry begins with the promise that its code is proved to keep: the rooms `was` became `is`. Assumes nothing.
use Rattle.std.specs.Prelude.{ℕ, ◌≤◌, ◌<◌, ◌≡◌, ◌↔◌, ◌⊎◌, List, map, length, set}
use Rattle.card.specs.Limits.{deck_bytes}
use Rattle.card.specs.Refusals.{malformed_deck, room_too_small}
use Rattle.entry.specs.Said.{says}
use Rattle.entry.specs.Contract.{onto, Two, two}
use Rattle.deck.specs.Contents.{Row, count_of, behind, contents_of}
use Rattle.deck.specs.Deck.{deck_of, held_by, deck_text, Bytes}
use Rattle.mending.specs.Mending.{Fate, kept, fates_in, kept_in, list_text, mended, mend_said, list_room}
use Rattle.mending.specs.Accepted.{Good, Whole, Mendable}
use Rattle.mending.specs.Rules.{ByRules}
use Rattle.mended_rooms.specs.Mends.{Mended}
use Rattle.mended_rooms.specs.Mends.{Done, Refused}
use Rattle.mended_rooms.specs.Mends.{Mends}
use Rattle.mended_told.specs.LentRooms.{LentRooms, lent, RoomsTold}
use Rattle.mending_edges.specs.MendingEdges.{MendingEdges}
use Rattle.answers.specs.declared.OpenPanelAnswer.{OpenPanelAnswer}
use Rattle.entry_promises.specs.ForC.{Answers}

-- the deck can be mended, and both texts fit
abbrev pub Fits : (deck : List ℕ) (was : Two (List ℕ)) → Type 0
Fits deck was = Mendable deck × (length (mended deck).first ≤ length was.first) × (length (mended deck).second ≤ length was.second)

-- where a room is too small: the deck's, or, if that is not, the list's; at the length needed
abbrev pub TooSmall : (deck : List ℕ) (was : Two (List ℕ)) (place : ℕ) → Type 0
TooSmall deck was place =
    (m : Mendable deck) × (((length was.first < length (mended deck).first) × (place ≡ length (mended deck).first))
    ⊎ ((length (mended deck).first ≤ length was.first) × (length was.second < length (mended deck).second) × (place ≡ length (mended deck).second)))

-- both texts stand at the start of their rooms, and the bytes past them are as they were
abbrev pub both_in : (deck : List ℕ) (was : Two (List ℕ)) → Two (List ℕ)
both_in deck was = two (onto (mended deck).first was.first) (onto (mended deck).second was.second)

-- ---- the answer

pub record MendsDeck (deck : List ℕ) (was is : Two (List ℕ)) (a : Mended) : Type 0 where
  -- 11, always at 0: the head is wrong, or there is nothing to keep
  pub malformed : (place : ℕ) → (a ≡ Refused malformed_deck place) ↔ ((place ≡ 0) × (Mendable deck → ⊥))
  -- 10 comes behind it, for the deck first
  pub small_room : (place : ℕ) → (a ≡ Refused room_too_small place) ↔ TooSmall deck was place
  -- else both are there, with their lengths
  pub done : (d l : ℕ) → (a ≡ Done d l) ↔ (Fits deck was × (d ≡ length (mended deck).first) × (l ≡ length (mended deck).second))
  pub stands : Fits deck was → is ≡ both_in deck was
  pub no_other : (number place : ℕ) → a ≡ Refused number place → (number ≡ malformed_deck) ⊎ (number ≡ room_too_small)
  -- a refusal writes nothing, in neither room
  pub untouched : (number place : ℕ) → a ≡ Refused number place → is ≡ was

-- the name for C: what it was lent and what became of it, with the list's length
pub record MendTells (deck : List ℕ) (was is : LentRooms) (a : OpenPanelAnswer) : Type 0 where
  -- 0 and the deck's length
  pub done : (d : ℕ) → Answers a 0 d ↔ (Fits deck was.rooms × (d ≡ length (mended deck).first))
  pub stands : Fits deck was.rooms → is ≡ lent (both_in deck was.rooms) (set was.length 0 (length (mended deck).second))
  pub malformed : (place : ℕ) → Answers a malformed_deck place ↔ ((place ≡ 0) × (Mendable deck → ⊥))
  pub small_room : (place : ℕ) → Answers a room_too_small place ↔ TooSmall deck was.rooms place
  pub no_other : (a.number ≡ 0) ⊎ (a.number ≡ malformed_deck) ⊎ (a.number ≡ room_too_small)
  -- nor does a refusal touch the list's length
  pub untouched : (a.number ≡ 0 → ⊥) → is ≡ was

-- ---- the deck

-- a line `kept` for each entry
abbrev pub kept_lines : List ℕ → List ℕ
kept_lines deck = list_text (map (λ (r : Row). kept) (contents_of deck))

pub record DeckMended (deck : List ℕ) : Type 0 where
  -- it is no longer, and has the entries kept and nothing else
  pub no_longer : length (deck_text (kept_in deck)) ≤ length deck
  pub back : deck_of (deck_text (kept_in deck)) ≡ says (kept_in deck)
  -- it is whole, and so mending it again changes nothing
  pub whole : Whole (deck_text (kept_in deck))
  pub again : mend_said (deck_text (kept_in deck)) ≡ says (two (deck_text (kept_in deck)) (kept_lines (deck_text (kept_in deck))))

pub record Mendings : Type 0 where
  -- one fate for each entry, in the order of the contents: exactly those by the four rules
  pub fates : (deck : List ℕ) (fs : List Fate) → (fates_in deck ≡ fs) ↔ ByRules deck 0 (behind (count_of deck)) (contents_of deck) fs
  pub mend : (deck : List ℕ) (was is : Two (List ℕ)) (a : Mended) → Mends was is deck a → MendsDeck deck was is a
  pub mend_for_c : (deck : List ℕ) (was is : LentRooms) (a : OpenPanelAnswer) → RoomsTold was is (mend_said deck) a → MendTells deck was is a
  -- of a sound deck whose live cards are taken nothing is dropped; a whole one is its own mending
  pub all_there : (deck : List ℕ) → Good deck → mend_said deck ≡ says (two (deck_text (held_by deck)) (kept_lines deck))
  pub same : (deck : List ℕ) → Whole deck → Bytes deck → mend_said deck ≡ says (two deck (kept_lines deck))
  pub new_deck : (deck : List ℕ) → Mendable deck → Bytes deck → DeckMended deck
  -- two answers that keep the contract are the same, and so are the rooms; for C too
  pub unique : (deck : List ℕ) (was is₁ is₂ : Two (List ℕ)) (a₁ a₂ : Mended) → Mends was is₁ deck a₁ → Mends was is₂ deck a₂ → (a₁ ≡ a₂) × (is₁ ≡ is₂)
  pub unique_for_c : (deck : List ℕ) (was is₁ is₂ : LentRooms) (a₁ a₂ : OpenPanelAnswer) → RoomsTold was is₁ (mend_said deck) a₁ → RoomsTold was is₂ (mend_said deck) a₂
      → (a₁ ≡ a₂) × (is₁ ≡ is₂)
  -- rooms that both texts always fit into, for every caller: a deck's most bytes, and ten bytes for each entry that a deck may have
  pub rooms_enough : (deck : List ℕ) → Mendable deck → Bytes deck → (length (mended deck).first ≤ deck_bytes) × (length (mended deck).second ≤ list_room)
  pub edges : MendingEdges
