-- Document 02's converting of a box (2026-11): what is answered, which card is named, what stands in the room afterwards, and what the new deck is. The words on the right of an `↔` are in
-- `converting/specs`. Each statement on the entry begins with the promise that its code is proved to keep: the room `was` became `is`. Assumes nothing.
use Rattle.std.specs.Prelude.{ℕ, ◌≤◌, ◌<◌, ◌≡◌, true, false, ◌↔◌, ◌⊎◌, List, ◌∷◌, ◌++◌, map, length}
use Rattle.card.specs.Limits.{deck_bytes}
use Rattle.card.specs.Refusals.{malformed_deck, room_too_small, decimal_weight, not_converted}
use Rattle.card.specs.Card.{Card}
use Rattle.card.specs.Valid.{Every}
use Rattle.entry.specs.Said.{says, refused}
use Rattle.entry.specs.Contract.{InRoom, onto}
use Rattle.deck.specs.Deck.{Entry, deck_of, held_by, deck_text, Bytes}
use Rattle.deck.specs.Sound.{Sound, MalformedAt}
use Rattle.marks_on_a_card.specs.Marks.{decimal, Placed, placed, marks_of}
use Rattle.grammar.specs.Verdicts.{In}
use Rattle.deck_written.specs.Fine.{NoGaps}
use Rattle.room.specs.Answer.{Answer}
use Rattle.room.specs.Answer.{Refused}
use Rattle.room.specs.Answer.{told, Entered}
use Rattle.reading.specs.Reading.{taken, refused as turned, read_under, read_of}
use Rattle.answers.specs.declared.OpenPanelAnswer.{OpenPanelAnswer}
use Rattle.told.specs.Told.{Told}
use Rattle.texts.specs.Writing.{write_of}
use Rattle.converting.specs.Converting.{old_rule, new_rule, body_by, entries_said, convert_said}
use Rattle.converting.specs.Converts.{NewBody, StandsIn, Convertible, StopsIn, NewLive, AllNew, SameCard}
use Rattle.edges.specs.Edges.{DecimalEdges}
use Rattle.converting_edges.specs.ConvertingEdges.{ConvertingEdges}
use Rattle.entry_promises.specs.Entries.{RoomEnough}
use Rattle.entry_promises.specs.ForC.{Answers}

-- ---- decimals among a card's marks (a comment is none of them)

-- no mark is one
abbrev pub NoDecimal : List Placed → Type 0
NoDecimal ms = (v n f p : ℕ) → In (placed (decimal v n f) p) ms → ⊥

-- the first that is one stands at p
pub record FirstDecimal (ms : List Placed) (p : ℕ) : Type 0 where
  pub before : List Placed
  pub v : ℕ
  pub n : ℕ
  pub f : ℕ
  pub after : List Placed
  pub split : ms ≡ before ++ (placed (decimal v n f) p ∷ after)
  pub earlier : NoDecimal before

-- ---- the answer

pub record ConvertsDeck (deck was is : List ℕ) (a : Answer) : Type 0 where
  -- 11 at the first wrong field, as for every deck
  pub malformed : (place : ℕ) → (a ≡ Refused malformed_deck place) ↔ MalformedAt deck place
  -- 18 at the number of the first card that cannot be converted
  pub named : (number : ℕ) → (a ≡ Refused not_converted number) ↔ StopsIn deck number
  -- 10 behind both; else the new deck, and no refusal touches the room
  pub in_room : InRoom told (Convertible deck) (λ c. deck_text c.new) was is a
  pub no_other : (number place : ℕ) → a ≡ Refused number place → (number ≡ malformed_deck) ⊎ (number ≡ not_converted) ⊎ (number ≡ room_too_small)

-- the name for C
pub record ConvertTells (deck was is : List ℕ) (a : OpenPanelAnswer) : Type 0 where
  -- 0 and the length
  pub done : (long : ℕ) → Answers a 0 long ↔ ((c : Convertible deck) × (length (deck_text c.new) ≤ length was) × (long ≡ length (deck_text c.new)))
  pub stands : (c : Convertible deck) → length (deck_text c.new) ≤ length was → is ≡ onto (deck_text c.new) was
  -- 11 and its place, 18 and the card's number, 10 and the length needed
  pub malformed : (place : ℕ) → Answers a malformed_deck place ↔ MalformedAt deck place
  pub named : (number : ℕ) → Answers a not_converted number ↔ StopsIn deck number
  pub small_room : (place : ℕ) → Answers a room_too_small place
      ↔ ((c : Convertible deck) × (length was < length (deck_text c.new)) × (place ≡ length (deck_text c.new)))
  pub no_other : (a.number ≡ 0) ⊎ (a.number ≡ malformed_deck) ⊎ (a.number ≡ not_converted) ⊎ (a.number ≡ room_too_small)
  pub untouched : (a.number ≡ 0 → ⊥) → is ≡ was

-- ---- the deck

pub record DeckConverted (deck : List ℕ) (c : Convertible deck) : Type 0 where
  -- numbers, flags and order stay
  pub numbers : map (λ (e : Entry). e.number) c.new ≡ map (λ (e : Entry). e.number) (held_by deck)
  pub flags : map (λ (e : Entry). e.live) c.new ≡ map (λ (e : Entry). e.live) (held_by deck)
  -- each entry stands where it stood, with its own new bytes
  pub each : (before after : List Entry) (e : Entry) → held_by deck ≡ before ++ (e ∷ after) → StandsIn e before c.new
  -- it is sound, has these entries and no gaps, and the new rule takes every live card of it
  pub sound : Sound (deck_text c.new)
  pub back : deck_of (deck_text c.new) ≡ says c.new
  pub no_gaps : NoGaps (deck_text c.new)
  pub all_new : AllNew (held_by (deck_text c.new))
  pub short : length (deck_text c.new) ≤ deck_bytes
  -- so converting it again changes nothing
  pub again : convert_said (deck_text c.new) ≡ says (deck_text c.new)

pub record Conversions : Type 0 where
  pub convert : (deck was is : List ℕ) (a : Answer) → Entered was is (convert_said deck) a → ConvertsDeck deck was is a
  pub convert_for_c : (deck was is : List ℕ) (a : OpenPanelAnswer) → Told was is (convert_said deck) a → ConvertTells deck was is a
  -- the new rule is the one by which every other entry reads
  pub today : (s : List ℕ) → read_under new_rule s ≡ read_of s
  -- the old rule takes decimals
  pub before : old_rule ≡ true
  -- the new rule takes what the old one takes, as the same card, exactly if no mark of it is a decimal
  pub no_decimal : (s : List ℕ) (c : Card) → (read_under new_rule s ≡ taken c) ↔ ((read_under old_rule s ≡ taken c) × NoDecimal (marks_of s))
  -- else it refuses it with 17, at its first decimal
  pub first_decimal : (s : List ℕ) (c : Card) → read_under old_rule s ≡ taken c → (p : ℕ) → (read_under new_rule s ≡ turned decimal_weight p) ↔ FirstDecimal (marks_of s) p
  -- what only the old rule takes is refused for a decimal weight and nothing else
  pub decimal_only : (s : List ℕ) (c : Card) (r p : ℕ) → read_under old_rule s ≡ taken c → read_under new_rule s ≡ turned r p → r ≡ decimal_weight
  -- each live card reads under the new rule as it read under the old one; what the new rule takes stays byte for byte
  pub same_card : (e : Entry) (body : List ℕ) → NewBody e body → SameCard e body
  pub unchanged : (e : Entry) (body : List ℕ) → NewLive e → NewBody e body → body ≡ e.body
  -- so what has no decimal stays as it is, and of a live card that has some only the written form is left
  pub copied : (e : Entry) (body : List ℕ) → NoDecimal (marks_of e.body) → NewBody e body → body ≡ e.body
  pub rewritten : (e : Entry) (body : List ℕ) (p : ℕ) → e.live ≡ true → FirstDecimal (marks_of e.body) p → NewBody e body
      → (c : Card) × (read_under old_rule e.body ≡ taken c) × (body ≡ write_of c)
  pub new_deck : (deck : List ℕ) (c : Convertible deck) → Bytes deck → DeckConverted deck c
  -- one walk: what stands behind the first card that cannot be converted is not looked at
  pub rest_unread : (at : ℕ) (es fs : List Entry) (r number : ℕ) → entries_said at es ≡ refused r number → entries_said at (es ++ fs) ≡ refused r number
  -- a written form of 16,384 bytes, and one of 16,385
  pub longest : (number : ℕ) (card : List ℕ) (c : Card) (r p : ℕ) → length (write_of c) ≡ 16384 → body_by true number card (taken c) (turned r p) ≡ says (write_of c)
  pub too_long_holds : (number : ℕ) (card : List ℕ) (c : Card) (r p : ℕ) → length (write_of c) ≡ 16385 → body_by true number card (taken c) (turned r p) ≡ refused not_converted number
  -- of a sound deck whose live cards the new rule takes only the gaps go, so of one without live cards
  pub only_gaps_go : (deck : List ℕ) → Sound deck → Bytes deck → AllNew (held_by deck) → convert_said deck ≡ says (deck_text (held_by deck))
  pub no_live_card_holds : (deck : List ℕ) → Sound deck → Bytes deck → Every (λ (e : Entry). e.live ≡ false) (held_by deck) → convert_said deck ≡ says (deck_text (held_by deck))
  -- a room of a deck's most bytes is always enough
  pub room_enough : (deck : List ℕ) → Bytes deck → RoomEnough deck_bytes (convert_said deck)
  -- two answers that keep the contract are the same, and so are the rooms
  pub unique : (deck was is₁ is₂ : List ℕ) (a₁ a₂ : Answer) → Entered was is₁ (convert_said deck) a₁ → Entered was is₂ (convert_said deck) a₂ → (a₁ ≡ a₂) × (is₁ ≡ is₂)
  pub edges : ConvertingEdges
  -- it takes no decimal: the edges of reading
  pub reading_edges : DecimalEdges
