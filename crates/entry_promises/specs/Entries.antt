-- Demand 1: what each entry answers for a card and a room, and what stands in the room afterwards ("Refusal numbers"). Each statement begins
-- with the promise that the entry's code is proved to keep: the room `was` became `is`, and `a` is its answer. Assumes nothing.
use Rattle.std.specs.Prelude.{ℕ, ◌≤◌, ◌<◌, ◌≡◌, ◌↔◌, ◌⊎◌, List, [], ◌∷◌, ◌++◌, map, length, take, drop, Ok}
use Rattle.card.specs.Text.{bytes}
use Rattle.card.specs.Refusals.{wrong_seats, seat_above_top, room_too_small, OfCard, decimal_weight}
use Rattle.card.specs.Card.{Card}
use Rattle.card.specs.Valid.{Every, ValidCard}
use Rattle.reading.specs.Reading.{Outcome, taken, refused, read_of}
use Rattle.card.specs.Lent.{Lent, head_of, lent_of, none_lent}
use Rattle.card.specs.Verdict.{verdict_in, verdict_number, verdict_place}
use Rattle.outline.specs.ReadingOf.{Reading, Outline, reading_of, Reads, ReadsInto}
use Rattle.room.specs.Answer.{Answer}
use Rattle.room.specs.Answer.{Done, Refused}
use Rattle.room.specs.Digits.{digit, decimal}
use Rattle.entry.specs.Said.{refused as refusal}
use Rattle.room.specs.Answer.{Text, answer_number, answer_value, Entered}
use Rattle.meaning.specs.Seats.{Seating, ValidSeating}
use Rattle.seating.specs.Judged.{seats_due, FirstWrong, seating_of, Seated}
use Rattle.texts.specs.Writing.{write_of}
use Rattle.texts.specs.Lengths.{written_room}
use Rattle.texts_said.specs.WriteSaid.{write_said}
use Rattle.texts.specs.ReducedText.{reduced_of}
use Rattle.texts.specs.Lengths.{reduced_room}
use Rattle.texts_said.specs.ReduceSaid.{reduce_said}
use Rattle.panel_wording.specs.PanelText.{panel_of}
use Rattle.panel_said.specs.PanelSaid.{panel_said}
use Rattle.panel_wording.specs.PanelRoom.{panel_room}
use Rattle.panel_said.specs.Program.{input_bytes, line_end, seats_line, card_behind, no_state, seat_of, program_of, Printed}

-- an answer in document 01's numbers: a refusal's number and place, and 0 with the length
pub record InNumbers (a : Answer) : Type 0 where
  pub refusal : (number place : ℕ) → a ≡ Refused number place → (answer_number a ≡ number) × (answer_value a ≡ place)
  pub length_told : (long : ℕ) → a ≡ Done long → (answer_number a ≡ 0) × (answer_value a ≡ long)

-- what reading has found, in the same numbers; 0 for a card that is taken
abbrev pub outcome_number : Outcome → ℕ
outcome_number (taken c) = 0
outcome_number (refused number place) = number

abbrev pub outcome_place : Outcome → ℕ
outcome_place (taken c) = 0
outcome_place (refused number place) = place

-- an entry that prints the text f of its card
pub record Prints (f : Card → List ℕ) (card was is : List ℕ) (a : Answer) : Type 0 where
  -- 1 to 7 and 17 are the card's
  pub wrong_card : (number place : ℕ) → OfCard number → (a ≡ Refused number place) ↔ (read_of card ≡ refused number place)
  -- 10 comes last, and its place is the length needed
  pub small_room : (place : ℕ) → (a ≡ Refused room_too_small place)
      ↔ ((c : Card) × (read_of card ≡ taken c) × (length was < length (f c)) × (place ≡ length (f c)))
  -- else the text is there
  pub done : (long : ℕ) → (a ≡ Done long) ↔ ((c : Card) × (read_of card ≡ taken c) × (length (f c) ≤ length was) × (long ≡ length (f c)))
  -- and the bytes past it are as they were
  pub stands : (c : Card) → read_of card ≡ taken c → length (f c) ≤ length was → is ≡ f c ++ drop (length (f c)) was
  -- there is no other refusal
  pub no_other : (number place : ℕ) → a ≡ Refused number place → (1 ≤ number) × (OfCard number ⊎ (number ≡ room_too_small))
  -- a refusal writes nothing
  pub untouched : (number place : ℕ) → a ≡ Refused number place → is ≡ was
  pub in_numbers : InNumbers a

-- the entry that shows the panel of a card and its seats
pub record Shows (card seats was is : List ℕ) (a : Answer) : Type 0 where
  pub wrong_card : (number place : ℕ) → OfCard number → (a ≡ Refused number place) ↔ (read_of card ≡ refused number place)
  -- 8: as many seats as the card has are due, and one byte more where it has a shared number
  pub wrong_count : (place : ℕ) → (a ≡ Refused wrong_seats place) ↔ ((c : Card) × (read_of card ≡ taken c) × (length seats ≡ seats_due c → ⊥) × (place ≡ 0))
  -- 9: the first seat above k, or the shared number above its most
  pub wrong_seat : (place : ℕ) → (a ≡ Refused seat_above_top place) ↔ ((c : Card) × (read_of card ≡ taken c) × (length seats ≡ seats_due c) × FirstWrong c seats place)
  pub small_room : (place : ℕ) → (a ≡ Refused room_too_small place)
      ↔ ((c : Card) × (read_of card ≡ taken c) × Seated c seats × (length was < length (panel_of c (seating_of c seats))) × (place ≡ length (panel_of c (seating_of c seats))))
  pub done : (long : ℕ) → (a ≡ Done long)
      ↔ ((c : Card) × (read_of card ≡ taken c) × Seated c seats × (length (panel_of c (seating_of c seats)) ≤ length was) × (long ≡ length (panel_of c (seating_of c seats))))
  pub stands : (c : Card) → read_of card ≡ taken c → Seated c seats → length (panel_of c (seating_of c seats)) ≤ length was
      → is ≡ panel_of c (seating_of c seats) ++ drop (length (panel_of c (seating_of c seats))) was
  pub no_other : (number place : ℕ) → a ≡ Refused number place → (1 ≤ number) × ((number ≤ room_too_small) ⊎ (number ≡ decimal_weight))
  pub untouched : (number place : ℕ) → a ≡ Refused number place → is ≡ was
  pub in_numbers : InNumbers a

-- lent a room of so many bytes or more, an entry never answers 10
abbrev pub RoomEnough : ℕ → Text → Type 0
RoomEnough room said = (was is : List ℕ) (a : Answer) → Entered was is said a → room ≤ length was → (place : ℕ) → a ≡ Refused room_too_small place → ⊥

-- rooms that every text fits into, whatever the card and the seats
pub record Rooms : Type 0 where
  pub written : (card : List ℕ) → RoomEnough written_room (write_said card)
  pub reduced : (card : List ℕ) → RoomEnough reduced_room (reduce_said card)
  pub shown : (card seats : List ℕ) → RoomEnough panel_room (panel_said card seats)
  -- because no text is longer
  pub written_most : (c : Card) → ValidCard c → length (write_of c) ≤ written_room
  pub reduced_most : (c : Card) → ValidCard c → length (reduced_of c) ≤ reduced_room
  pub shown_most : (c : Card) → ValidCard c → (x : Seating) → ValidSeating c x → length (panel_of c x) ≤ panel_room

-- two results that keep one contract are the same
pub record Unique : Type 0 where
  pub read : (card : List ℕ) (x y : Reading) → Reads card x → Reads card y → x ≡ y
  pub read_into : (card : List ℕ) (x y : Outline) (m n : Lent) → ReadsInto card x m → ReadsInto card y n → (x ≡ y) × (m ≡ n)
  pub entered : (was is₁ is₂ : List ℕ) (said : Text) (a₁ a₂ : Answer) → Entered was is₁ said a₁ → Entered was is₂ said a₂ → (a₁ ≡ a₂) × (is₁ ≡ is₂)
  pub printed : (was is₁ is₂ t : List ℕ) (long₁ long₂ : ℕ) → Printed was is₁ t long₁ → Printed was is₂ t long₂ → (long₁ ≡ long₂) × (is₁ ≡ is₂)

-- ---- the program

-- how its input is taken: seats up to LF and the card behind it, a digit as its number and any other byte as no state
pub record Input : Type 0 where
  pub line : (seats card : List ℕ) → Every (λ b. b ≡ line_end → ⊥) seats → (seats_line (seats ++ (line_end ∷ card)) ≡ seats) × (card_behind (seats ++ (line_end ∷ card)) ≡ card)
  pub no_line : (seats : List ℕ) → Every (λ b. b ≡ line_end → ⊥) seats → (seats_line seats ≡ seats) × (card_behind seats ≡ [])
  pub digits : (d : ℕ) → d ≤ 9 → seat_of (digit d) ≡ d
  pub no_digit : (b : ℕ) → (b < digit 0) ⊎ (digit 9 < b) → seat_of b ≡ no_state

-- of the input's first bytes, the seats up to LF and the card behind it
abbrev pub seats_read : List ℕ → List ℕ
seats_read input = map seat_of (seats_line (take input_bytes input))

abbrev pub card_read : List ℕ → List ℕ
card_read input = card_behind (take input_bytes input)

abbrev pub refusal_line : ℕ → ℕ → List ℕ
refusal_line number place = bytes "refused " ++ (decimal number ++ (bytes " " ++ (decimal place ++ bytes "\n")))

-- what is printed: the card's refusal 1 to 7 or 17, an 8, a 9, or the panel, which fits into the program's room
pub data Response (input : List ℕ) : Type 0 where
  wrong_card : (number place : ℕ) → read_of (card_read input) ≡ refused number place → 1 ≤ number → OfCard number
      → program_of input ≡ refusal_line number place → Response input
  wrong_count : (c : Card) → read_of (card_read input) ≡ taken c → (length (seats_read input) ≡ seats_due c → ⊥)
      → program_of input ≡ refusal_line wrong_seats 0 → Response input
  wrong_seat : (c : Card) → read_of (card_read input) ≡ taken c → length (seats_read input) ≡ seats_due c → (place : ℕ) → FirstWrong c (seats_read input) place
      → program_of input ≡ refusal_line seat_above_top place → Response input
  the_panel : (c : Card) → read_of (card_read input) ≡ taken c → Seated c (seats_read input) → length (panel_of c (seating_of c (seats_read input))) ≤ panel_room
      → program_of input ≡ panel_of c (seating_of c (seats_read input)) → Response input

pub record Demand1 : Type 0 where
  -- the reader: its verdict in numbers, and the struct that it hands back
  pub read : (card : List ℕ) (x : Reading) → Reads card x
      → (verdict_number (verdict_in x) ≡ outcome_number (read_of card)) × (verdict_place (verdict_in x) ≡ outcome_place (read_of card)) × (x ≡ reading_of (read_of card))
  -- into lent arrays: the same verdict, and the card that is taken beside its head, or zeros in all arrays
  pub read_into : (card : List ℕ) (x : Outline) (m : Lent) → ReadsInto card x m
      → (verdict_number (verdict_in x) ≡ outcome_number (read_of card)) × (verdict_place (verdict_in x) ≡ outcome_place (read_of card))
      × ((c : Card) → read_of card ≡ taken c → (x ≡ Ok (head_of c)) × (m ≡ lent_of c))
      × ((number place : ℕ) → read_of card ≡ refused number place → (x ≡ Refused number place) × (m ≡ none_lent))
  pub write : (card was is : List ℕ) (a : Answer) → Entered was is (write_said card) a → Prints write_of card was is a
  pub reduce : (card was is : List ℕ) (a : Answer) → Entered was is (reduce_said card) a → Prints reduced_of card was is a
  pub panel : (card seats was is : List ℕ) (a : Answer) → Entered was is (panel_said card seats) a → Shows card seats was is a
  -- the program: what it prints stands at the start of its room
  pub program : (input was is : List ℕ) (long : ℕ) → Printed was is (program_of input) long
      → (is ≡ program_of input ++ drop (length (program_of input)) was) × (long ≡ length (program_of input))
  -- and it is the panel or a refusal 1 to 9 or 17: a 10 is never printed, for of no bytes and no seats is one said
  pub responds : (input : List ℕ) → Response input
  pub never_10 : (card seats : List ℕ) (number place : ℕ) → panel_said card seats ≡ refusal number place → (1 ≤ number) × ((number ≤ seat_above_top) ⊎ (number ≡ decimal_weight))
  pub input : Input
  -- rooms that are always enough
  pub rooms : Rooms
  pub unique : Unique
