-- Document 02's writer of a box (2026-02): what it answers for contents and bodies, what stands in the room afterwards, and that the deck reads
-- back. The words on the right of an `↔` are in `deck_written/specs/Fine.antt`. Each statement on the entry begins with the promise that its code is
-- proved to keep: the room `was` became `is`, and `a` is its answer. Assumes nothing.
use Rattle.std.specs.Prelude.{ℕ, ◌+◌, ◌≤◌, ◌<◌, ◌≡◌, ◌↔◌, ◌⊎◌, List, [], ◌∷◌, ◌++◌, length, drop, replicate}
use Rattle.card.specs.Limits.{deck_bytes, count_bytes}
use Rattle.card.specs.Refusals.{malformed_deck, room_too_small}
use Rattle.card.specs.Text.{bytes}
use Rattle.entry.specs.Said.{says}
use Rattle.deck.specs.Contents.{contents_of}
use Rattle.deck.specs.Deck.{deck_of, deck_text, Bytes}
use Rattle.deck.specs.Sound.{Sound}
use Rattle.deck_written.specs.WriteDeckSaid.{lines, entries_said, write_deck_said, lines_for}
use Rattle.deck_written.specs.Fine.{Fine, RefusedAt, SameButOffsets, NoGaps}
use Rattle.room.specs.Answer.{Answer}
use Rattle.room.specs.Answer.{Done, Refused}
use Rattle.room.specs.Answer.{answered, room_after, Entered}
use Rattle.answers.specs.declared.OpenPanelAnswer.{OpenPanelAnswer}
use Rattle.told.specs.Told.{Told}
use Rattle.entry_promises.specs.Entries.{InNumbers, RoomEnough}
use Rattle.entry_promises.specs.ForC.{Answers}

-- the deck of the entries that contents and bodies say
abbrev pub deck_for : (contents bodies : List ℕ) → List ℕ
deck_for contents bodies = deck_text (entries_said contents bodies)

-- ---- the answer

pub record WritesDeck (contents bodies was is : List ℕ) (a : Answer) : Type 0 where
  -- 11: the count first, then the first wrong field, then bodies or total
  pub malformed : (place : ℕ) → (a ≡ Refused malformed_deck place) ↔ RefusedAt contents bodies place
  -- 10 comes last, and its place is the length needed
  pub small_room : (place : ℕ) → (a ≡ Refused room_too_small place)
      ↔ (Fine contents bodies × (length was < length (deck_for contents bodies)) × (place ≡ length (deck_for contents bodies)))
  -- else the deck is there
  pub done : (long : ℕ) → (a ≡ Done long)
      ↔ (Fine contents bodies × (length (deck_for contents bodies) ≤ length was) × (long ≡ length (deck_for contents bodies)))
  -- and the bytes past it are as they were
  pub stands : Fine contents bodies → length (deck_for contents bodies) ≤ length was
      → is ≡ deck_for contents bodies ++ drop (length (deck_for contents bodies)) was
  pub no_other : (number place : ℕ) → a ≡ Refused number place → (number ≡ malformed_deck) ⊎ (number ≡ room_too_small)
  -- a refusal writes nothing
  pub untouched : (number place : ℕ) → a ≡ Refused number place → is ≡ was
  pub in_numbers : InNumbers a

-- the name for C
pub record WriteDeckTells (contents bodies was is : List ℕ) (a : OpenPanelAnswer) : Type 0 where
  -- 0 and the length
  pub done : (long : ℕ) → Answers a 0 long
      ↔ (Fine contents bodies × (length (deck_for contents bodies) ≤ length was) × (long ≡ length (deck_for contents bodies)))
  pub stands : Fine contents bodies → length (deck_for contents bodies) ≤ length was
      → is ≡ deck_for contents bodies ++ drop (length (deck_for contents bodies)) was
  -- 11 and its place, 10 and the length needed
  pub malformed : (place : ℕ) → Answers a malformed_deck place ↔ RefusedAt contents bodies place
  pub small_room : (place : ℕ) → Answers a room_too_small place
      ↔ (Fine contents bodies × (length was < length (deck_for contents bodies)) × (place ≡ length (deck_for contents bodies)))
  pub no_other : (a.number ≡ 0) ⊎ (a.number ≡ malformed_deck) ⊎ (a.number ≡ room_too_small)
  pub untouched : (a.number ≡ 0 → ⊥) → is ≡ was

-- ---- the deck

pub record DeckWritten (contents bodies : List ℕ) : Type 0 where
  -- a count byte, the contents and the bodies
  pub long : length (deck_for contents bodies) ≡ count_bytes + length contents + length bodies
  -- the contents are those handed in with other offsets, the bodies are those handed in
  pub same_lines : contents_of (deck_for contents bodies) ≡ lines_for (count_bytes + length contents) (lines contents)
  pub same_bodies : drop (count_bytes + length contents) (deck_for contents bodies) ≡ bodies
  pub no_gaps : NoGaps (deck_for contents bodies)
  -- of bytes it is sound, and it reads back as the entries that were said
  pub sound : Bytes contents → Sound (deck_for contents bodies)
  pub back : Bytes contents → deck_of (deck_for contents bodies) ≡ says (entries_said contents bodies)

pub record DeckWriting : Type 0 where
  pub write : (contents bodies was is : List ℕ) (a : Answer) → Entered was is (write_deck_said contents bodies) a → WritesDeck contents bodies was is a
  pub write_for_c : (contents bodies was is : List ℕ) (a : OpenPanelAnswer) → Told was is (write_deck_said contents bodies) a
      → WriteDeckTells contents bodies was is a
  pub written : (contents bodies : List ℕ) → Fine contents bodies → DeckWritten contents bodies
  -- contents that differ in offsets only get the same answer and the same bytes
  pub offsets_unread : (contents others bodies : List ℕ) → SameButOffsets contents others → (was is₁ is₂ : List ℕ) (a₁ a₂ : Answer)
      → Entered was is₁ (write_deck_said contents bodies) a₁ → Entered was is₂ (write_deck_said others bodies) a₂ → (a₁ ≡ a₂) × (is₁ ≡ is₂)
  -- a room of a deck's most bytes is always enough
  pub room_enough : (contents bodies : List ℕ) → RoomEnough deck_bytes (write_deck_said contents bodies)

-- ---- edges, each as the whole input and the whole answer

-- the answer for contents, bodies and a room, and the room afterwards
abbrev pub Ends : (contents bodies was : List ℕ) → Answer → List ℕ → Type 0
Ends contents bodies was a is = (answered (write_deck_said contents bodies) was ≡ a) × (room_after (write_deck_said contents bodies) was ≡ is)

-- card 3, live, two bytes, with this offset, flag and zero byte
abbrev pub three : (o p flag z : ℕ) → List ℕ
three o p flag z = 3 ∷ 0 ∷ o ∷ p ∷ 2 ∷ 0 ∷ flag ∷ z ∷ []

-- another card, withdrawn and empty
abbrev pub gone : (n m : ℕ) → List ℕ
gone n m = n ∷ m ∷ 0 ∷ 0 ∷ 0 ∷ 0 ∷ 0 ∷ 0 ∷ []

-- the deck of card 3
abbrev pub deck_of_three : List ℕ
deck_of_three = 1 ∷ 3 ∷ 0 ∷ 9 ∷ 0 ∷ 2 ∷ 0 ∷ 1 ∷ 0 ∷ bytes "AB"

pub record DeckWritingEdges : Type 0 where
  -- one entry, in a room with two bytes to spare and in one without
  pub one_entry_holds : Ends (three 0 0 1 0) (bytes "AB") (bytes ".............") (Done 11) (deck_of_three ++ bytes "..")
  pub exact_room : Ends (three 0 0 1 0) (bytes "AB") (bytes "...........") (Done 11) deck_of_three
  -- a room one short: 10 at the length needed
  pub room_one_short : Ends (three 0 0 1 0) (bytes "AB") (bytes "..........") (Refused 10 11) (bytes "..........")
  -- the second of two bodies is empty; it starts where the first ends, at the deck's end
  pub empty_body : Ends (three 0 0 1 0 ++ gone 44 1) (bytes "AB") (bytes "...................") (Done 19)
      (2 ∷ 3 ∷ 0 ∷ 17 ∷ 0 ∷ 2 ∷ 0 ∷ 1 ∷ 0 ∷ 44 ∷ 1 ∷ 19 ∷ 0 ∷ 0 ∷ 0 ∷ 0 ∷ 0 ∷ bytes "AB")
  -- a wrong offset is taken
  pub wrong_offset : Ends (three 255 255 1 0) (bytes "AB") (bytes "...........") (Done 11) deck_of_three
  -- no byte, bytes besides the entries, 65 entries: at the contents' length
  pub no_entry : Ends [] [] (bytes ".") (Refused 11 0) (bytes ".")
  pub ragged : Ends (three 0 0 1 0 ++ (4 ∷ [])) (bytes "AB") (bytes ".") (Refused 11 9) (bytes ".")
  pub entries_65 : Ends (replicate 520 0) [] (bytes ".") (Refused 11 520) (bytes ".")
  -- the same number twice, and a number that falls: at the second number
  pub same_number : Ends (three 0 0 1 0 ++ gone 3 0) (bytes "AB") (bytes ".") (Refused 11 8) (bytes ".")
  pub number_falls : Ends (three 0 0 1 0 ++ gone 2 0) (bytes "AB") (bytes ".") (Refused 11 8) (bytes ".")
  -- a flag of 2, a zero byte of 1, and both
  pub wrong_flag : Ends (three 0 0 2 0) (bytes "AB") (bytes ".") (Refused 11 6) (bytes ".")
  pub wrong_zero : Ends (three 0 0 1 1) (bytes "AB") (bytes ".") (Refused 11 7) (bytes ".")
  pub both_wrong : Ends (three 0 0 2 1) (bytes "AB") (bytes ".") (Refused 11 6) (bytes ".")
  -- bodies longer or shorter than the lengths say: at the contents' length, also where the room is too small
  pub bodies_long : Ends (three 0 0 1 0) (bytes "ABC") (bytes "............") (Refused 11 8) (bytes "............")
  pub bodies_short : Ends (three 0 0 1 0) (bytes "A") [] (Refused 11 8) []
  -- a wrong field comes before bodies that do not fit
  pub field_first : Ends (three 0 0 1 1) (bytes "ABC") [] (Refused 11 7) []
