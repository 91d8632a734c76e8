-- What C is told of a mended deck (document 02, 2026-09): 0 and the deck's length, or a refusal's number and place; the list's length goes into a lent number, which a refusal leaves as it was. Assumes nothing.
use Rattle.std.specs.Prelude.{ℕ, ◌≡◌, List, set, Ok, Err}
use Rattle.entry.specs.Said.{Said, ◌>>=◌, return}
use Rattle.entry.specs.Contract.{Ends, Enters, Two, in_rooms}
use Rattle.room.specs.Answer.{told}
use Rattle.answers.specs.Numbered.{numbers}
use Rattle.answers.specs.declared.OpenPanelAnswer.{OpenPanelAnswer}
use Rattle.mended_rooms.specs.Mends.{Mended}

-- ---- an answer in numbers

abbrev pub mended_numbers : Mended → OpenPanelAnswer
mended_numbers (Ok long) = record { number = 0; value = long.0 }
mended_numbers (Err e) = record { number = e.number; value = e.place }

abbrev pub list_length : Mended → List ℕ → List ℕ
list_length (Ok long) was = set was 0 long.1
list_length (Err e) was = was

pub record Tells (m : Mended) (was is : List ℕ) (answer : OpenPanelAnswer) : Type 0 where
  pub answers : answer ≡ mended_numbers m
  pub leaves : is ≡ list_length m was

-- ---- the entry

-- what C lends: a room for the deck, one for the list, and a number for the list's length
pub record LentRooms : Type 0 where
  pub rooms : Two (List ℕ)
  pub length : List ℕ

abbrev pub lent : Two (List ℕ) → List ℕ → LentRooms
lent rooms length = record { rooms = rooms; length = length }

abbrev pub in_rooms_with_length : LentRooms → Said (Two (List ℕ)) → Said (Ends ℕ LentRooms)
in_rooms_with_length was said = do
  both ← in_rooms was.rooms said
  return (record { value = both.value.first; memory = lent both.memory (set was.length 0 both.value.second) })

-- what was lent became `is`
abbrev pub RoomsTold : (was is : LentRooms) → Said (Two (List ℕ)) → OpenPanelAnswer → Type 0
RoomsTold was is said answer = Enters in_rooms_with_length (λ (s : Said ℕ). numbers (told s)) was is said answer
