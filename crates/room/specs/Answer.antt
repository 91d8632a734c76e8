-- What an entry with a text has to say, its answer, and the lent room afterwards ("Refusal numbers"). Assumes nothing.
use Rattle.std.specs.Prelude.{ℕ, List, Result, Ok, Err}
use Rattle.card.specs.declared.Refusal.{Refusal}
pub use Rattle.card.specs.Verdict.{Refused}
use Rattle.entry.specs.Said.{Said, says, refused}
use Rattle.entry.specs.Contract.{valued, left, Enters, in_room}

-- a text, or a refusal with its number and place
abbrev pub Text : Type 0
Text = Said (List ℕ)

-- an answer: a number, here a text's length, or the refusal
abbrev pub Answer : Type 0
Answer = Result ℕ Refusal

abbrev pub Done : ℕ → Answer
Done long = Ok long

abbrev pub told : Said ℕ → Answer
told (says long) = Done long
told (refused number place) = Refused number place

-- the number of an answer, 0 if it is no refusal; and the length of the text, or the refusal's place
abbrev pub answer_number : Answer → ℕ
answer_number (Ok long) = 0
answer_number (Err e) = e.number

abbrev pub answer_value : Answer → ℕ
answer_value (Ok long) = long
answer_value (Err e) = e.place

-- the answer of an entry that is lent the room `was`, and the room afterwards
abbrev pub answered : Text → List ℕ → Answer
answered said was = told (valued (in_room was said))

abbrev pub room_after : Text → List ℕ → List ℕ
room_after said was = left was (in_room was said)

-- what an entry promises: the room `was` became `is`
abbrev pub Entered : (was is : List ℕ) → Text → Answer → Type 0
Entered was is said answer = Enters in_room told was is said answer
