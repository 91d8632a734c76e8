-- What mending answers: the lengths of the new deck and of the list, or a refusal; and what it promises of both rooms. Assumes nothing.
use Rattle.std.specs.Prelude.{ℕ, List, Result, Ok}
use Rattle.card.specs.declared.Refusal.{Refusal}
pub use Rattle.card.specs.Verdict.{Refused}
use Rattle.entry.specs.Said.{Said, says, refused}
use Rattle.entry.specs.Contract.{Enters, Two, in_rooms}
use Rattle.mending.specs.Mending.{mend_said}

abbrev pub Mended : Type 0
Mended = Result (ℕ × ℕ) Refusal

abbrev pub Done : ℕ → ℕ → Mended
Done deck list = Ok (deck, list)

abbrev pub told : Said (Two ℕ) → Mended
told (says long) = Done long.first long.second
told (refused number place) = Refused number place

-- the rooms `was`, for the deck and for the list, became `is`
abbrev pub Mends : (was is : Two (List ℕ)) (deck : List ℕ) → Mended → Type 0
Mends was is deck answer = Enters in_rooms told was is (mend_said deck) answer
