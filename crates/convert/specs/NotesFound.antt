-- What is known behind the walk through the contents. Assumes nothing.
use Rattle.std.specs.Prelude.{ℕ, ◌≡◌, List, map, ◌++◌, drop}
use Rattle.deck.specs.Contents.{count_of, behind}
use Rattle.deck.specs.Deck.{held_by}
use Rattle.room.specs.Answer.{Answer}
use Rattle.room.specs.Answer.{Done}
use Rattle.room.specs.Answer.{told}
use Rattle.converted_rows.specs.Notes.{note_of, end_said}

-- where the last body ends, or the card that is named; and if there is none, a note for each entry
pub record NotesFound (deck was is : List ℕ) (r : Answer) : Type 0 where
  pub ends : r ≡ told (end_said (behind (count_of deck)) (held_by deck))
  pub notes : (long : ℕ) → r ≡ Done long → is ≡ map note_of (held_by deck) ++ drop (count_of deck) was
