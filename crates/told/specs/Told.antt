-- What an entry for C promises: document 01's number, with the length or the place, and the room afterwards ("Refusal numbers").
-- Assumes nothing.
use Rattle.std.specs.Prelude.{ℕ, List}
use Rattle.card.specs.Verdict.{verdict_in}
use Rattle.reading.specs.Reading.{Outcome}
use Rattle.outline.specs.ReadingOf.{outline_of}
use Rattle.room.specs.Answer.{Text, told}
use Rattle.entry.specs.Said.{Said}
use Rattle.entry.specs.Contract.{Enters, in_room}
use Rattle.answers.specs.declared.OpenPanelAnswer.{OpenPanelAnswer}
use Rattle.answers.specs.Numbered.{numbers, verdict_numbers}

-- 0 and 0 for a card that is taken
abbrev pub judged : Outcome → OpenPanelAnswer
judged o = verdict_numbers (verdict_in (outline_of o))

-- the room `was` became `is`
abbrev pub Told : (was is : List ℕ) → Text → OpenPanelAnswer → Type 0
Told was is said answer = Enters in_room (λ (s : Said ℕ). numbers (told s)) was is said answer
