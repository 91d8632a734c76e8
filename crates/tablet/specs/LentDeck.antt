-- What C is told of a deck that is changed in place (document 02, 2026-12): 0 with the new length, or a refusal. Assumes nothing.
use Rattle.std.specs.Prelude.{ℕ, List}
use Rattle.room.specs.Answer.{told}
use Rattle.entry.specs.Said.{Said}
use Rattle.entry.specs.Contract.{Enters, in_place}
use Rattle.answers.specs.declared.OpenPanelAnswer.{OpenPanelAnswer}
use Rattle.answers.specs.Numbered.{numbers}

-- the lent deck `was` became `is`; the bytes past the new length are zero
abbrev pub DeckTold : (was is : List ℕ) → Said (List ℕ) → OpenPanelAnswer → Type 0
DeckTold was is said answer = Enters in_place (λ (s : Said ℕ). numbers (told s)) was is said answer
