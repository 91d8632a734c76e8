-- What C is told of the odds (document 02, 2026-08): 0 with the value in millionths, or a refusal, and the two rows. Assumes nothing.
use Rattle.std.specs.Prelude.{ℕ, List}
use Rattle.room.specs.Answer.{told}
use Rattle.entry.specs.Said.{Said}
use Rattle.entry.specs.Contract.{Ends, Two, Enters, in_rows}
use Rattle.answers.specs.declared.OpenPanelAnswer.{OpenPanelAnswer}
use Rattle.answers.specs.Numbered.{numbers}

-- the rows `was` became `is`
abbrev pub RowsTold : (was is : Two (List ℕ)) → Said (Ends ℕ (Two (List ℕ))) → OpenPanelAnswer → Type 0
RowsTold was is said answer = Enters in_rows (λ (s : Said ℕ). numbers (told s)) was is said answer
