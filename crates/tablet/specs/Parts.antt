-- What a lookup for C promises (document 02, 2026-02): the refusal's number and place or 0 and 0, and the part in three lent numbers. Assumes nothing.
use Rattle.std.specs.Prelude.{ℕ, ◌≡◌, List}
use Rattle.entry.specs.Said.{Said}
use Rattle.deck.specs.Lookup.{Part}
use Rattle.deck_entries.specs.Verdicts.{verdict_of}
use Rattle.boxes.specs.Boxes.{placed}
use Rattle.answers.specs.Numbered.{verdict_numbers}
use Rattle.answers.specs.Stands.{three_of}
use Rattle.answers.specs.declared.OpenPanelAnswer.{OpenPanelAnswer}

-- the lent part `was` became `is`: all 0 where it is refused
pub record PartTold (said : Said Part) (was is : List ℕ) (answer : OpenPanelAnswer) : Type 0 where
  pub answers : answer ≡ verdict_numbers (verdict_of said)
  pub leaves : is ≡ three_of (placed said) was
