-- Where a card stands, in three lent numbers (document 02, 2026-02). Assumes nothing.
use Rattle.std.specs.Prelude.{ℕ, ◌≡◌, List, set, Result, Ok, Err}
use Rattle.card.specs.declared.Refusal.{Refusal}
use Rattle.card.specs.Verdict.{verdict_in}
use Rattle.boxes.specs.declared.Place.{Place}
use Rattle.answers.specs.Numbered.{verdict_numbers}
use Rattle.answers.specs.declared.OpenPanelAnswer.{OpenPanelAnswer}

-- 0 for the base or 1 for the expansion, the first byte there, and how many bytes; all 0 where it is refused
abbrev pub three_of : Result Place Refusal → List ℕ → List ℕ
three_of (Ok p) was = set (set (set was 0 p.which) 1 p.offset) 2 p.size
three_of (Err e) was = set (set (set was 0 0) 1 0) 2 0

pub record Stands (p : Result Place Refusal) (was is : List ℕ) (answer : OpenPanelAnswer) : Type 0 where
  pub answers : answer ≡ verdict_numbers (verdict_in p)
  pub leaves : is ≡ three_of p was
