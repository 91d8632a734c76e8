-- The list as a stage: 13, or nothing to say (document 02, 2026-05). Assumes nothing.
use Rattle.std.specs.Prelude.{ℕ, suc, ◌≡◌, ◌⊎◌, List, length}
use Rattle.card.specs.Limits.{top_class}
use Rattle.card.specs.Refusals.{wrong_classes}
use Rattle.card.specs.Card.{Card}
use Rattle.card.specs.Verdict.{Verdict}
use Rattle.card.specs.Verdict.{Refused}
use Rattle.entry.specs.Said.{Said}
use Rattle.entry.specs.Numbers.{Numbers, only}
use Rattle.seating.specs.Judged.{judged_by, judged_list, FirstAbove}
use Rattle.seating.specs.SeatsSaid.{verdict_said}

-- its length first, then its classes
unfoldable pub judged_classes : ℕ → List ℕ → Verdict
unfolding judged_by
judged_classes k list = judged_list (suc k) top_class (Refused wrong_classes (length list)) wrong_classes list

abbrev pub classes_said : List ℕ → Card → Said (Unit {0})
classes_said list c = verdict_said (judged_classes c.k list)

abbrev pub classes_numbers : Numbers
classes_numbers = only wrong_classes

-- a list that is not k + 1 long, at its own length; else the first class above 7, at its place
abbrev pub WrongClasses : ℕ → List ℕ → ℕ → Type 0
WrongClasses k list p = ((length list ≡ suc k → ⊥) × (p ≡ length list)) ⊎ ((length list ≡ suc k) × FirstAbove top_class list p)
