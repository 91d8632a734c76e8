-- The want of a group stands or falls with its kind. Assumes nothing.
use mathlib.Core.Path.{◌≡◌}
use mathlib.Core.Bool.{Bool, true, false}
use borrow.Author.Tests.{eq-eqb, ne_eqb}
use lib.Dec.{eqb}
use Rattle.card.specs.Text.{when◌then◌else◌}
use Rattle.group.specs.declared.Grouped.{Grouped}
use Rattle.items.specs.GroupsAsked.{unwanted, of_all}

-- what the code makes of a group in a question
chosen : (b c : Bool) (x y : Grouped) → b ≡ c → (when c then x else y) ≡ (when b then x else y)
chosen b c x y e = rw e

pub all_wanted : (g : Grouped) → g.kind ≡ 0 → g ≡ of_all g
all_wanted g e = chosen (eqb g.kind 0) true g (unwanted g) (eq-eqb g.kind 0 e)

pub none_wanted : (g : Grouped) → (g.kind ≡ 0 → ⊥) → unwanted g ≡ of_all g
none_wanted g e = chosen (eqb g.kind 0) false g (unwanted g) (ne_eqb g.kind 0 e)
