-- A list by its length, and the line as it is put. Assumes nothing.
use Prim.Native.Nat.{ℕ, suc, ◌-◌, ◌≤◌, ◌<◌}
use mathlib.Core.Path.{◌≡◌}
use mathlib.Core.List.{List}
use native.Mathlib.Omega.{arith}
use borrow.Author.Tests.{eq-eqb, ne_eqb}
use lib.ListN.{length}
use Rattle.card.specs.Limits.{top_class}
use Rattle.card.specs.Refusals.{wrong_classes}
use Rattle.card.specs.Verdict.{Refused}
use Rattle.room.specs.Room.{Put}
use Rattle.phrases.specs.Puts.{Puts}
use Rattle.panel_wording.specs.PanelText.{line}
use Rattle.seating.specs.Judged.{judged_from}
use Rattle.classes.specs.Classes.{classes_text}
use Rattle.classes.specs.ClassesSaid.{judged_classes}
use Rattle.classes.specs.ClassesRoom.{classes_room}

-- ---- a list by its length, as the code tests it

module _ (top : ℕ) (list : List ℕ) where
  pub right_length : top < length list → length list - top ≡ 1 → judged_from wrong_classes top_class 0 list ≡ judged_classes top list
  unfolding judged_classes
  right_length h e = let long : length list ≡ suc top = omega arith in rw (eq-eqb (length list) (suc top) long)

  pub wrong_length : (length list ≡ suc top → ⊥) → Refused wrong_classes (length list) ≡ judged_classes top list
  unfolding judged_classes
  wrong_length h = rw (ne_eqb (length list) (suc top) h)

-- ---- the line, put into a room of no bytes or into the room

module _ (v : List ℕ) {was is : List ℕ} {r : ℕ} (p : Puts was is 0 (line "classes" v) r) where
  pub line_put : Put was is 0 (classes_text v) r
  unfolding classes_text
  line_put = p.put

  pub measured : length (classes_text v) ≤ classes_room → r ≡ length (classes_text v)
  measured short = omega (arith, line_put.next)
