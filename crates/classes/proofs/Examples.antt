-- Three seats in states 0, 0 and 1, by lists that tell states apart, join them, and join all. Assumes nothing.
use mathlib.Core.Path.{◌≡◌, refl}
use mathlib.Core.List.{[], ◌∷◌}
use Rattle.card.specs.Text.{bytes}
use Rattle.meaning.specs.Position.{position}
use Rattle.room.specs.Digits.{decimal}
use Rattle.classes.specs.Classes.{class_counts, class_counts_at, classes_text, watch_of}

pub record Lists : Type 0 where
  pub apart : watch_of (3 ∷ 0 ∷ 7 ∷ []) (position (0 ∷ 0 ∷ 1 ∷ []) 0) ≡ bytes "classes 1 0 0 2 0 0 0 0\n"
  pub joined : watch_of (1 ∷ 4 ∷ 4 ∷ []) (position (0 ∷ 1 ∷ 2 ∷ []) 0) ≡ bytes "classes 0 1 0 0 2 0 0 0\n"
  pub one : watch_of (7 ∷ 7 ∷ 7 ∷ []) (position (0 ∷ 0 ∷ 1 ∷ []) 0) ≡ bytes "classes 0 0 0 0 0 0 0 3\n"
  -- the shared number is none of the seats
  pub hidden : watch_of (7 ∷ 7 ∷ 7 ∷ []) (position (0 ∷ 0 ∷ 1 ∷ []) 5) ≡ bytes "classes 0 0 0 0 0 0 0 3\n"
  pub from_counts : classes_text (class_counts_at (3 ∷ 0 ∷ 7 ∷ []) (2 ∷ 1 ∷ 0 ∷ [])) ≡ bytes "classes 1 0 0 2 0 0 0 0\n"

pub lists : Lists
unfolding watch_of class_counts class_counts_at classes_text decimal
lists = record { apart = refl; joined = refl; one = refl; hidden = refl; from_counts = refl }
