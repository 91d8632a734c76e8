-- The reader's answer tells whether the card is taken. Assumes nothing.
use Prim.Native.Nat.{ℕ}
use mathlib.Core.Path.{◌≡◌, refl, ap, ◌∙◌}
use mathlib.Core.List.{List}
use Rattle.std.specs.Result.{is_ok}
use Rattle.card.specs.Lent.{Lent}
use Rattle.reading.specs.Reading.{Outcome, taken, refused, read_of}
use Rattle.outline.specs.ReadingOf.{Outline, outline_of, ReadsInto}
use Rattle.mending.specs.Mending.{is_taken}

pub is_taken_law : (s : List ℕ) {r : Outline} {x : Lent} → ReadsInto s r x → is_ok r ≡ is_taken (read_of s)
is_taken_law s h = ap is_ok h.outline ∙ go (read_of s)
  where
    go : (o : Outcome) → is_ok (outline_of o) ≡ is_taken o
    go (taken c) = refl
    go (refused n p) = refl
