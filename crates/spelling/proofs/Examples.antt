-- Worked marks, by the rules and not by the scan: the scan computes them, and its marks are those by the rules.
use Prim.Native.String.{String}
use Prim.Native.Nat.{ℕ}
use mathlib.Core.List.{[], ◌∷◌}
use Rattle.card.specs.Text.{bytes}
use Rattle.marks_on_a_card.specs.Marks.{text, seat, process, number, decimal, outside, Placed, placed}
use Rattle.spelling.specs.Marked.{Marked}
use Rattle.spelling.proofs.Exact.{marked}

abbrev text_at : String → ℕ → Placed
text_at t p = placed (text (bytes t)) p

-- the `0..` of a range is no decimal, and a point without a digit behind it is outside the rules
range : Marked 0 (bytes "[0..2]") (text_at "[" 0 ∷ placed (number 0) 1 ∷ text_at ".." 2 ∷ placed (number 2) 4 ∷ text_at "]" 5 ∷ [])
range = marked (bytes "[0..2]")

points : Marked 0 (bytes "0.25 12345.12345 1.") (placed (decimal 0 2 25) 0 ∷ placed (decimal 12345 5 12345) 5 ∷ placed (number 1) 17 ∷ placed outside 18 ∷ [])
points = marked (bytes "0.25 12345.12345 1.")

words : Marked 0 (bytes "s1 s01 process2 init0 init") (placed (seat 1) 0 ∷ text_at "s01" 3 ∷ placed (process 2) 7 ∷ text_at "init0" 16 ∷ text_at "init" 22 ∷ [])
words = marked (bytes "s1 s01 process2 init0 init")

comments : Marked 0 (bytes "1//2\n!=!->") (placed (number 1) 0 ∷ text_at "!=" 5 ∷ text_at "!" 7 ∷ text_at "->" 8 ∷ [])
comments = marked (bytes "1//2\n!=!->")
