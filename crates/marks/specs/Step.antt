-- What a step of the cursor hands back: the next mark in numbers, and the cursor behind it. Assumes nothing.
use Rattle.std.specs.Prelude.{ℕ, zero, suc, ◌+◌, ◌-◌, List, [], ◌∷◌, length, drop}
use Rattle.marks_on_a_card.specs.Marks.{Mark, Placed, Start, blank, mark, start_at, marks}
use Rattle.marks_on_a_card.specs.Kinds.{kind_of, k_end, value_of, digits_of, further_of}
use Rattle.marks.specs.declared.Found.{Found}
use Rattle.marks.specs.declared.Step.{Step}

abbrev pub found : Mark → ℕ → Found
found m p = record { kind = kind_of m; value = value_of m; digits = digits_of m; further = further_of m; place = p }

abbrev pub step_to : Mark → ℕ → ℕ → Step
step_to m p next = record { mark = found m p; next = record { at = next } }

-- no mark is left
abbrev pub step_end : ℕ → Step
step_end e = record { mark = record { kind = k_end; value = 0; digits = 0; further = 0; place = e }; next = record { at = e } }

abbrev pub stepped : ℕ → Start → (ℕ → Step) → Step
stepped p (blank more) k = k more
stepped p (mark m more) k = step_to m p (p + 1 + more)

-- in a text that ends at place e
unfoldable pub step_from : ℕ → ℕ → List ℕ → Step
step_from e skip [] = step_end e
step_from e zero (b ∷ s) = stepped (e - length (b ∷ s)) (start_at b s) (λ more. step_from e more s)
step_from e (suc skip) (b ∷ s) = step_from e skip s

-- from place i on
abbrev pub step_at : List ℕ → ℕ → Step
step_at s i = step_from (length s) 0 (drop i s)

-- the marks of a part of a card from place i of it on; the part begins at place o of the card
abbrev pub marks_at : ℕ → List ℕ → ℕ → List Placed
marks_at o s i = marks (o + length s) 0 (drop i s)
