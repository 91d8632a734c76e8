-- Demand 2, beneath the readings: which marks a card's bytes are, and where ("Marks on a card"). How a mark is spelt is in
-- `spelling/specs/Spells.antt`, and what stands between marks, and that the longest fits first, in `spelling/specs/Marked.antt`. Assumes nothing.
use Rattle.std.specs.Prelude.{ℕ, ◌+◌, ◌≤◌, ◌≡◌, ◌↔◌, List, ◌∷◌, ◌++◌}
use Rattle.marks_on_a_card.specs.Marks.{Mark, Placed, placed, marks_of}
use Rattle.spelling.specs.Spells.{Spells}
use Rattle.spelling.specs.Marked.{taken, Marked, StandsAt}

pub record Markings : Type 0 where
  -- a card has exactly these marks when they stand on it by the rules: blanks and comments between them, each where the last one ends or behind it
  pub exact : (s : List ℕ) (ms : List Placed) → (marks_of s ≡ ms) ↔ Marked 0 s ms
  -- no bytes spell two marks
  pub once : (w : List ℕ) (m n : Mark) → Spells w m → Spells w n → m ≡ n
  -- the bytes from a mark's place on spell it, and no longer beginning of them spells any
  pub stands : (s : List ℕ) (before after : List Placed) (m : Mark) (p : ℕ) → marks_of s ≡ before ++ (placed m p ∷ after) → StandsAt s p m
  -- places rise: the next mark's is not before the end of this one
  pub rises : (s : List ℕ) (before after : List Placed) (m n : Mark) (p q : ℕ) → marks_of s ≡ before ++ (placed m p ∷ placed n q ∷ after)
      → (x : StandsAt s p m) → p + taken m x.spelt ≤ q
