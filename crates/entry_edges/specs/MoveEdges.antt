-- The edges of document 02, 2026-07, as whole inputs and answers: a card's bytes and the seats. Assumes nothing.
use Rattle.std.specs.Prelude.{ℕ, ◌≡◌, List, [], ◌∷◌}
use Rattle.std.proofs.Math.Option.{Option, none, some}
use Rattle.card.specs.Text.{bytes}
use Rattle.card.specs.Card.{Mode, nondeterministic, probabilistic}
use Rattle.entry.specs.Said.{Said, says, refused}
use Rattle.move_said.specs.MoveSaid.{move_said}
use Rattle.edges.specs.Edges.{text_a}

-- what is said of card A, where the seats are in these states
abbrev pub moves_a : Mode → ℕ → ℕ → ℕ → Said (Option ℕ)
moves_a mode a b c = move_said (text_a mode) (a ∷ b ∷ c ∷ [])

-- two seats, states 0 and 1: a seat in state 1 may move where the other is in 1 too, and one in state 0 always, by two statements
abbrev pub second_first : List ℕ
second_first = bytes "nondeterministic\nmodule process1\ns1 : [0..1] init 0;\n[] s1=1 & (s2=1) -> 1:(s1'=0);\n[] s1=0 -> 1:(s1'=1);\n[] s1=0 -> 1:(s1'=0);\nendmodule\nmodule process2 = process1 [s1=s2, s2=s1] endmodule\n"

-- the same with a weight above 1 in its last statement, behind the first that can be taken
abbrev pub last_wrong : List ℕ
last_wrong = bytes "nondeterministic\nmodule process1\ns1 : [0..1] init 0;\n[] s1=1 & (s2=1) -> 1:(s1'=0);\n[] s1=0 -> 1:(s1'=1);\n[] s1=0 -> 2:(s1'=0);\nendmodule\nmodule process2 = process1 [s1=s2, s2=s1] endmodule\n"

-- one seat: the first statement leaves it where it is
abbrev pub stay_first : List ℕ
stay_first = bytes "probabilistic\nmodule process1\ns1 : [0..1] init 0;\n[] s1=0 -> 1:(s1'=0);\n[] s1=0 -> 1:(s1'=1);\nendmodule\n"

pub record MoveEdges : Type 0 where
  -- card A: at 001 and at 100 a seat in state 0 may move; at 011 only one in state 1, by the second statement; at 012 nobody, in either mode
  pub at_001 : (moves_a probabilistic 0 0 1 ≡ says (some 1)) × (moves_a nondeterministic 0 0 1 ≡ says (some 1))
  pub at_100 : (moves_a probabilistic 1 0 0 ≡ says (some 1)) × (moves_a nondeterministic 1 0 0 ≡ says (some 1))
  pub at_011 : (moves_a probabilistic 0 1 1 ≡ says (some 2)) × (moves_a nondeterministic 0 1 1 ≡ says (some 2))
  pub at_012 : (moves_a probabilistic 0 1 2 ≡ says none) × (moves_a nondeterministic 0 1 2 ≡ says none)
  -- nobody may take the first statement, and somebody the second and the third; then the first too
  pub second_first_holds : (move_said second_first (0 ∷ 1 ∷ []) ≡ says (some 2)) × (move_said second_first (1 ∷ 1 ∷ []) ≡ says (some 1))
  -- a statement that changes nothing can be taken
  pub staying : move_said stay_first (0 ∷ []) ≡ says (some 1)
  -- too few seats and too many: 8, also where one is above k; then 9 at the first above k
  pub seat_count : (move_said (text_a probabilistic) (0 ∷ 0 ∷ []) ≡ refused 8 0)
      × (move_said (text_a probabilistic) (0 ∷ 0 ∷ 1 ∷ 0 ∷ []) ≡ refused 8 0)
      × (move_said (text_a probabilistic) (0 ∷ 3 ∷ []) ≡ refused 8 0)
      × (move_said (text_a probabilistic) [] ≡ refused 8 0)
  pub seat_above : (move_said (text_a probabilistic) (0 ∷ 3 ∷ 255 ∷ []) ≡ refused 9 1) × (move_said (text_a nondeterministic) (0 ∷ 1 ∷ 3 ∷ []) ≡ refused 9 2)
  -- the card is judged whole and before the seats: also what stands behind the statement that would be given
  pub card_first : (move_said (bytes "module") (0 ∷ 0 ∷ []) ≡ refused 3 0) × (move_said [] [] ≡ refused 3 0) × (move_said last_wrong (0 ∷ 1 ∷ []) ≡ refused 7 117)
