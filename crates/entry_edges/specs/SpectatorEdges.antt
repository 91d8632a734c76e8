-- The edges of document 02, 2026-05, as whole inputs and answers: a card's bytes, the seats, a list of the states' classes and a room. Assumes nothing.
use Rattle.std.specs.Prelude.{ℕ, ◌≡◌, List, [], ◌∷◌, ◌++◌, replicate}
use Rattle.card.specs.Text.{bytes}
use Rattle.card.specs.Card.{probabilistic}
use Rattle.entry.specs.Said.{says as text, refused}
use Rattle.room.specs.Answer.{Text, answered, room_after}
use Rattle.room.specs.Answer.{Done, Refused}
use Rattle.watch_said.specs.WatchSaid.{watch_said}
use Rattle.edges.specs.Edges.{text_a, head, modules_from}

-- of card A with its seats in these states
abbrev pub card_at : ℕ → ℕ → ℕ → List ℕ → Text
card_at a b c list = watch_said (text_a probabilistic) (a ∷ b ∷ c ∷ []) list

-- sixteen seats, states 0 to 2
abbrev pub sixteen : List ℕ
sixteen = head ++ (bytes " -> 1:(s1'=1);\nendmodule\n" ++ modules_from 2 15)

-- eight seats, states 0 to 7
abbrev pub eight : List ℕ
eight = bytes "probabilistic\nmodule process1\ns1 : [0..7] init 0;\n[] s1=0 -> 1:(s1'=1);\nendmodule\n" ++ modules_from 2 7

pub record SpectatorEdges : Type 0 where
  -- card A at 001 by two lists, one that tells the states apart and one that does not
  pub at_001 : (card_at 0 0 1 (0 ∷ 1 ∷ 2 ∷ []) ≡ text (bytes "classes 2 1 0 0 0 0 0 0\n"))
      × (card_at 0 0 1 (7 ∷ 3 ∷ 7 ∷ []) ≡ text (bytes "classes 0 0 0 1 0 0 0 2\n"))
  -- states 0 and 2 are of one class: the same line for other seats; their order does not count
  pub alike : (card_at 0 2 1 (7 ∷ 3 ∷ 7 ∷ []) ≡ text (bytes "classes 0 0 0 1 0 0 0 2\n"))
      × (card_at 1 2 2 (7 ∷ 3 ∷ 7 ∷ []) ≡ text (bytes "classes 0 0 0 1 0 0 0 2\n"))
  -- every state has a class of its own
  pub eight_states : watch_said eight (7 ∷ 7 ∷ 7 ∷ 6 ∷ 6 ∷ 5 ∷ 4 ∷ 0 ∷ []) (3 ∷ 0 ∷ 1 ∷ 2 ∷ 4 ∷ 5 ∷ 6 ∷ 7 ∷ []) ≡ text (bytes "classes 0 0 0 1 1 1 2 3\n")
  -- all states in one class
  pub one_class : (card_at 0 1 2 (5 ∷ 5 ∷ 5 ∷ []) ≡ text (bytes "classes 0 0 0 0 0 3 0 0\n"))
      × (watch_said sixteen (replicate 16 1) (0 ∷ 0 ∷ 0 ∷ []) ≡ text (bytes "classes 16 0 0 0 0 0 0 0\n"))
  -- no line is longer than that
  pub longest : (answered (watch_said sixteen (replicate 16 1) (0 ∷ 0 ∷ 0 ∷ [])) (replicate 24 46) ≡ Refused 10 25)
      × (answered (watch_said sixteen (replicate 16 1) (0 ∷ 0 ∷ 0 ∷ [])) (replicate 25 46) ≡ Done 25)
  -- a list too short, too long, and none: 13 at its own length, also where a class is above 7
  pub wrong_length : (card_at 0 0 1 (0 ∷ 1 ∷ []) ≡ refused 13 2)
      × (card_at 0 0 1 (0 ∷ 1 ∷ 2 ∷ 3 ∷ []) ≡ refused 13 4)
      × (card_at 0 0 1 [] ≡ refused 13 0)
      × (card_at 0 0 1 (8 ∷ 8 ∷ []) ≡ refused 13 2)
  -- a class 8: 13 at the first, also of a state that no seat is in
  pub class_8 : (card_at 0 0 1 (0 ∷ 8 ∷ 7 ∷ []) ≡ refused 13 1)
      × (card_at 0 0 1 (7 ∷ 7 ∷ 8 ∷ []) ≡ refused 13 2)
      × (card_at 0 0 1 (0 ∷ 9 ∷ 255 ∷ []) ≡ refused 13 1)
  -- the card before the seats, 8 before 9, 9 before 13
  pub order : (watch_said (bytes "module") [] [] ≡ refused 3 0)
      × (watch_said (text_a probabilistic) (9 ∷ []) [] ≡ refused 8 0)
      × (card_at 0 3 1 (0 ∷ 1 ∷ []) ≡ refused 9 1)
      × (card_at 0 0 3 (8 ∷ 1 ∷ 2 ∷ []) ≡ refused 9 2)
  -- 13 before 10; and a room of the line's length, of a byte less and of a byte more
  pub room : (answered (card_at 0 0 1 (8 ∷ 1 ∷ 2 ∷ [])) [] ≡ Refused 13 0)
      × (answered (card_at 0 0 1 (0 ∷ 1 ∷ 2 ∷ [])) (replicate 23 46) ≡ Refused 10 24)
      × (room_after (card_at 0 0 1 (0 ∷ 1 ∷ 2 ∷ [])) (replicate 23 46) ≡ replicate 23 46)
      × (answered (card_at 0 0 1 (0 ∷ 1 ∷ 2 ∷ [])) (replicate 24 46) ≡ Done 24)
      × (room_after (card_at 0 0 1 (0 ∷ 1 ∷ 2 ∷ [])) (replicate 25 46) ≡ bytes "classes 2 1 0 0 0 0 0 0\n.")
