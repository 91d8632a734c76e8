-- The edges of document 02, 2026-01, as whole inputs and answers: a card's bytes, a question's and the seats. Assumes nothing.
use Rattle.std.specs.Prelude.{ℕ, zero, suc, ◌≡◌, Bool, true, false, List, [], ◌∷◌, ◌++◌}
use Prim.Native.String.{String}
use Rattle.card.specs.Text.{bytes}
use Rattle.card.specs.Card.{probabilistic}
use Rattle.entry.specs.Said.{Said, says, refused}
use Rattle.ask_said.specs.AskSaid.{ask_said}
use Rattle.edges.specs.Edges.{text_a}

-- three seats, states 0 to 2
abbrev pub card_a : List ℕ
card_a = text_a probabilistic

-- one seat, states 0 and 1
abbrev pub one_seat : List ℕ
one_seat = bytes "nondeterministic\nmodule process1\ns1 : [0..1] init 0;\n[] s1=0 -> 1:(s1'=1);\nendmodule\n"

-- asked of card A with its seats in states 0, 0 and 1, and of the seat in state a
abbrev pub at001 : String → Said Bool
at001 question = ask_said card_a (bytes question) (0 ∷ 0 ∷ 1 ∷ [])

abbrev pub seat_in : ℕ → String → Said Bool
seat_in a question = ask_said one_seat (bytes question) (a ∷ [])

-- so many groups, each with a sign behind it: two nodes each
abbrev pub groups_and : ℕ → List ℕ → List ℕ
groups_and zero last = last
groups_and (suc more) last = bytes "(s1=0) & " ++ groups_and more last

abbrev pub blanks : ℕ → List ℕ
blanks zero = []
blanks (suc more) = 32 ∷ blanks more

-- exactly one seat in state 1; and none in state 2
abbrev pub elected : List ℕ
elected = bytes "((s1=1 & s2!=1 & s3!=1) | (s2=1 & s1!=1 & s3!=1) | (s3=1 & s1!=1 & s2!=1))"

abbrev pub leader : List ℕ
leader = elected ++ bytes " & (s1!=2 & s2!=2 & s3!=2)"

-- exactly one seat in state 0; in state 2
abbrev pub one_zero : List ℕ
one_zero = bytes "((s1=0 & s2!=0 & s3!=0) | (s2=0 & s1!=0 & s3!=0) | (s3=0 & s1!=0 & s2!=0))"

abbrev pub one_two : List ℕ
one_two = bytes "((s1=2 & s2!=2 & s3!=2) | (s2=2 & s1!=2 & s3!=2) | (s3=2 & s1!=2 & s2!=2))"

pub record QuestionEdges : Type 0 where
  -- source 000's leader question, for three seats: one is in state 1 and none in state 2
  pub leader_elected : (ask_said card_a leader (0 ∷ 0 ∷ 1 ∷ []) ≡ says true)
      × (ask_said card_a leader (0 ∷ 1 ∷ 1 ∷ []) ≡ says false)
      × (ask_said card_a leader (0 ∷ 1 ∷ 2 ∷ []) ≡ says false)
  -- as it is printed there, with a bracket round all of it
  pub as_printed : (ask_said card_a (bytes "(" ++ (leader ++ bytes ")")) (0 ∷ 0 ∷ 1 ∷ []) ≡ says true)
      × (ask_said card_a (bytes "(" ++ (leader ++ bytes ")")) (0 ∷ 1 ∷ 2 ∷ []) ≡ says false)
  -- any seat, and all of them
  pub any_seat : (at001 "(s1=0 | s2=0 | s3=0)" ≡ says true)
      × (at001 "(s1=2 | s2=2 | s3=2)" ≡ says false)
      × (at001 "(s1=0 & s2=0 & s3=0)" ≡ says false)
      × (at001 "(s1!=2 & s2!=2 & s3!=2)" ≡ says true)
      × (at001 "(s1!=0 | s2!=0 | s3!=0)" ≡ says true)
  -- `&` binds before `|`, without brackets too: yes or no and no, no and no or yes
  pub binding : (at001 "(s1!=2 & s2!=2 & s3!=2) | (s1=0 & s2=0 & s3=0) & (s1=2 | s2=2 | s3=2)" ≡ says true)
      × (at001 "((s1!=2 & s2!=2 & s3!=2) | (s1=0 & s2=0 & s3=0)) & (s1=2 | s2=2 | s3=2)" ≡ says false)
      × (at001 "(s1=2 | s2=2 | s3=2) & (s1=0 & s2=0 & s3=0) | (s1!=2 & s2!=2 & s3!=2)" ≡ says true)
      × (at001 "(s1=2 | s2=2 | s3=2) & ((s1=0 & s2=0 & s3=0) | (s1!=2 & s2!=2 & s3!=2))" ≡ says false)
  -- the exactly-one alone, with d=1; its later terms begin with their own seat
  pub exactly_one : (ask_said card_a elected (0 ∷ 0 ∷ 1 ∷ []) ≡ says true)
      × (ask_said card_a elected (0 ∷ 1 ∷ 1 ∷ []) ≡ says false)
      × (ask_said card_a elected (0 ∷ 1 ∷ 2 ∷ []) ≡ says true)
      × (ask_said card_a elected (0 ∷ 0 ∷ 2 ∷ []) ≡ says false)
  -- with d=0 and with d=2
  pub other_states : (ask_said card_a one_zero (0 ∷ 1 ∷ 2 ∷ []) ≡ says true)
      × (ask_said card_a one_zero (0 ∷ 0 ∷ 1 ∷ []) ≡ says false)
      × (ask_said card_a one_two (0 ∷ 1 ∷ 2 ∷ []) ≡ says true)
      × (ask_said card_a one_two (0 ∷ 0 ∷ 1 ∷ []) ≡ says false)
  -- literals of one relation start none: in two brackets they are an expression
  pub one_relation : (at001 "((s1!=2 & s2!=2 & s3!=2))" ≡ says true)
      × (at001 "((s1=0 & s2=0 & s3=0))" ≡ says false)
  -- literals stand in any order, and blanks between marks do not count
  pub any_order : (at001 "((s3!=1 & s1=1 & s2!=1) | (s1!=1 & s2=1 & s3!=1) | (s2!=1 & s1!=1 & s3=1))" ≡ says true)
      × (at001 "((s3!=1&s1=1&s2!=1)|(s1!=1&s2=1&s3!=1)|(s2!=1&s1!=1&s3=1))" ≡ says true)
  -- with one seat it is the single literal; in two brackets that is an expression; with both relations it is none that is as said
  pub one_seat_holds : (seat_in 1 "(s1=1)" ≡ says true)
      × (seat_in 0 "(s1=1)" ≡ says false)
      × (seat_in 1 "((s1=1))" ≡ says true)
      × (seat_in 1 "((s1=1 & s1!=1))" ≡ refused 26 0)
  -- terms in a wrong order, two seats in d in one term, a term missing, another d in a term, and within one, a literal twice: 26 at the outer bracket
  pub not_as_said : (at001 "((s2=1 & s1!=1 & s3!=1) | (s1=1 & s2!=1 & s3!=1) | (s3=1 & s1!=1 & s2!=1))" ≡ refused 26 0)
      × (at001 "((s1=1 & s2=1 & s3!=1) | (s2=1 & s1!=1 & s3!=1) | (s3=1 & s1!=1 & s2!=1))" ≡ refused 26 0)
      × (at001 "((s1=1 & s2!=1 & s3!=1) | (s2=1 & s1!=1 & s3!=1))" ≡ refused 26 0)
      × (at001 "((s1=1 & s2!=1 & s3!=1) | (s2=1 & s1!=1 & s3!=1) | (s3=2 & s1!=2 & s2!=2))" ≡ refused 26 0)
      × (at001 "((s1=1 & s2!=1 & s3!=2) | (s2=1 & s1!=1 & s3!=1) | (s3=1 & s1!=1 & s2!=1))" ≡ refused 26 0)
      × (at001 "!((s1=1 & s2!=1 & s3!=1 & s3!=1) | (s2=1 & s1!=1 & s3!=1) | (s3=1 & s1!=1 & s2!=1))" ≡ refused 26 1)
  -- d above k: 25 at the first d, of an exactly-one and of a group
  pub above_top_holds : (at001 "((s1=3 & s2!=3 & s3!=3) | (s2=3 & s1!=3 & s3!=3) | (s3=3 & s1!=3 & s2!=3))" ≡ refused 25 5)
      × (at001 "(s1=3 & s2=3 & s3=3)" ≡ refused 25 4)
  -- an "others" group, and one that is not symmetric, also in brackets: 26 at its bracket
  pub others_named : (at001 "(s2=1 & s3=1)" ≡ refused 26 0)
      × (at001 "((s2=1 & s3=1))" ≡ refused 26 1)
      × (at001 "((s1=0 & s2=0 & s3=1))" ≡ refused 26 1)
      × (at001 "((s1=0 | s2!=0 | s3!=0))" ≡ refused 26 1)
  -- once an exactly-one has started only one fits: 23 at the first mark that does not
  pub only_one_fits : (at001 "((s1=0 & s2!=0 & s3!=0) & (s1=0 & s2=0 & s3=0))" ≡ refused 23 24)
      × (at001 "((s1=0 & s2!=0 & s3!=0) | s1=0)" ≡ refused 23 26)
      × (at001 "((s1=0 & s2!=0 & s3!=0))" ≡ refused 26 0)
      × (at001 "((s1=0 & s2!=0" ≡ refused 23 14)
  -- no mark, and one behind the end
  pub nothing_asked : (at001 "" ≡ refused 23 0)
      × (at001 "  // no more" ≡ refused 23 12)
      × (at001 "(s1=0 & s2=0 & s3=0))" ≡ refused 23 20)
  -- an exactly-one adds no depth: eight brackets round it, and a ninth; and where the marks end, so that none starts
  pub depth : (at001 "((((((((((s1=1 & s2!=1 & s3!=1) | (s2=1 & s1!=1 & s3!=1) | (s3=1 & s1!=1 & s2!=1))))))))))" ≡ says true)
      × (at001 "(((((((((((s1=1 & s2!=1 & s3!=1) | (s2=1 & s1!=1 & s3!=1) | (s3=1 & s1!=1 & s2!=1)))))))))))" ≡ refused 24 8)
      × (at001 "((((((((((s1=0 & s2!=0" ≡ refused 24 8)
      × (at001 "!!!!!!!!((s1=1 & s2!=1 & s3!=1) | (s2=1 & s1!=1 & s3!=1) | (s3=1 & s1!=1 & s2!=1))" ≡ says true)
      × (at001 "!!!!!!!!!((s1=1 & s2!=1 & s3!=1) | (s2=1 & s1!=1 & s3!=1) | (s3=1 & s1!=1 & s2!=1))" ≡ refused 24 8)
  -- it is one node, counted at its outer bracket; a group in two brackets is counted at its own
  pub nodes : (ask_said one_seat (groups_and 16 (bytes "((s1=0 & s1!=0))")) (0 ∷ []) ≡ refused 24 144)
      × (ask_said one_seat (groups_and 16 (bytes "((s1=0))")) (0 ∷ []) ≡ refused 24 145)
      × (ask_said one_seat (groups_and 15 (bytes "((s1=0 & s1!=0))")) (0 ∷ []) ≡ refused 26 135)
  -- 16,384 bytes, and one more
  pub bytes_most : (ask_said card_a (blanks 16384) (0 ∷ 0 ∷ 1 ∷ []) ≡ refused 23 16384)
      × (ask_said card_a (blanks 16385) (0 ∷ 0 ∷ 1 ∷ []) ≡ refused 21 0)
  -- a number of six digits, and of seven ("2026-06")
  pub six_digits : (at001 "(s1=123456 | s2=123456 | s3=123456)" ≡ refused 25 4) × (at001 "(s1=1234567 | s2=0 | s3=0)" ≡ refused 22 4)
  -- a mark outside the rules goes before one out of shape that stands earlier; in a comment there is none
  pub outside : (at001 ") ?" ≡ refused 22 2)
      × (at001 "(s1=0 & s2=0 & s3=007)" ≡ refused 22 18)
      × (at001 "// ? 007\n(s1!=2 & s2!=2 & s3!=2) // ?" ≡ says true)
  -- 25 and 26 by place; 23 before them; a question before 8; then 8, then 9; and the card before all
  pub order : (at001 "(s2=1 & s3=1) & (s1=3 & s2=3 & s3=3)" ≡ refused 26 0)
      × (at001 "(s1=3 & s2=3 & s3=3) & (s2=1 & s3=1)" ≡ refused 25 4)
      × (at001 "(s1=3 & s2=3 & s3=3) &" ≡ refused 23 22)
      × (ask_said card_a (bytes ")") [] ≡ refused 23 0)
      × (ask_said card_a (bytes "(s2=1 & s3=1)") (0 ∷ 0 ∷ []) ≡ refused 26 0)
      × (ask_said card_a (bytes "(s1=3 & s2=3 & s3=3)") (9 ∷ []) ≡ refused 25 4)
      × (ask_said card_a elected (0 ∷ 0 ∷ []) ≡ refused 8 0)
      × (ask_said card_a elected (0 ∷ 0 ∷ 3 ∷ []) ≡ refused 9 2)
      × (ask_said (bytes "module") (bytes ")") [] ≡ refused 3 0)
