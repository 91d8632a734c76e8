-- The edges of document 02, 2026-08, as whole inputs and answers: a card's bytes, a question's, the seats, the number of steps and the rows; and the exact chances
-- beside them. Assumes nothing.
use Rattle.std.specs.Prelude.{ℕ, ◌*◌, ◌≡◌, List, [], ◌∷◌, ◌++◌, eqb, ltb, take}
use Prim.Native.String.{String}
use Rattle.card.specs.Text.{bytes}
use Rattle.card.specs.Card.{Mode, nondeterministic, probabilistic}
use Rattle.reading.specs.Reading.{taken, read_of}
use Rattle.meaning.specs.Position.{position}
use Rattle.meaning.specs.Sums.{upto}
use Rattle.meaning.specs.Reduced.{no_of}
use Rattle.meaning.specs.CardA.{card_a}
use Rattle.entry.specs.Said.{Said, says, refused, saying}
use Rattle.entry.specs.Contract.{Ends, Two, two}
use Rattle.evenings.specs.Rounds.{Aim, largest, smallest}
use Rattle.evenings.specs.Evenings.{count_table, exact, whole}
use Rattle.evenings.specs.Leader.{leader_card}
use Rattle.odds_said.specs.OddsSaid.{odds_said}
use Rattle.edges.specs.Edges.{text_a, modules_from}

-- source 000's leader election, as it is printed there but for its decimals, which are fractions
abbrev pub leader_text : List ℕ
leader_text =
    bytes "nondeterministic\nmodule process1\ns1 : [0..2] init 2;\n[] s1=2 -> 1:(s1'=0);\n"
    ++ bytes "[] s1=0 & (s1!=2 & s2!=2 & s3!=2) & (s1=0 & s2=0 & s3=0) ->\n1/2:(s1'=0) + 1/2:(s1'=1);\n"
    ++ bytes "[] s1=0 & (s1!=2 & s2!=2 & s3!=2) & (s2=1 | s3=1) -> 1:(s1'=0);\n"
    ++ bytes "[] s1=1 & (s1!=2 & s2!=2 & s3!=2) & (s2=1 | s3=1) ->\n1/2:(s1'=0) + 1/2:(s1'=1);\n"
    ++ bytes "[] s1=1 & (s1!=2 & s2!=2 & s3!=2) & (s2=0 & s3=0) -> 1:(s1'=1);\nendmodule\n"
    ++ bytes "module process2 = process1 [ s1 = s2, s2 = s1 ] endmodule\nmodule process3 = process1 [ s1 = s3, s3 = s1 ] endmodule\n"

-- five seats and eight states: 792 vectors
abbrev pub wide_text : List ℕ
wide_text =
    bytes "nondeterministic\nmodule process1\ns1 : [0..7] init 0;\n[] s1=0 -> 1:(s1'=1);\nendmodule\n"
    ++ bytes "module process2 = process1 [s1=s2, s2=s1] endmodule\nmodule process3 = process1 [s1=s3, s3=s1] endmodule\n"
    ++ bytes "module process4 = process1 [s1=s4, s4=s1] endmodule\nmodule process5 = process1 [s1=s5, s5=s1] endmodule\n"

-- some seat is in state 2; exactly one is in state 1
abbrev pub some_two : List ℕ
some_two = bytes "(s1=2 | s2=2 | s3=2)"

abbrev pub one_leader : List ℕ
one_leader = bytes "((s1=1 & s2!=1 & s3!=1) | (s2=1 & s1!=1 & s3!=1) | (s3=1 & s1!=1 & s2!=1))"

-- the value answered; with rows of the right length
abbrev pub said_value : Said (Ends ℕ (Two (List ℕ))) → Said ℕ
said_value said = saying (λ (e : Ends ℕ (Two (List ℕ))). e.value) said

abbrev pub answer : List ℕ → List ℕ → List ℕ → ℕ → Aim → Said ℕ
answer card question seats m aim = said_value (odds_said card question seats m aim 512 512)

abbrev pub at_a : Mode → Aim → ℕ → Said ℕ
at_a mode aim m = answer (text_a mode) some_two (0 ∷ 0 ∷ 1 ∷ []) m aim

abbrev pub electing : Aim → ℕ → Said ℕ
electing aim m = answer leader_text one_leader (0 ∷ 1 ∷ 1 ∷ []) m aim

-- on the wide card, with rows of these lengths
abbrev pub wide : List ℕ → List ℕ → ℕ → ℕ → ℕ → Said ℕ
wide question seats m long long₁ = said_value (odds_said wide_text question seats m largest long long₁)

abbrev pub not_all_zero : List ℕ
not_all_zero = bytes "!(s1=0 & s2=0 & s3=0 & s4=0 & s5=0)"

-- what both rows begin with
abbrev pub Rows : Type 0
Rows = Two (List ℕ)

abbrev pub begun : ℕ → Said (Ends ℕ (Two (List ℕ))) → Rows
begun n (says e) = two (take n e.memory.first) (take n e.memory.second)
begun n (refused number place) = two [] []

abbrev pub rows_after : ℕ → List ℕ → List ℕ → List ℕ → ℕ → Rows
rows_after n card question seats m = begun n (odds_said card question seats m largest 512 512)

-- ---- cards of one seat: statements behind a mode and the top state

abbrev pub alone : Mode → String → String → List ℕ
alone probabilistic top statements = bytes "probabilistic\nmodule process1\ns1 : [0.." ++ bytes top ++ bytes "] init 0;\n" ++ bytes statements ++ bytes "endmodule\n"
alone nondeterministic top statements = bytes "nondeterministic\nmodule process1\ns1 : [0.." ++ bytes top ++ bytes "] init 0;\n" ++ bytes statements ++ bytes "endmodule\n"

-- two thirds of three quarters are a half, which two roundings miss
abbrev pub twice : List ℕ
twice = alone probabilistic "3" "[] s1=0 -> 3/4:(s1'=1) + 1/4:(s1'=3);\n[] s1=1 -> 2/3:(s1'=2) + 1/3:(s1'=3);\n"

-- three thirds to one state; and four statements, the second of which leads there most likely and the third least
abbrev pub thirds : Mode → List ℕ
thirds mode = alone mode "1" "[] s1=0 -> 1/3:(s1'=1) + 1/3:(s1'=1) + 1/3:(s1'=1);\n"

abbrev pub four : Mode → List ℕ
four mode = alone mode "1" "[] s1=0 -> 1/3:(s1'=1) + 2/3:(s1'=0);\n[] s1=0 -> 5/6:(s1'=1) + 1/6:(s1'=0);\n[] s1=0 -> 1/6:(s1'=1) + 5/6:(s1'=0);\n[] s1=0 -> 2/3:(s1'=1) + 1/3:(s1'=0);\n"

abbrev pub eleventh : List ℕ
eleventh = alone probabilistic "1" "[] s1=0 -> 1/11:(s1'=1) + 10/11:(s1'=0);\n"

abbrev pub leaving : List ℕ
leaving = alone probabilistic "1" "[] s1=0 -> 1:(s1'=1);\n"

-- in state 0 at first; is the seat in state 1?
abbrev pub to_one : List ℕ → ℕ → Aim → Said ℕ
to_one card m aim = answer card (bytes "(s1=1)") (0 ∷ []) m aim

-- with rows of these lengths
abbrev pub lengths_of : ℕ → ℕ → Said ℕ
lengths_of long long₁ = said_value (odds_said twice (bytes "(s1=2)") (0 ∷ []) 2 largest long long₁)

-- ---- how many vectors

-- a card of so many seats, and whether any is in state 1
abbrev pub table : String → ℕ → List ℕ
table top more = alone nondeterministic top "[] s1=0 -> 1:(s1'=1);\n" ++ modules_from 2 more

abbrev pub any_one : List ℕ
any_one = bytes "(s1=1|s2=1|s3=1|s4=1|s5=1|s6=1|s7=1|s8=1)"

abbrev pub zero_seats : ℕ → List ℕ
zero_seats n = upto n (λ i. 0)

-- ---- an exact chance, as a fraction: b times the numerator is a times the denominator

abbrev pub ExactA : Mode → Aim → ℕ → ℕ → ℕ → Type 0
ExactA mode aim m a b =
    b * exact (card_a mode) aim (count_table (card_a mode) (λ v. ltb 0 (no_of v.each 2))) m (position (2 ∷ 1 ∷ 0 ∷ []) 0) ≡ a * whole (card_a mode) m

abbrev pub ExactLeader : Aim → ℕ → ℕ → ℕ → Type 0
ExactLeader aim m a b = b * exact leader_card aim (count_table leader_card (λ v. eqb (no_of v.each 1) 1)) m (position (1 ∷ 2 ∷ 0 ∷ []) 0) ≡ a * whole leader_card m

pub record OddsEdges : Type 0 where
  -- card A at 001: some seat in state 2
  pub card_a_holds : (read_of (text_a probabilistic) ≡ taken (card_a probabilistic)) × (at_a probabilistic largest 0 ≡ says 0) × (at_a probabilistic largest 1 ≡ says 416666) × (at_a probabilistic largest 2 ≡ says 604166)
  pub card_a_exact : ExactA probabilistic largest 0 0 1 × ExactA probabilistic largest 1 5 12 × ExactA probabilistic largest 2 29 48
  -- the same card as nondeterministic, both aims
  pub chosen : (at_a nondeterministic largest 1 ≡ says 500000) × (at_a nondeterministic largest 2 ≡ says 625000) × (at_a nondeterministic smallest 1 ≡ says 250000) × (at_a nondeterministic smallest 2 ≡ says 437500)
  pub chosen_exact : ExactA nondeterministic largest 2 5 8 × ExactA nondeterministic smallest 2 7 16
  -- the leader election at 011: exactly one leader
  pub leader : (read_of leader_text ≡ taken leader_card) × (electing largest 1 ≡ says 500000) × (electing largest 2 ≡ says 750000) × (electing largest 3 ≡ says 875000)
      × (electing smallest 1 ≡ says 0) × (electing smallest 2 ≡ says 0) × (electing smallest 3 ≡ says 0)
  pub leader_exact : ExactLeader largest 1 1 2 × ExactLeader largest 2 3 4 × ExactLeader largest 3 7 8 × ExactLeader smallest 3 0 1
  -- rounded down at each step, not at the end; and of all branches together
  pub each_step : (answer twice (bytes "(s1=2)") (0 ∷ []) 2 largest ≡ says 499999) × (answer twice (bytes "(s1=2)") (0 ∷ []) 3 largest ≡ says 499999)
  pub together : (to_one (thirds probabilistic) 1 largest ≡ says 1000000) × (to_one (thirds nondeterministic) 1 smallest ≡ says 1000000)
  -- the largest is neither the first nor the last choice, and neither is the smallest; drawn, the aim makes no difference
  pub aims : (to_one (four nondeterministic) 1 largest ≡ says 833333) × (to_one (four nondeterministic) 2 largest ≡ says 972222)
      × (to_one (four nondeterministic) 1 smallest ≡ says 166666) × (to_one (four nondeterministic) 2 smallest ≡ says 305555)
      × (to_one (four probabilistic) 1 largest ≡ says 500000) × (to_one (four probabilistic) 1 smallest ≡ says 500000) × (to_one (four probabilistic) 2 smallest ≡ says 750000)
  -- a question that no longer holds has held; a stuck seat stays as it is
  pub held_once : (answer leaving (bytes "(s1=0)") (0 ∷ []) 32 largest ≡ says 1000000) × (answer leaving (bytes "(s1=0)") (1 ∷ []) 32 largest ≡ says 0)
  -- both rows after 0, 1 and 2 steps, vector by vector, and a zero behind them; of card A, from no_0 = 0 on
  pub rows : (rows_after 5 twice (bytes "(s1=2)") (0 ∷ []) 0 ≡ two (0 ∷ 1000000 ∷ 0 ∷ 0 ∷ 0 ∷ []) (0 ∷ 0 ∷ 0 ∷ 0 ∷ 0 ∷ []))
      × (rows_after 5 twice (bytes "(s1=2)") (0 ∷ []) 1 ≡ two (0 ∷ 1000000 ∷ 666666 ∷ 0 ∷ 0 ∷ []) (0 ∷ 1000000 ∷ 0 ∷ 0 ∷ 0 ∷ []))
      × (rows_after 5 twice (bytes "(s1=2)") (0 ∷ []) 2 ≡ two (0 ∷ 1000000 ∷ 666666 ∷ 499999 ∷ 0 ∷ []) (0 ∷ 1000000 ∷ 666666 ∷ 0 ∷ 0 ∷ []))
      × (rows_after 11 (text_a probabilistic) some_two (0 ∷ 0 ∷ 1 ∷ []) 1
      ≡ two (1000000 ∷ 1000000 ∷ 1000000 ∷ 250000 ∷ 1000000 ∷ 1000000 ∷ 250000 ∷ 1000000 ∷ 416666 ∷ 500000 ∷ 0 ∷ [])
      (1000000 ∷ 1000000 ∷ 1000000 ∷ 0 ∷ 1000000 ∷ 1000000 ∷ 0 ∷ 1000000 ∷ 0 ∷ 0 ∷ 0 ∷ []))
  -- 495 vectors are few enough, 560 are not
  pub vectors_few : answer (table "4" 7) any_one (zero_seats 8) 0 largest ≡ says 0
  pub vectors_many : answer (table "3" 12) (bytes "!(s1=0&s2=0&s3=0&s4=0&s5=0&s6=0&s7=0&s8=0&s9=0&s10=0&s11=0&s12=0&s13=0)") (zero_seats 13) 0 largest ≡ refused 14 0
  -- 32 steps, and 33
  pub steps : (to_one eleventh 31 largest ≡ says 947897) × (to_one eleventh 32 largest ≡ says 952633) × (to_one eleventh 33 largest ≡ refused 15 0)
  -- each row has 512 numbers, not one more or less
  pub lengths : (lengths_of 512 512 ≡ says 499999) × (lengths_of 511 512 ≡ refused 16 0) × (lengths_of 513 512 ≡ refused 16 0) × (lengths_of 512 511 ≡ refused 16 0) × (lengths_of 512 513 ≡ refused 16 0)
  -- the card, the question, 8, 9, 14, 15, 16, in this order
  pub order : (said_value (odds_said (bytes "module") (bytes ")") [] 33 largest 0 0) ≡ refused 3 0)
      × (wide (bytes "(s2=0 & s3=0 & s4=0 & s5=0)") [] 33 0 0 ≡ refused 26 0)
      × (wide not_all_zero [] 33 0 0 ≡ refused 8 0)
      × (wide not_all_zero (0 ∷ 8 ∷ 0 ∷ 0 ∷ 0 ∷ []) 33 0 0 ≡ refused 9 1)
      × (wide not_all_zero (0 ∷ 7 ∷ 0 ∷ 0 ∷ 0 ∷ []) 33 0 0 ≡ refused 14 0)
      × (said_value (odds_said twice (bytes "(s1=2)") (0 ∷ []) 33 largest 0 0) ≡ refused 15 0)
      × (said_value (odds_said twice (bytes "(s1=2)") (0 ∷ []) 32 largest 0 0) ≡ refused 16 0)
