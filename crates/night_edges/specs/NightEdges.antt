-- The edges of document 02, 2026-10, as whole inputs and answers: a card's bytes, and where they are due a question, the seats with the shared number
-- behind them, and a number of steps. Assumes nothing.
use Rattle.std.specs.Prelude.{ℕ, zero, suc, ◌≡◌, true, false, List, [], ◌∷◌, ◌++◌, take}
use Prim.Native.String.{String}
use Rattle.std.proofs.Math.Option.{Option, none, some}
use Rattle.card.specs.Text.{bytes}
use Rattle.card.specs.Card.{Mode, nondeterministic, probabilistic, is, isnt, shared_is, atom, neg, Branch, Card}
use Rattle.reading.specs.Reading.{taken, refused as turned, read_of}
use Rattle.entry.specs.Said.{Said, says, refused, saying}
use Rattle.entry.specs.Contract.{Ends, Two}
use Rattle.room.specs.Answer.{Text}
use Rattle.texts_said.specs.WriteSaid.{write_said}
use Rattle.texts_said.specs.ReduceSaid.{reduce_said}
use Rattle.panel_said.specs.PanelSaid.{panel_said}
use Rattle.ask_said.specs.AskSaid.{ask_said}
use Rattle.move_said.specs.MoveSaid.{move_said}
use Rattle.watch_said.specs.WatchSaid.{watch_said}
use Rattle.evenings.specs.Rounds.{Aim, largest, smallest}
use Rattle.odds_said.specs.OddsSaid.{odds_said}
use Rattle.edges.specs.Edges.{text_a, modules_from}

-- ---- a card with three times of day

abbrev pub behind_mode : List ℕ
behind_mode =
    bytes "\nglobal g : [0..2] init 1;\nmodule process1\ns1 : [0..1] init 0;\n"
    ++ bytes "[] s1=0 & (g=1) -> 1/2:(s1'=1) & (g'=2) + 1/4:(s1'=1) + 1/4:(s1'=0) & (g'=0);\n[] s1=1 & !(g!=2) -> 1:(s1'=1);\n"
    ++ bytes "endmodule\nmodule process2 = process1 [s1=s2, s2=s1] endmodule\n"

abbrev pub day_text : List ℕ
day_text = bytes "probabilistic" ++ behind_mode

abbrev pub free_text : List ℕ
free_text = bytes "nondeterministic" ++ behind_mode

-- the same, with weights that are 1 or 0
abbrev pub plain_text : List ℕ
plain_text =
    bytes "nondeterministic\nglobal g : [0..2] init 1;\nmodule process1\ns1 : [0..1] init 0;\n"
    ++ bytes "[] s1=0 & (g=1) -> 1:(s1'=1) & (g'=2) + 0:(s1'=1) + 0:(s1'=0) & (g'=0);\n[] s1=1 & !(g!=2) -> 1:(s1'=1);\n"
    ++ bytes "endmodule\nmodule process2 = process1 [s1=s2, s2=s1] endmodule\n"

abbrev pub branch : ℕ → ℕ → Option ℕ → Branch
branch units end sets = record { units = units; end = end; sets = sets }

abbrev pub day_card : Mode → Card
day_card mode = record {
  mode = mode;
  shared = some (record { most = 2; start = 1 });
  n = 2;
  k = 1;
  l = 0;
  statements =
      record { own = 0; guard = some (atom (shared_is is 1)); branches = branch 138600 1 (some 2) ∷ branch 69300 1 none ∷ branch 69300 0 (some 0) ∷ [] }
      ∷ record { own = 1; guard = some (neg (atom (shared_is isnt 2))); branches = branch 277200 1 none ∷ [] }
      ∷ [];
}

-- what its panel prints, with the seats in states a and b and the shared number g
abbrev pub at : ℕ → ℕ → ℕ → Text
at a b g = panel_said day_text (a ∷ b ∷ g ∷ [])

-- ---- cards of one statement

-- of one seat: with a declaration, or other marks, behind the mode
abbrev pub declaring : String → List ℕ
declaring t = bytes "probabilistic\n" ++ (bytes t ++ bytes "\nmodule process1\ns1 : [0..1] init 0;\n[] s1=0 -> 1:(s1'=0);\nendmodule\n")

-- with what stands behind its local state
abbrev pub stating : String → List ℕ
stating t = bytes "probabilistic\nglobal g : [0..2] init 1;\nmodule process1\ns1 : [0..1] init 0;\n[] s1=0" ++ (bytes t ++ bytes ";\nendmodule\n")

abbrev pub undeclared : String → List ℕ
undeclared t = bytes "probabilistic\nmodule process1\ns1 : [0..1] init 0;\n[] s1=0" ++ (bytes t ++ bytes ";\nendmodule\n")

abbrev pub one_seat : ℕ → ℕ → Card
one_seat most start = record {
  mode = probabilistic;
  shared = some (record { most = most; start = start });
  n = 1;
  k = 1;
  l = 0;
  statements = record { own = 0; guard = none; branches = branch 277200 0 none ∷ [] } ∷ [];
}

-- so many tests, each with a sign behind it: two nodes each
abbrev pub tests : ℕ → List ℕ → List ℕ
tests zero last = last
tests (suc more) last = bytes "(g=1) & " ++ tests more last

abbrev pub testing : List ℕ → List ℕ
testing guard = bytes "probabilistic\nglobal g : [0..2] init 1;\nmodule process1\ns1 : [0..1] init 0;\n[] s1=0 & " ++ (guard ++ bytes " -> 1:(s1'=1);\nendmodule\n")

-- ---- cards of two and three seats that set it in several ways

-- what a seat in state 0 may do
abbrev pub setting : String → List ℕ
setting t =
    bytes "probabilistic\nglobal g : [0..2] init 1;\nmodule process1\ns1 : [0..1] init 0;\n[] s1=0 -> "
    ++ (bytes t ++ bytes ";\nendmodule\nmodule process2 = process1 [s1=s2, s2=s1] endmodule\n")

abbrev pub ordered : List ℕ
ordered =
    bytes "probabilistic\nglobal g : [0..2] init 1;\nmodule process1\ns1 : [0..2] init 0;\n"
    ++ bytes "[] s1=0 -> 1/4:(s1'=1) & (g'=2) + 1/4:(s1'=2) & (g'=0) + 1/4:(s1'=2) & (g'=1) + 1/4:(s1'=0) & (g'=2);\n"
    ++ bytes "[] s1=1 -> 1/2:(s1'=0) & (g'=1) + 1/4:(s1'=2) & (g'=0) + 1/4:(s1'=1) & (g'=0);\nendmodule\n"
    ++ bytes "module process2 = process1 [s1=s2, s2=s1] endmodule\nmodule process3 = process1 [s1=s3, s3=s1] endmodule\n"

-- what the odds answer, and the first numbers of their first row
abbrev pub chance : List ℕ → String → ℕ → Aim → ℕ → Said ℕ
chance card question g aim m = saying (λ (e : Ends ℕ (Two (List ℕ))). e.value) (odds_said card (bytes question) (0 ∷ 0 ∷ g ∷ []) m aim 512 512)

abbrev pub first_row : List ℕ → String → ℕ → Aim → ℕ → Said (List ℕ)
first_row card question g aim m = saying (λ (e : Ends ℕ (Two (List ℕ))). take 9 e.memory.first) (odds_said card (bytes question) (0 ∷ 0 ∷ g ∷ []) m aim 512 512)

-- ---- the edges

pub record ReadingEdges : Type 0 where
  -- declaration, tests and updates mean what stands there
  pub card : (read_of day_text ≡ taken (day_card probabilistic)) × (read_of free_text ≡ taken (day_card nondeterministic))
  -- m is 7 at the most, else 4 at m; v is m at the most, else 5 at v; only 0 stands before the dots
  pub range : (read_of (declaring "global g : [0..7] init 7;") ≡ taken (one_seat 7 7))
      × (read_of (declaring "global g : [0..0] init 0;") ≡ taken (one_seat 0 0))
      × (read_of (declaring "global g : [0..8] init 0;") ≡ turned 4 29)
      × (read_of (declaring "global g : [0..7] init 8;") ≡ turned 5 37)
      × (read_of (declaring "global g : [1..2] init 1;") ≡ turned 3 26)
  -- it stands straight behind the mode, once, and its name is g
  pub declaration : (read_of (declaring "global h : [0..1] init 0;") ≡ turned 3 21)
      × (read_of (declaring "global s1 : [0..1] init 0;") ≡ turned 3 21)
      × (read_of (declaring "global g : [0..1] init 0;\nglobal g : [0..1] init 0;") ≡ turned 3 40)
      × (read_of (bytes "global g : [0..1] init 0;\nprobabilistic") ≡ turned 3 0)
  -- a test is one node without depth, and its value m at the most: else 5
  pub test_value : (read_of (stating " & (g=2) -> 1:(s1'=0)") ≡ taken (record {
    mode = probabilistic;
    shared = some (record { most = 2; start = 1 });
    n = 1;
    k = 1;
    l = 0;
    statements = record { own = 0; guard = some (atom (shared_is is 2)); branches = branch 277200 0 none ∷ [] } ∷ [];
  }))
      × (read_of (stating " & (g!=3) -> 1:(s1'=0)") ≡ turned 5 90)
  pub depth : (read_of (testing (bytes "!!!!!!!!!(g=1)")) ≡ turned 4 94) × (read_of (testing (bytes "((((((((((g=1))))))))))")) ≡ turned 4 94)
  -- eight `!` around it are not too many, nor eight brackets around its own
  pub no_depth : (ask_said day_text (bytes "!!!!!!!!(g=1)") (0 ∷ 0 ∷ 1 ∷ []) ≡ says true)
      × (ask_said day_text (bytes "(((((((((g=1)))))))))") (0 ∷ 0 ∷ 1 ∷ []) ≡ says true)
      × (ask_said day_text (bytes "!!!!!!!!!(g=1)") (0 ∷ 0 ∷ 1 ∷ []) ≡ refused 24 8)
      × (panel_said (testing (bytes "!!!!!!!!(g=1)")) (0 ∷ 1 ∷ []) ≡ says (bytes "probabilistic\nseats 1 enabled 1\ncounts 1 0\nshared 1\nmove 0 1 277200 1\n"))
  pub nodes : read_of (testing (bytes "!!" ++ tests 15 (bytes "(g=1)"))) ≡ turned 4 208
  -- it stands alone in its bracket: no literal of a seat behind it, nor before it
  pub alone : (read_of (stating " & (g=1 & s1=0) -> 1:(s1'=0)") ≡ turned 3 91) × (read_of (stating " & (s1=0 & g=1) -> 1:(s1'=0)") ≡ turned 3 94)
  -- an update stands behind the seat's, once, and sets m at the most: else 5
  pub update : (read_of (stating " -> 1:(s1'=0) & (g'=3)") ≡ turned 5 103)
      × (read_of (stating " -> 1:(s1'=0) & (g'=2) & (g'=1)") ≡ turned 3 106)
      × (read_of (stating " -> 1:(g'=2) & (s1'=0)") ≡ turned 3 90)
  -- without a declaration g and its update fit nowhere
  pub undeclared_g : (read_of (undeclared " & (g=0) -> 1:(s1'=0)") ≡ turned 3 61) × (read_of (undeclared " -> 1:(s1'=0) & (g'=0)") ≡ turned 3 71)

pub record TextEdges : Type 0 where
  -- the written card is the card's own text, with the declaration behind the mode and the updates last
  pub written : write_said plain_text ≡ says plain_text
  pub blanks : write_said (stating " & ( g = 1 ) -> 1:(s1'=0)") ≡ says (stating " & (g=1) -> 1:(s1'=0)")
  -- in the reduced program `true` is left out where g is set
  pub reduced : reduce_said plain_text
      ≡ says (bytes "nondeterministic\nglobal g : [0..2] init 1;\nmodule generic_process\nno_0 : [0..2] init 2;\nno_1 : [0..2] init 0;\n[] (no_0>0) & (g=1) -> 1:(no_0'=no_0-1) & (no_1'=min(no_1+1,2)) & (g'=2) + 0:(no_0'=no_0-1) & (no_1'=min(no_1+1,2)) + 0:(g'=0);\n[] (no_1>0) & !(g!=2) -> 1:true;\nendmodule\n")
  -- an update to the value that g has stays in both
  pub kept : (write_said (setting "1:(s1'=0) & (g'=1)") ≡ says (setting "1:(s1'=0) & (g'=1)"))
      × (reduce_said (setting "1:(s1'=0) & (g'=1)")
      ≡ says (bytes "probabilistic\nglobal g : [0..2] init 1;\nmodule generic_process\nno_0 : [0..2] init 2;\nno_1 : [0..2] init 0;\n[] (no_0>0) -> 1:(g'=1);\n[] (no_0>1) -> 1:(g'=1);\nendmodule\n"))

pub record PanelEdges : Type 0 where
  -- at the time at which seats in state 0 may act
  pub acting : (at 0 0 1 ≡ says (bytes "probabilistic\nseats 2 enabled 2\ncounts 2 0\nshared 1\nstay 138600 0\nmove 0 1 138600 1\nmove 0 1 277200 2\n"))
      × (at 1 0 1 ≡ says (bytes "probabilistic\nseats 2 enabled 1\ncounts 1 1\nshared 1\nstay 69300 0\nmove 0 1 69300 1\nmove 0 1 138600 2\n"))
  -- stuck at another: the step's line ends in g too
  pub stuck : (at 0 0 0 ≡ says (bytes "probabilistic\nseats 2 enabled 1\ncounts 2 0\nshared 0\nstay 277200 0\n"))
      × (panel_said free_text (0 ∷ 0 ∷ 2 ∷ []) ≡ says (bytes "nondeterministic\nseats 2 enabled 1\ncounts 2 0\nshared 2\nchoice 0\nstay 277200 2\n"))
  -- a branch to the own state that sets g is a line of no change
  pub stays : panel_said (setting "1:(s1'=0) & (g'=2)") (0 ∷ 0 ∷ 1 ∷ []) ≡ says (bytes "probabilistic\nseats 2 enabled 2\ncounts 2 0\nshared 1\nstay 554400 2\n")
  -- one line for each new g, merged with those that leave it as it is
  pub each : panel_said (setting "1/8:(s1'=1) & (g'=2) + 1/8:(s1'=0) & (g'=2) + 1/4:(s1'=1) + 1/8:(s1'=1) & (g'=0) + 1/8:(s1'=0) & (g'=0) + 1/4:(s1'=0)") (0 ∷ 0 ∷ 1 ∷ [])
      ≡ says (bytes "probabilistic\nseats 2 enabled 2\ncounts 2 0\nshared 1\nstay 69300 0\nstay 138600 1\nstay 69300 2\nmove 0 1 69300 0\nmove 0 1 138600 1\nmove 0 1 69300 2\n")
  -- where g is what some branch sets, these are merged
  pub merged : panel_said (setting "1/8:(s1'=1) & (g'=2) + 1/8:(s1'=0) & (g'=2) + 1/4:(s1'=1) + 1/8:(s1'=1) & (g'=0) + 1/8:(s1'=0) & (g'=0) + 1/4:(s1'=0)") (0 ∷ 0 ∷ 2 ∷ [])
      ≡ says (bytes "probabilistic\nseats 2 enabled 2\ncounts 2 0\nshared 2\nstay 69300 0\nstay 207900 2\nmove 0 1 69300 0\nmove 0 1 207900 2\n")
  -- under a choice
  pub chosen : (panel_said free_text (0 ∷ 0 ∷ 1 ∷ []) ≡ says (bytes "nondeterministic\nseats 2 enabled 1\ncounts 2 0\nshared 1\nchoice 1\nstay 69300 0\nmove 0 1 69300 1\nmove 0 1 138600 2\n"))
      × (panel_said free_text (0 ∷ 1 ∷ 2 ∷ []) ≡ says (bytes "nondeterministic\nseats 2 enabled 1\ncounts 1 1\nshared 2\nchoice 2\nstay 277200 2\n"))
  -- a number of one value is one
  pub one_value : (panel_said (declaring "global g : [0..0] init 0;") (0 ∷ 0 ∷ []) ≡ says (bytes "probabilistic\nseats 1 enabled 1\ncounts 1 0\nshared 0\nstay 277200 0\n"))
      × (panel_said (declaring "global g : [0..0] init 0;") (0 ∷ []) ≡ refused 8 0)
  -- `!=` holds below and above
  pub other : (panel_said (stating " & (g!=1) -> 1:(s1'=1)") (0 ∷ 2 ∷ []) ≡ says (bytes "probabilistic\nseats 1 enabled 1\ncounts 1 0\nshared 2\nmove 0 1 277200 2\n"))
      × (panel_said (stating " & (g!=1) -> 1:(s1'=1)") (0 ∷ 0 ∷ []) ≡ says (bytes "probabilistic\nseats 1 enabled 1\ncounts 1 0\nshared 0\nmove 0 1 277200 0\n"))
  -- seats in another order
  pub reordered : at 0 1 1 ≡ at 1 0 1
  -- stays by new g first, then moves by old, by new, by new g
  pub order : panel_said ordered (0 ∷ 1 ∷ 0 ∷ 1 ∷ [])
      ≡ says (bytes "probabilistic\nseats 3 enabled 3\ncounts 2 1 0\nshared 1\nstay 69300 0\nstay 138600 2\nmove 0 1 138600 2\nmove 0 2 138600 0\nmove 0 2 138600 1\nmove 1 0 138600 1\nmove 1 2 69300 0\n")
  -- 8 asks for one byte more than seats; 9 is the first seat's, then g's at place n
  pub seats : (panel_said day_text (0 ∷ 0 ∷ []) ≡ refused 8 0) × (panel_said day_text (0 ∷ 0 ∷ 1 ∷ 1 ∷ []) ≡ refused 8 0)
  pub above : (panel_said day_text (0 ∷ 0 ∷ 3 ∷ []) ≡ refused 9 2) × (panel_said day_text (0 ∷ 2 ∷ 3 ∷ []) ≡ refused 9 1)
  -- a card without a declaration is shown as before, and takes no byte more
  pub without : (panel_said (text_a probabilistic) (0 ∷ 1 ∷ 2 ∷ []) ≡ says (bytes "probabilistic\nseats 3 enabled 1\ncounts 1 1 1\nstay 277200\n"))
      × (panel_said (text_a probabilistic) (0 ∷ 1 ∷ 2 ∷ 0 ∷ []) ≡ refused 8 0)

-- the odds that g is 1 within no step, on a card of one seat more than so many, three states and eight values
abbrev pub many_seats : ℕ → List ℕ → Said ℕ
many_seats more seats =
    saying (λ (e : Ends ℕ (Two (List ℕ))). e.value)
    (odds_said (bytes "probabilistic\nglobal g : [0..7] init 0;\nmodule process1\ns1 : [0..2] init 0;\n[] s1=0 -> 1:(s1'=1);\nendmodule\n" ++ modules_from 2 more) (bytes "(g=1)") seats 0 largest 512 512)

pub record OtherEdges : Type 0 where
  -- a question may ask for g: only on a card that has it, and for a value that it can have
  pub asked : (ask_said day_text (bytes "(g=1)") (0 ∷ 0 ∷ 1 ∷ []) ≡ says true)
      × (ask_said day_text (bytes "(g!=1)") (0 ∷ 0 ∷ 1 ∷ []) ≡ says false)
      × (ask_said day_text (bytes "(g!=1)") (0 ∷ 0 ∷ 2 ∷ []) ≡ says true)
      × (ask_said day_text (bytes "(g!=1)") (0 ∷ 0 ∷ 0 ∷ []) ≡ says true)
      × (ask_said day_text (bytes "(g=3)") (0 ∷ 0 ∷ []) ≡ refused 25 3)
      × (ask_said (text_a probabilistic) (bytes "(g=0)") (0 ∷ 0 ∷ 1 ∷ []) ≡ refused 23 1)
  -- who may move hangs on it
  pub moves : (move_said free_text (0 ∷ 0 ∷ 0 ∷ []) ≡ says none) × (move_said free_text (0 ∷ 0 ∷ 1 ∷ []) ≡ says (some 1)) × (move_said free_text (0 ∷ 1 ∷ 2 ∷ []) ≡ says (some 2))
  -- 8 and 9 as for the panel
  pub seats : (ask_said day_text (bytes "(g=1)") (0 ∷ 0 ∷ []) ≡ refused 8 0) × (ask_said day_text (bytes "(g=1)") (0 ∷ 0 ∷ 3 ∷ []) ≡ refused 9 2)
      × (watch_said day_text (0 ∷ 0 ∷ 3 ∷ []) [] ≡ refused 9 2)
      × (move_said free_text (0 ∷ 0 ∷ 3 ∷ []) ≡ refused 9 2)
      × (move_said free_text (0 ∷ 0 ∷ []) ≡ refused 8 0)
  -- a spectator does not see it
  pub watched : (watch_said day_text (0 ∷ 0 ∷ 0 ∷ []) (1 ∷ 2 ∷ []) ≡ says (bytes "classes 0 2 0 0 0 0 0 0\n")) × (watch_said day_text (0 ∷ 0 ∷ 2 ∷ []) (1 ∷ 2 ∷ []) ≡ says (bytes "classes 0 2 0 0 0 0 0 0\n"))
  -- the odds count pairs, g last: the row has all values of g for a vector one behind the other
  pub odds : (chance day_text "(g=2) & ((s1=1 & s2!=1) | (s1!=1 & s2=1))" 1 largest 1 ≡ says 500000)
      × (first_row day_text "(g=2) & ((s1=1 & s2!=1) | (s1!=1 & s2=1))" 1 largest 1 ≡ says (0 ∷ 0 ∷ 0 ∷ 0 ∷ 0 ∷ 1000000 ∷ 0 ∷ 500000 ∷ 0 ∷ []))
      × (chance free_text "(g=0)" 1 smallest 2 ≡ says 312500)
  -- 14 by pairs: ten seats in three states have 66 vectors, with eight values 528 pairs; nine seats have 55 and 440
  pub pairs : (many_seats 9 (0 ∷ 0 ∷ 0 ∷ 0 ∷ 0 ∷ 0 ∷ 0 ∷ 0 ∷ 0 ∷ 0 ∷ 1 ∷ []) ≡ refused 14 0) × (many_seats 8 (0 ∷ 0 ∷ 0 ∷ 0 ∷ 0 ∷ 0 ∷ 0 ∷ 0 ∷ 0 ∷ 1 ∷ []) ≡ says 1000000)
