-- Worked cards: reading computes, so each is shown by computing it. Assumes nothing.
use Prim.Native.Nat.{ℕ}
use Prim.Native.String.{String}
use mathlib.Core.Path.{◌≡◌, refl}
use mathlib.Core.Bool.{Bool, true, false}
use mathlib.Core.List.{List, [], ◌∷◌, ◌++◌}
use mathlib.Core.Option.{none, some}
use Rattle.card.specs.Refusals.{out_of_shape, past_limit, above_top, not_due, wrong_weight}
use Rattle.card.specs.Text.{bytes}
use Rattle.card.specs.Card.{probabilistic, everyone, others, all, any, is, isnt, group, shared_is, atom, Branch, Card}
use Rattle.card.specs.Weight.{units_of}
use Rattle.reading.specs.Reading.{Outcome, taken, refused, read_under, read_of}

abbrev to : ℕ → ℕ → Branch
to w t = record { units = w; end = t; sets = none }

abbrev pub text_a : List ℕ
text_a = bytes "probabilistic\nmodule process1\ns1 : [0..2] init 0;\n[] s1=0 & (s2=0 | s3=0) -> 1/2:(s1'=1) + 1/2:(s1'=2);\n[] s1=1 & (s1!=2 & s2!=2 & s3!=2) -> 1/4:(s1'=2) + 3/4:(s1'=1);\nendmodule\nmodule process2 = process1 [s1=s2, s2=s1] endmodule\nmodule process3 = process1 [s1=s3, s3=s1] endmodule\n"

unfoldable pub card_a : Card
card_a = record {
  mode = probabilistic;
  shared = none;
  n = 3;
  k = 2;
  l = 0;
  statements =
      record { own = 0; guard = some (atom (group others any is 0)); branches = to 138600 1 ∷ to 138600 2 ∷ [] }
      ∷ record { own = 1; guard = some (atom (group everyone all isnt 2)); branches = to 69300 2 ∷ to 207900 1 ∷ [] }
      ∷ [];
}

pub reads_a : read_of text_a ≡ taken card_a
unfolding read_under card_a units_of
reads_a = refl

pub empty : read_of [] ≡ refused 3 0
unfolding read_under
empty = refl

pub e_w_1_13 : read_of (bytes "probabilistic\nmodule process1\ns1 : [0..2] init 0;\n[] s1=0 -> 1/13:(s1'=0) + 12/13:(s1'=1);\nendmodule\n") ≡ refused 7 61
unfolding read_under units_of
e_w_1_13 = refl

-- where no decimal may be a weight, right or wrong in value it is refused at its place
pub e_retired : read_of (bytes "probabilistic\nmodule process1\ns1 : [0..2] init 0;\n[] s1=0 -> 1/2:(s1'=0) + 0.5:(s1'=1);\nendmodule\n") ≡ refused 17 75
unfolding read_under units_of
e_retired = refl

pub e_retired_wrong : read_of (bytes "probabilistic\nmodule process1\ns1 : [0..2] init 0;\n[] s1=0 -> 0.005:(s1'=0) + 2:(s1'=1);\nendmodule\n") ≡ refused 17 61
unfolding read_under units_of
e_retired_wrong = refl

pub e_one2 : read_of (bytes "probabilistic\nmodule process1\ns1 : [0..2] init 0;\n[] s1=0 & (s1=0) -> 1:(s1'=0);\nendmodule\nmodule process2 = process1 [s1=s2, s2=s1] endmodule\n") ≡ refused 6 60
unfolding read_under units_of
e_one2 = refl

pub e_n17 : read_of (bytes "probabilistic\nmodule process1\ns1 : [0..2] init 0;\n[] s1=0 -> 1:(s1'=0);\nendmodule\n"
    ++ bytes "module process2 = process1 [s1=s2, s2=s1] endmodule\nmodule process3 = process1 [s1=s3, s3=s1] endmodule\nmodule process4 = process1 [s1=s4, s4=s1] endmodule\nmodule process5 = process1 [s1=s5, s5=s1] endmodule\n"
    ++ bytes "module process6 = process1 [s1=s6, s6=s1] endmodule\nmodule process7 = process1 [s1=s7, s7=s1] endmodule\nmodule process8 = process1 [s1=s8, s8=s1] endmodule\nmodule process9 = process1 [s1=s9, s9=s1] endmodule\n"
    ++ bytes "module process10 = process1 [s1=s10, s10=s1] endmodule\nmodule process11 = process1 [s1=s11, s11=s1] endmodule\nmodule process12 = process1 [s1=s12, s12=s1] endmodule\nmodule process13 = process1 [s1=s13, s13=s1] endmodule\n"
    ++ bytes "module process14 = process1 [s1=s14, s14=s1] endmodule\nmodule process15 = process1 [s1=s15, s15=s1] endmodule\nmodule process16 = process1 [s1=s16, s16=s1] endmodule\nmodule process17 = process1 [s1=s17, s17=s1] endmodule\n") ≡ refused 4 883
unfolding read_under units_of
e_n17 = refl

pub e_depth9 : read_of (bytes "probabilistic\nmodule process1\ns1 : [0..2] init 0;\n[] s1=0 & !!!!!!!!!(s1=0) -> 1:(s1'=0);\nendmodule\n") ≡ refused 4 68
unfolding read_under units_of
e_depth9 = refl

-- ---- a card of one statement, whose guard begins at byte 60

abbrev guarded : String → String → List ℕ
guarded g more = bytes "probabilistic\nmodule process1\ns1 : [0..2] init 0;\n[] s1=0 & " ++ (bytes g ++ (bytes " -> 1:(s1'=0);\nendmodule\n" ++ bytes more))

abbrev two_seats : String
two_seats = "module process2 = process1 [s1=s2, s2=s1] endmodule\n"

abbrev is_taken : Outcome → Bool
is_taken (taken c) = true
is_taken (refused r p) = false

-- no `|` between the unaries of a statement
pub no_bar : read_of (guarded "(s1=0) | (s1=1)" "") ≡ refused out_of_shape 67
unfolding read_under units_of
no_bar = refl

pub eight_open : is_taken (read_of (guarded "!!!!(!(!(s1=0)))" "")) ≡ true
unfolding read_under units_of
eight_open = refl

pub nine_open : read_of (guarded "!!!!(!(!((s1=0))))" "") ≡ refused past_limit 68
unfolding read_under units_of
nine_open = refl

-- 16 groups, 15 signs and a `!`; then one sign more
pub many_nodes : is_taken (read_of (guarded "!(s1=0)&(s1=0)&(s1=0)&(s1=0)&(s1=0)&(s1=0)&(s1=0)&(s1=0)&(s1=0)&(s1=0)&(s1=0)&(s1=0)&(s1=0)&(s1=0)&(s1=0)&(s1=0)" "")) ≡ true
unfolding read_under units_of
many_nodes = refl

pub too_many_nodes : read_of (guarded "!(s1=0)&(s1=0)&(s1=0)&(s1=0)&(s1=0)&(s1=0)&(s1=0)&(s1=0)&(s1=0)&(s1=0)&(s1=0)&(s1=0)&(s1=0)&(s1=0)&(s1=0)&(s1=0)&" "") ≡ refused past_limit 172
unfolding read_under units_of
too_many_nodes = refl

-- a seat that stands twice
pub seat_twice : read_of (guarded "(s1=0 & s2=0 & s2=0)" two_seats) ≡ refused not_due 60
unfolding read_under units_of
seat_twice = refl

-- the bracket stands before the d that is above k
pub bracket_first : read_of (guarded "(s1=3)" two_seats) ≡ refused not_due 60
unfolding read_under units_of
bracket_first = refl

-- only `0` before the two points
pub from_one : read_of (bytes "probabilistic\nmodule process1\ns1 : [1..2] init 1;\n[] s1=1 -> 1:(s1'=1);\nendmodule\n") ≡ refused out_of_shape 36
unfolding read_under units_of
from_one = refl

-- the ninth branch, at its weight
pub nine_branches : read_of (bytes "probabilistic\nmodule process1\ns1 : [0..2] init 0;\n[] s1=0 -> 1:(s1'=0)+0:(s1'=0)+0:(s1'=0)+0:(s1'=0)+0:(s1'=0)+0:(s1'=0)+0:(s1'=0)+0:(s1'=0)+0:(s1'=0);\nendmodule\n") ≡ refused past_limit 141
unfolding read_under units_of
nine_branches = refl

-- weights that do not add up, at the end of the statement
pub half_a_unit : read_of (bytes "probabilistic\nmodule process1\ns1 : [0..2] init 0;\n[] s1=0 -> 1/2:(s1'=0);\nendmodule\n") ≡ refused wrong_weight 72
unfolding read_under units_of
half_a_unit = refl

-- ---- cards that share a number (document 02, 2026-10): what is declared behind the mode, a guard, and what stands behind a branch's seat

abbrev sharing : String → String → String → List ℕ
sharing g guard set =
    bytes "probabilistic\n"
    ++ (bytes g ++ (bytes "module process1\ns1 : [0..1] init 0;\n[] s1=0" ++ (bytes guard ++ (bytes " -> 1:(s1'=1)" ++ (bytes set ++ bytes ";\nendmodule\n")))))

abbrev night : String
night = "global g : [0..1] init 0;\n"

unfoldable pub night_card : Card
night_card = record {
  mode = probabilistic;
  shared = some (record { most = 1; start = 0 });
  n = 1;
  k = 1;
  l = 0;
  statements = record { own = 0; guard = some (atom (shared_is isnt 1)); branches = record { units = 277200; end = 1; sets = some 1 } ∷ [] } ∷ [];
}

pub reads_night : read_of (sharing night " & (g!=1)" " & (g'=1)") ≡ taken night_card
unfolding read_under night_card units_of
reads_night = refl

-- m is 7 at most
pub seven_values : is_taken (read_of (sharing "global g : [0..7] init 7;\n" " & (g=7)" " & (g'=7)")) ≡ true
unfolding read_under units_of
seven_values = refl

pub eight_above : read_of (sharing "global g : [0..8] init 0;\n" "" "") ≡ refused past_limit 29
unfolding read_under units_of
eight_above = refl

pub from_one_shared : read_of (sharing "global g : [1..1] init 1;\n" "" "") ≡ refused out_of_shape 26
unfolding read_under units_of
from_one_shared = refl

-- v is m at most where the number starts, in a test and in an update
pub start_above : read_of (sharing "global g : [0..1] init 2;\n" "" "") ≡ refused above_top 37
unfolding read_under units_of
start_above = refl

pub test_above : read_of (sharing night " & (g=2)" "") ≡ refused above_top 89
unfolding read_under units_of
test_above = refl

pub set_above : read_of (sharing night "" "& (g'=2)") ≡ refused above_top 102
unfolding read_under units_of
set_above = refl

-- another name, another place
pub other_name : read_of (sharing "global h : [0..1] init 0;\n" "" "") ≡ refused out_of_shape 21
unfolding read_under units_of
other_name = refl

pub declared_twice : read_of (sharing "global g : [0..1] init 0;\nglobal g : [0..1] init 0;\n" "" "") ≡ refused out_of_shape 40
unfolding read_under units_of
declared_twice = refl

-- on a card without such a number
pub undeclared_test : read_of (sharing "" " & (g=0)" "") ≡ refused out_of_shape 61
unfolding read_under units_of
undeclared_test = refl

pub undeclared_set : read_of (sharing "" "" "& (g'=0)") ≡ refused out_of_shape 70
unfolding read_under units_of
undeclared_set = refl

pub undeclared_depth : read_of (sharing "" " & !!!!!!!!(g=0)" "") ≡ refused past_limit 68
unfolding read_under units_of
undeclared_depth = refl

-- one update at most
pub set_twice : read_of (sharing night "" " & (g'=0) & (g'=1)") ≡ refused out_of_shape 106
unfolding read_under units_of
set_twice = refl

-- a test is a node without depth
pub eight_open_shared : is_taken (read_of (sharing night " & !!!!!!!!(g=0)" "")) ≡ true
unfolding read_under units_of
eight_open_shared = refl

pub nine_open_shared : read_of (sharing night " & !!!!!!!!!(g=0)" "") ≡ refused past_limit 94
unfolding read_under units_of
nine_open_shared = refl

pub many_tests : is_taken (read_of (sharing night " & !(g=0)&(g=0)&(g=0)&(g=0)&(g=0)&(g=0)&(g=0)&(g=0)&(g=0)&(g=0)&(g=0)&(g=0)&(g=0)&(g=0)&(g=0)&(g=0)" "")) ≡ true
unfolding read_under units_of
many_tests = refl

pub too_many_tests : read_of (sharing night " & !!(g=0)&(g=0)&(g=0)&(g=0)&(g=0)&(g=0)&(g=0)&(g=0)&(g=0)&(g=0)&(g=0)&(g=0)&(g=0)&(g=0)&(g=0)&(g=0)" "") ≡ refused past_limit 178
unfolding read_under units_of
too_many_tests = refl
