-- The marked edges of "Both sides of the edge", as one list in document 01's order; 012 as document 02 (2026-03) changes it, weights, digits and 1/11 as
-- 2026-06 does, decimals as 2026-11 does. The panels stand here as whole texts. Assumes nothing.
use Rattle.std.specs.Prelude.{ℕ, zero, suc, ◌≡◌, true, List, [], ◌∷◌, ◌++◌}
use Prim.Native.String.{String}
use Rattle.std.proofs.Math.Option.{Option, none, some}
use Rattle.card.specs.Text.{bytes}
use Rattle.card.specs.Card.{Mode, nondeterministic, probabilistic, others, all, any, is, group, atom, neg, Guard, Branch}
use Rattle.marks_on_a_card.specs.Marks.{text, seat, process, number, decimal, outside, Placed, placed, marks_of}
use Rattle.reading.specs.Reading.{Outcome, taken, refused, first_outside, read_under, read_of}
use Rattle.room.specs.Digits.{decimal as digits_of}
use Rattle.meaning.specs.Position.{position}
use Rattle.meaning.specs.CardA.{card_a}
use Rattle.panel_wording.specs.PanelText.{panel_of}

-- card A's own text behind its mode
abbrev pub behind_mode : List ℕ
behind_mode = bytes "\nmodule process1\ns1 : [0..2] init 0;\n[] s1=0 & (s2=0 | s3=0) -> 1/2:(s1'=1) + 1/2:(s1'=2);\n[] s1=1 & (s1!=2 & s2!=2 & s3!=2) -> 1/4:(s1'=2) + 3/4:(s1'=1);\nendmodule\nmodule process2 = process1 [s1=s2, s2=s1] endmodule\nmodule process3 = process1 [s1=s3, s3=s1] endmodule\n"

-- the whole of it, in either mode
abbrev pub text_a : Mode → List ℕ
text_a probabilistic = bytes "probabilistic" ++ behind_mode
text_a nondeterministic = bytes "nondeterministic" ++ behind_mode

-- what card A's panel prints, where the seats are in these states
abbrev pub at : Mode → ℕ → ℕ → ℕ → List ℕ
at mode a b c = panel_of (card_a mode) (position (a ∷ b ∷ c ∷ []) 0)

abbrev pub as_above : List ℕ
as_above = bytes "probabilistic\nseats 3 enabled 3\ncounts 2 1 0\nstay 207900\nmove 0 1 277200\nmove 0 2 277200\nmove 1 2 69300\n"

-- ---- a card of one statement

abbrev pub head : List ℕ
head = bytes "probabilistic\nmodule process1\ns1 : [0..2] init 0;\n[] s1=0"

abbrev pub two : List ℕ
two = bytes "endmodule\nmodule process2 = process1 [s1=s2, s2=s1] endmodule\n"

abbrev pub three : List ℕ
three = two ++ bytes "module process3 = process1 [s1=s3, s3=s1] endmodule\n"

-- read as a card of n seats with this guard and these branches
abbrev pub reads : ℕ → Option Guard → List Branch → Outcome
reads n guard branches = taken (record { mode = probabilistic; shared = none; n = n; k = 2; l = 0; statements = record { own = 0; guard = guard; branches = branches } ∷ [] })

abbrev pub to : ℕ → ℕ → Branch
to units end = record { units = units; end = end; sets = none }

-- ---- the edges

pub record Edges : Type 0 where
  pub at_001 : at probabilistic 0 0 1 ≡ as_above
  pub at_100 : at probabilistic 1 0 0 ≡ as_above
  -- nothing can be taken, in either mode
  pub at_012 : (at probabilistic 0 1 2 ≡ bytes "probabilistic\nseats 3 enabled 1\ncounts 1 1 1\nstay 277200\n")
      × (at nondeterministic 0 1 2 ≡ bytes "nondeterministic\nseats 3 enabled 1\ncounts 1 1 1\nchoice 0\nstay 277200\n")
  pub at_011 : at probabilistic 0 1 1 ≡ bytes "probabilistic\nseats 3 enabled 2\ncounts 1 2 0\nstay 415800\nmove 1 2 138600\n"
  pub at_000 : at probabilistic 0 0 0 ≡ bytes "probabilistic\nseats 3 enabled 3\ncounts 3 0 0\nmove 0 1 415800\nmove 0 2 415800\n"
  -- the same card as nondeterministic: its bytes read as it, and its panel
  pub nondeterministic_001 : (read_of (text_a nondeterministic) ≡ taken (card_a nondeterministic))
      × (at nondeterministic 0 0 1
      ≡ bytes "nondeterministic\nseats 3 enabled 2\ncounts 2 1 0\nchoice 1\nmove 0 1 138600\nmove 0 2 138600\nchoice 2\nstay 207900\nmove 1 2 69300\n")
  -- 1/7
  pub seventh : read_of (head ++ bytes " -> 1/7:(s1'=1) + 6/7:(s1'=2);\nendmodule\n") ≡ reads 1 none (to 39600 1 ∷ to 237600 2 ∷ [])
  -- 1/11; and 1/13, at its place
  pub eleventh : (read_of (head ++ bytes " -> 1/11:(s1'=1) + 10/11:(s1'=2);\nendmodule\n") ≡ reads 1 none (to 25200 1 ∷ to 252000 2 ∷ []))
      × (read_of (head ++ bytes " -> 1/13:(s1'=1) + 12/13:(s1'=2);\nendmodule\n") ≡ refused 7 61)
  -- (s2=0) with two seats, and (s1=0)
  pub two_seats : (read_of (head ++ bytes " & (s2=0) -> 1:(s1'=1);\n" ++ two) ≡ reads 2 (some (atom (group others all is 0))) (to 277200 1 ∷ []))
      × (read_of (head ++ bytes " & (s1=0) -> 1:(s1'=1);\n" ++ two) ≡ refused 6 60)
  -- 0.005, and 0.05: since 2026-11 neither is a weight
  pub further_digits_holds : (read_of (head ++ bytes " -> 0.005:(s1'=1) + 0.995:(s1'=2);\nendmodule\n") ≡ refused 17 61)
      × (read_of (head ++ bytes " -> 0.05:(s1'=1) + 0.95:(s1'=2);\nendmodule\n") ≡ refused 17 61)
  -- (s3=0 | s2=0), and the group of card A
  pub any_order : (read_of (head ++ bytes " & (s3=0 | s2=0) -> 1:(s1'=1);\n" ++ three) ≡ reads 3 (some (atom (group others any is 0))) (to 277200 1 ∷ []))
      × (read_of (text_a probabilistic) ≡ taken (card_a probabilistic))

-- ---- edges that document 01 has run, and its last slip

-- so many further modules, from i on
abbrev pub modules_from : ℕ → ℕ → List ℕ
modules_from i zero = []
modules_from i (suc more) =
    bytes "module process" ++ (digits_of i ++ (bytes " = process1 [s1=s" ++ (digits_of i ++ (bytes ", s" ++ (digits_of i ++ (bytes "=s1] endmodule\n" ++ modules_from (suc i) more))))))

-- a sign or word at its place
abbrev pub text_at : String → ℕ → Placed
text_at t p = placed (text (bytes t)) p

-- how bytes fall into marks, and where the first stands that is outside the rules
pub record MarkEdges : Type 0 where
  -- the `0.` of a range is no decimal
  pub range : marks_of (bytes "[0..2]") ≡ text_at "[" 0 ∷ placed (number 0) 1 ∷ text_at ".." 2 ∷ placed (number 2) 4 ∷ text_at "]" 5 ∷ []
  pub decimals : marks_of (bytes "0.25 123456.123456") ≡ placed (decimal 0 2 25) 0 ∷ placed (decimal 123456 6 123456) 5 ∷ []
  pub words : marks_of (bytes "s1 s01 s123456 process2 init0 init") ≡ placed (seat 1) 0 ∷ text_at "s01" 3 ∷ text_at "s123456" 7 ∷ placed (process 2) 15 ∷ text_at "init0" 24 ∷ text_at "init" 30 ∷ []
  pub comments : marks_of (bytes "1//2\n!=!->") ≡ placed (number 1) 0 ∷ text_at "!=" 5 ∷ text_at "!" 7 ∷ text_at "->" 8 ∷ []
  -- tab, CR and LF separate; capital letters are letters, and `_` goes on a word; `_` alone, and the bytes beside the letters, are outside the rules
  pub classes : marks_of (bytes "\tAZ\raz\nA_9_ _@`{") ≡ text_at "AZ" 1 ∷ text_at "az" 4 ∷ text_at "A_9_" 7 ∷ placed outside 12 ∷ placed outside 13 ∷ placed outside 14 ∷ placed outside 15 ∷ []
  -- a zero in front, too many digits, a point without a digit behind it
  pub zero_in_front : first_outside (marks_of (bytes "1 007")) ≡ some 2
  pub seven_digits : (first_outside (marks_of (bytes "1234567")) ≡ some 0) × (first_outside (marks_of (bytes "0.1234567")) ≡ some 0)
  pub lone_point : first_outside (marks_of (bytes "1.")) ≡ some 1

pub record RunEdges : Type 0 where
  -- a card that ends early, at its length: with no byte, and behind a comment
  pub ends_early : (read_of [] ≡ refused 3 0) × (read_of (head ++ bytes " -> 1:(s1'=1);  // no more") ≡ refused 3 83)
  pub modules_16 : read_of (head ++ bytes " -> 1:(s1'=1);\nendmodule\n" ++ modules_from 2 15) ≡ reads 16 none (to 277200 1 ∷ [])
  pub modules_17 : read_of (head ++ bytes " -> 1:(s1'=1);\nendmodule\n" ++ modules_from 2 16) ≡ refused 4 883
  -- k is 7, and the card ends early; k is 8
  pub top_states : (read_of (bytes "probabilistic module process1 s1 : [0..7") ≡ refused 3 40) × (read_of (bytes "probabilistic module process1 s1 : [0..8") ≡ refused 4 39)
  pub depth_8 : read_of (head ++ bytes " & !!!!!!!!(s2=0) -> 1:(s1'=1);\n" ++ two) ≡ reads 2 (some (neg (neg (neg (neg (neg (neg (neg (neg (atom (group others all is 0))))))))))) (to 277200 1 ∷ [])
  pub depth_9 : read_of (head ++ bytes " & !!!!!!!!!(s2=0) -> 1:(s1'=1);\n" ++ two) ≡ refused 4 68
  -- `|` behind the local guard fits nowhere
  pub bar : read_of (head ++ bytes " & (s2=0) | (s2=1) -> 1:(s1'=1);\n" ++ two) ≡ refused 3 67
  -- one group has one relation, one state and each of its seats once
  pub uneven : (read_of (head ++ bytes " & (s2=0 | s3=1) -> 1:(s1'=1);\n" ++ three) ≡ refused 6 60)
      × (read_of (head ++ bytes " & (s2=0 | s3!=0) -> 1:(s1'=1);\n" ++ three) ≡ refused 6 60)
      × (read_of (head ++ bytes " & (s2=0 | s2=0) -> 1:(s1'=1);\n" ++ three) ≡ refused 6 60)
  -- a state above k: where a branch ends, and in a group
  pub above : (read_of (head ++ bytes " -> 1:(s1'=3);\nendmodule\n") ≡ refused 5 68)
      × (read_of (head ++ bytes " & (s2=3 | s3=3) -> 1:(s1'=1);\n" ++ three) ≡ refused 5 64)
  -- weights that do not come to 1, at the `;`
  pub sum : read_of (head ++ bytes " -> 1/2:(s1'=1) + 1/3:(s1'=2);\nendmodule\n") ≡ refused 7 86
  -- a mark outside the rules before a mark out of shape that stands earlier
  pub outside_first : read_of (bytes "module ?") ≡ refused 2 7
  -- a seat word that is not the one due
  pub other_word : read_of (head ++ bytes " -> 1:(s1'=1);\nendmodule\nmodule process2 = process1 [s1=s2, s9=s5] endmodule\n") ≡ refused 6 117

-- the edges of document 02, 2026-06: what six digits may be
pub record UnitEdges : Type 0 where
  -- a number of six digits is a weight only in a fraction: of the unit, in lowest terms or not; seven digits are none
  pub whole_unit : read_of (head ++ bytes " -> 100000/277200:(s1'=1) + 177200/277200:(s1'=2);\nendmodule\n") ≡ reads 1 none (to 100000 1 ∷ to 177200 2 ∷ [])
  -- what is below the line has to divide the unit, also where the fraction is worth whole units, or nothing
  pub divides : (read_of (head ++ bytes " -> 13/26:(s1'=1) + 1/2:(s1'=2);\nendmodule\n") ≡ refused 7 61)
      × (read_of (head ++ bytes " -> 0/13:(s1'=1) + 1:(s1'=2);\nendmodule\n") ≡ refused 7 61)
      × (read_of (head ++ bytes " -> 2/554400:(s1'=1) + 277199/277200:(s1'=2);\nendmodule\n") ≡ refused 7 61)
      × (read_of (head ++ bytes " -> 0/0:(s1'=1) + 1:(s1'=2);\nendmodule\n") ≡ refused 7 61)
      × (read_of (head ++ bytes " -> 1:(s1'=1) + 0/11:(s1'=2);\nendmodule\n") ≡ reads 1 none (to 277200 1 ∷ to 0 2 ∷ []))
  pub above_one : read_of (head ++ bytes " -> 2/1:(s1'=1);\nendmodule\n") ≡ refused 7 61
  pub old_unit : read_of (head ++ bytes " -> 1/25200:(s1'=1) + 25199/25200:(s1'=2);\nendmodule\n") ≡ reads 1 none (to 11 1 ∷ to 277189 2 ∷ [])
  pub six_digits : (read_of (head ++ bytes " -> 123456:(s1'=1);\nendmodule\n") ≡ refused 7 61) × (read_of (head ++ bytes " -> 1:(s1'=123456);\nendmodule\n") ≡ refused 5 68)
  pub seven_digits : (read_of (head ++ bytes " -> 1/2772000:(s1'=1);\nendmodule\n") ≡ refused 2 63) × (read_of (head ++ bytes " -> 1:(s1'=1234567);\nendmodule\n") ≡ refused 2 68)
  -- six further digits are a decimal; seven are none
  pub further_digits_holds : (read_of (head ++ bytes " -> 0.500000:(s1'=1) + 1/2:(s1'=2);\nendmodule\n") ≡ refused 17 61)
      × (read_of (head ++ bytes " -> 0.5000000:(s1'=1) + 1/2:(s1'=2);\nendmodule\n") ≡ refused 2 61)
  -- a seat word has five digits at most
  pub words : (read_of (head ++ bytes " -> 1:(s12345'=1);\nendmodule\n") ≡ refused 6 64) × (read_of (head ++ bytes " -> 1:(s123456'=1);\nendmodule\n") ≡ refused 3 64)

-- the edges of 2026-11: no decimal is a weight, by the rule of today; by the old one a decimal is worth what it was
pub record DecimalEdges : Type 0 where
  -- right or wrong in value, also a whole one: 17 at its place
  pub retired : (read_of (head ++ bytes " -> 0.5:(s1'=1) + 0.50:(s1'=2);\nendmodule\n") ≡ refused 17 61)
      × (read_of (head ++ bytes " -> 1/2:(s1'=1) + 0.005:(s1'=2);\nendmodule\n") ≡ refused 17 75)
      × (read_of (head ++ bytes " -> 1.0:(s1'=1);\nendmodule\n") ≡ refused 17 61)
      × (read_of (head ++ bytes " -> 1.01:(s1'=1);\nendmodule\n") ≡ refused 17 61)
  -- what is broken before it comes first, also a sum
  pub by_place : (read_of (head ++ bytes " -> 1/13:(s1'=1) + 0.5:(s1'=2);\nendmodule\n") ≡ refused 7 61)
      × (read_of (head ++ bytes " -> 1/2:(s1'=3) + 0.5:(s1'=2);\nendmodule\n") ≡ refused 5 70)
      × (read_of (head ++ bytes " -> 1/2:(s2'=1) + 0.5:(s1'=2);\nendmodule\n") ≡ refused 6 66)
      × (read_of (head ++ bytes " -> 0.5:(s1'=3) + 1/2:(s2'=2);\nendmodule\n") ≡ refused 17 61)
      × (read_of (head ++ bytes " -> 1/2:(s1'=1);\n[] s1=1 -> 0.5:(s1'=1) + 1/2:(s1'=2);\nendmodule\n") ≡ refused 7 72)
  -- a shape that is broken further on comes first, as before 5
  pub shape_first : read_of (head ++ bytes " -> 0.5:(s1'=1) + 1/2:(s1'=2)\nendmodule\n") ≡ refused 3 87
  pub as_before : (read_under true (head ++ bytes " -> 0.05:(s1'=1) + 0.95:(s1'=2);\nendmodule\n") ≡ reads 1 none (to 13860 1 ∷ to 263340 2 ∷ []))
      × (read_under true (head ++ bytes " -> 1.00:(s1'=1) + 0/11:(s1'=2);\nendmodule\n") ≡ reads 1 none (to 277200 1 ∷ to 0 2 ∷ []))
      × (read_under true (head ++ bytes " -> 0.005:(s1'=1) + 0.995:(s1'=2);\nendmodule\n") ≡ refused 7 61)
      × (read_under true (head ++ bytes " -> 1.01:(s1'=1);\nendmodule\n") ≡ refused 7 61)
      × (read_under true (head ++ bytes " -> 0.500000:(s1'=1) + 1/2:(s1'=2);\nendmodule\n") ≡ refused 7 61)
  -- a decimal in a comment is none
  pub in_a_comment : read_of (head ++ bytes " -> 1:(s1'=1); // 0.5\nendmodule\n") ≡ reads 1 none (to 277200 1 ∷ [])
