-- The written form of card A; document 01's reduced text of its one-seat card, letter for letter, and those of card A in both modes; both
-- texts of a card with a shared number: by computing. Assumes nothing.
use mathlib.Core.Path.{◌≡◌, refl}
use mathlib.Core.List.{[], ◌∷◌, ◌++◌}
use mathlib.Core.Option.{none, some}
use Rattle.card.specs.Limits.{unit}
use Rattle.card.specs.Text.{bytes}
use Rattle.card.specs.Card.{nondeterministic, probabilistic, is, isnt, shared_is, atom, neg, Card}
use Rattle.meaning.specs.CardA.{card_a}
use Rattle.meaning.specs.Reduced.{copy, reduce}
use Rattle.room.specs.Digits.{decimal}
use Rattle.phrases.specs.Phrases.{gcd, divisor}
use Rattle.texts.specs.Writing.{write_of}
use Rattle.texts.specs.ReducedText.{program_text, reduced_of}

pub written_a : write_of (card_a probabilistic) ≡ bytes "probabilistic\nmodule process1\ns1 : [0..2] init 0;\n[] s1=0 & (s2=0 | s3=0) -> 1/2:(s1'=1) + 1/2:(s1'=2);\n[] s1=1 & (s1!=2 & s2!=2 & s3!=2) -> 1/4:(s1'=2) + 3/4:(s1'=1);\nendmodule\nmodule process2 = process1 [s1=s2, s2=s1] endmodule\nmodule process3 = process1 [s1=s3, s3=s1] endmodule\n"
unfolding write_of card_a decimal gcd divisor
written_a = refl

-- document 01's one-seat card
unfoldable pub one_seat : Card
one_seat = record {
  mode = nondeterministic;
  shared = none;
  n = 1;
  k = 1;
  l = 0;
  statements = record { own = 0; guard = none; branches = record { units = unit; end = 1; sets = none } ∷ [] } ∷ [];
}

pub one_seat_law : reduced_of one_seat ≡ bytes "nondeterministic\nmodule generic_process\nno_0 : [0..1] init 1;\nno_1 : [0..1] init 0;\n[] (no_0>0) -> 1:(no_0'=no_0-1) & (no_1'=min(no_1+1,1));\nendmodule\n"
unfolding program_text reduce copy one_seat decimal gcd divisor
one_seat_law = refl

pub card_a_law : reduced_of (card_a probabilistic)
    ≡ bytes "probabilistic\nmodule generic_process\nno_0 : [0..3] init 3;\nno_1 : [0..3] init 0;\nno_2 : [0..3] init 0;\n"
    ++ bytes "[] (no_0>0) & (no_0>1) -> 1/2:(no_0'=no_0-1) & (no_1'=min(no_1+1,3)) + 1/2:(no_0'=no_0-1) & (no_2'=min(no_2+1,3));\n"
    ++ bytes "[] (no_0>1) & (no_0>1) -> 1/2:(no_0'=no_0-1) & (no_1'=min(no_1+1,3)) + 1/2:(no_0'=no_0-1) & (no_2'=min(no_2+1,3));\n"
    ++ bytes "[] (no_0>2) & (no_0>1) -> 1/2:(no_0'=no_0-1) & (no_1'=min(no_1+1,3)) + 1/2:(no_0'=no_0-1) & (no_2'=min(no_2+1,3));\n"
    ++ bytes "[] (no_1>0) & (no_2=0) -> 1/4:(no_1'=no_1-1) & (no_2'=min(no_2+1,3)) + 3/4:true;\n"
    ++ bytes "[] (no_1>1) & (no_2=0) -> 1/4:(no_1'=no_1-1) & (no_2'=min(no_2+1,3)) + 3/4:true;\n"
    ++ bytes "[] (no_1>2) & (no_2=0) -> 1/4:(no_1'=no_1-1) & (no_2'=min(no_2+1,3)) + 3/4:true;\n"
    ++ bytes "endmodule\n"
unfolding program_text reduce copy card_a decimal gcd divisor
card_a_law = refl

pub card_a_free : reduced_of (card_a nondeterministic) ≡ bytes "nondeterministic\nmodule generic_process\nno_0 : [0..3] init 3;\nno_1 : [0..3] init 0;\nno_2 : [0..3] init 0;\n[] (no_0>0) & (no_0>1) -> 1/2:(no_0'=no_0-1) & (no_1'=min(no_1+1,3)) + 1/2:(no_0'=no_0-1) & (no_2'=min(no_2+1,3));\n[] (no_1>0) & (no_2=0) -> 1/4:(no_1'=no_1-1) & (no_2'=min(no_2+1,3)) + 3/4:true;\nendmodule\n"
unfolding program_text reduce copy card_a decimal gcd divisor
card_a_free = refl

-- ---- a shared number: declared, tested with both relations, set beside a move and alone, and left as it is

unfoldable pub day_and_night : Card
day_and_night = record {
  mode = probabilistic;
  shared = some (record { most = 2; start = 1 });
  n = 2;
  k = 1;
  l = 0;
  statements =
      record {
        own = 0;
        guard = some (atom (shared_is is 1));
        branches = record { units = 138600; end = 1; sets = some 2 } ∷ record { units = 69300; end = 1; sets = none } ∷ record { units = 69300; end = 0; sets = some 0 } ∷ [];
      }
      ∷ record { own = 1; guard = some (neg (atom (shared_is isnt 2))); branches = record { units = unit; end = 1; sets = none } ∷ [] }
      ∷ [];
}

pub day_and_night_written : write_of day_and_night
    ≡ bytes "probabilistic\nglobal g : [0..2] init 1;\nmodule process1\ns1 : [0..1] init 0;\n"
    ++ bytes "[] s1=0 & (g=1) -> 1/2:(s1'=1) & (g'=2) + 1/4:(s1'=1) + 1/4:(s1'=0) & (g'=0);\n"
    ++ bytes "[] s1=1 & !(g!=2) -> 1:(s1'=1);\n"
    ++ bytes "endmodule\nmodule process2 = process1 [s1=s2, s2=s1] endmodule\n"
unfolding write_of day_and_night decimal gcd divisor
day_and_night_written = refl

pub day_and_night_reduced : reduced_of day_and_night
    ≡ bytes "probabilistic\nglobal g : [0..2] init 1;\nmodule generic_process\nno_0 : [0..2] init 2;\nno_1 : [0..2] init 0;\n"
    ++ bytes "[] (no_0>0) & (g=1) -> 1/2:(no_0'=no_0-1) & (no_1'=min(no_1+1,2)) & (g'=2) + 1/4:(no_0'=no_0-1) & (no_1'=min(no_1+1,2)) + 1/4:(g'=0);\n"
    ++ bytes "[] (no_0>1) & (g=1) -> 1/2:(no_0'=no_0-1) & (no_1'=min(no_1+1,2)) & (g'=2) + 1/4:(no_0'=no_0-1) & (no_1'=min(no_1+1,2)) + 1/4:(g'=0);\n"
    ++ bytes "[] (no_1>0) & !(g!=2) -> 1:true;\n"
    ++ bytes "[] (no_1>1) & !(g!=2) -> 1:true;\n"
    ++ bytes "endmodule\n"
unfolding program_text reduce copy day_and_night decimal gcd divisor
day_and_night_reduced = refl
