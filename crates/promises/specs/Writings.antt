-- Demand 2, its second half: a written card read again ("Texts, byte for byte"). Assumes nothing.
use Rattle.std.specs.Prelude.{ℕ, ◌/◌, ◌≤◌, ◌≡◌, ◌↔◌, List, [], ◌∷◌, length}
use Rattle.std.proofs.Math.Option.{none, some}
use Rattle.card.specs.Limits.{card_bytes, unit}
use Rattle.card.specs.Text.{bytes}
use Rattle.card.specs.Card.{Mode, nondeterministic, everyone, others, all, any, is, isnt, group, atom, neg, and, or, Guard, Statement, Card}
use Rattle.meaning.specs.CardA.{card_a}
use Rattle.edges.specs.Edges.{text_a}
use Rattle.card.specs.Valid.{ValidCard}
use Rattle.card.specs.Weight.{units_of}
use Rattle.reading.specs.Reading.{taken, read_of}
use Rattle.room.specs.Digits.{decimal, Numeral, value}
use Rattle.phrases.specs.Phrases.{LowestTerms, divisor, lowest}
use Rattle.texts.specs.Writing.{write_of}

-- `|` under `&`, `!` before a joined node, a right operand of its own sign
abbrev pub bracketed : Card
bracketed =
    let x = atom (group everyone all is 0) in
    let y = atom (group others any isnt 1) in
    record {
      mode = nondeterministic;
      shared = none;
      n = 3;
      k = 1;
      l = 1;
      statements = record { own = 0; guard = some (and (and x (or y x)) (and (neg (and x y)) (neg x))); branches = record { units = unit; end = 1; sets = none } ∷ [] } ∷ [];
    }

-- `|` as the whole guard, alone, with a right operand of its own sign, with a left one and with `&` under it; and `!` twice. With one seat a
-- group is one literal
abbrev pub bars : Card
bars =
    let x = atom (group everyone all is 0) in
    let y = atom (group everyone all isnt 1) in
    let z = atom (group everyone all is 1) in
    let guarded : Guard → Statement = λ g. record { own = 0; guard = some g; branches = record { units = unit; end = 1; sets = none } ∷ [] } in
    record {
      mode = nondeterministic;
      shared = none;
      n = 1;
      k = 1;
      l = 0;
      statements = guarded (or x y) ∷ guarded (or x (or y z)) ∷ guarded (or (or x y) z) ∷ guarded (or (and x y) z) ∷ guarded (neg (neg (or x y))) ∷ [];
    }

pub record Writings : Type 0 where
  -- card A is written as document 01 has it, letter for letter
  pub card_a_holds : (mode : Mode) → write_of (card_a mode) ≡ text_a mode
  pub brackets : write_of bracketed
      ≡ bytes "nondeterministic\nmodule process1\ns1 : [0..1] init 1;\n[] s1=0 & (s1=0 & s2=0 & s3=0) & ((s2!=1 | s3!=1) | (s1=0 & s2=0 & s3=0)) & (!((s1=0 & s2=0 & s3=0) & (s2!=1 | s3!=1)) & !(s1=0 & s2=0 & s3=0)) -> 1:(s1'=1);\nendmodule\nmodule process2 = process1 [s1=s2, s2=s1] endmodule\nmodule process3 = process1 [s1=s3, s3=s1] endmodule\n"
  pub whole_bars : write_of bars
      ≡ bytes "nondeterministic\nmodule process1\ns1 : [0..1] init 0;\n[] s1=0 & ((s1=0) | (s1!=1)) -> 1:(s1'=1);\n[] s1=0 & ((s1=0) | ((s1!=1) | (s1=1))) -> 1:(s1'=1);\n[] s1=0 & ((s1=0) | (s1!=1) | (s1=1)) -> 1:(s1'=1);\n[] s1=0 & ((s1=0) & (s1!=1) | (s1=1)) -> 1:(s1'=1);\n[] s1=0 & !!((s1=0) | (s1!=1)) -> 1:(s1'=1);\nendmodule\n"
  -- an accepted card, written out and read again, is the same card
  pub again : (s : List ℕ) (c : Card) → read_of s ≡ taken c → length (write_of c) ≤ card_bytes → read_of (write_of c) ≡ taken c
  -- and so is every valid card
  pub round_trip : (c : Card) → ValidCard c → length (write_of c) ≤ card_bytes → read_of (write_of c) ≡ taken c
  -- two valid cards are the same exactly when their written forms are, however long these are
  pub canonical : (c d : Card) → ValidCard c → ValidCard d → (c ≡ d) ↔ (write_of c ≡ write_of d)
  -- the written form of what a written form is read as is itself
  pub settled : (s : List ℕ) (c d : Card) → read_of s ≡ taken c → length (write_of c) ≤ card_bytes → read_of (write_of c) ≡ taken d → write_of d ≡ write_of c
  -- a number is written in decimal: digits without a zero in front, and no others, stand for it
  pub numerals : (v : ℕ) (s : List ℕ) → (s ≡ decimal v) ↔ (Numeral s × (value s ≡ v))
  -- a weight is written in lowest terms, and what is written is worth its units
  pub lowest_terms : (u : ℕ) → u ≤ unit → LowestTerms u (u / divisor u) (unit / divisor u)
  pub worth : (u : ℕ) → u ≤ unit → units_of (lowest u) ≡ some u
