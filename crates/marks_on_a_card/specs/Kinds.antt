-- The kinds of marks as numbers, for the code, and the numbers in a mark. A sign of one byte has that byte for its kind. Assumes nothing.
use Rattle.std.specs.Prelude.{ℕ, List, [], ◌∷◌}
use Prim.Native.String.{String}
use Rattle.card.specs.Text.{bytes, same, when◌then◌else◌}
use Rattle.marks_on_a_card.specs.Marks.{Mark, text, seat, process, number, decimal, outside}

abbrev pub k_end : ℕ
k_end = 0

abbrev pub k_outside : ℕ
k_outside = 1

abbrev pub k_number : ℕ
k_number = 2

abbrev pub k_decimal : ℕ
k_decimal = 3

abbrev pub k_seat : ℕ
k_seat = 4

abbrev pub k_process : ℕ
k_process = 5

-- a word that is no keyword
abbrev pub k_word : ℕ
k_word = 6

-- the signs and keywords; among these the two words of the shared number (document 02, 2026-10)
pub record Known : Type 0 where
  pub spelt : List ℕ
  pub kind : ℕ

abbrev pub known : String → ℕ → Known
known t v = record { spelt = bytes t; kind = v }

abbrev pub knowns : List Known
knowns =
    known "[" 91 ∷ known "]" 93 ∷ known ":" 58 ∷ known ";" 59 ∷ known "=" 61 ∷ known "!" 33 ∷ known "&" 38 ∷ known "|" 124
    ∷ known "(" 40 ∷ known ")" 41 ∷ known "+" 43 ∷ known "'" 39 ∷ known "," 44 ∷ known "/" 47
    ∷ known ".." 46 ∷ known "->" 45 ∷ known "!=" 7
    ∷ known "nondeterministic" 8 ∷ known "probabilistic" 9 ∷ known "module" 10 ∷ known "endmodule" 11 ∷ known "init" 12
    ∷ known "global" 13 ∷ known "g" 14
    ∷ []

abbrev pub kind_in : List Known → List ℕ → ℕ
kind_in [] s = k_word
kind_in (x ∷ xs) s = when same s x.spelt then x.kind else kind_in xs s

-- the kind of a sign or keyword, by its text
abbrev pub kind : String → ℕ
kind t = kind_in knowns (bytes t)

abbrev pub kind_of : Mark → ℕ
kind_of (text s) = kind_in knowns s
kind_of (seat i) = k_seat
kind_of (process i) = k_process
kind_of (number v) = k_number
kind_of (decimal v n f) = k_decimal
kind_of outside = k_outside

-- the number of a word, a number, or before a decimal's point
abbrev pub value_of : Mark → ℕ
value_of (text s) = 0
value_of (seat i) = i
value_of (process i) = i
value_of (number v) = v
value_of (decimal v n f) = v
value_of outside = 0

-- of a decimal: how many digits stand after the point, and the number they spell
abbrev pub digits_of : Mark → ℕ
digits_of (text s) = 0
digits_of (seat i) = 0
digits_of (process i) = 0
digits_of (number v) = 0
digits_of (decimal v n f) = n
digits_of outside = 0

abbrev pub further_of : Mark → ℕ
further_of (text s) = 0
further_of (seat i) = 0
further_of (process i) = 0
further_of (number v) = 0
further_of (decimal v n f) = f
further_of outside = 0
