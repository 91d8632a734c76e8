-- Marks that stand right at the front of a text, told from their first bytes. Assumes nothing.
use Rattle.std.specs.Prelude.{ℕ, ◌+◌, ◌-◌, Bool, false, not, ◌&&◌, List, [], ◌∷◌, Option, Some, None, eqb, leb, length, drop}
use Rattle.card.specs.Text.{bytes, when◌then◌else◌}
use Rattle.marks_on_a_card.specs.Bytes.{is_digit, in_word, begins, is_alone, in_number, begun}

-- a sign of one kind that begins no other mark
abbrev pub sign_ahead : ℕ → List ℕ → Bool
sign_ahead kind [] = false
sign_ahead kind (b ∷ s) = eqb b kind && is_alone b

-- the number of one digit behind which no byte of a kind stands
abbrev pub one_digit : (ℕ → Bool) → List ℕ → Option ℕ
one_digit more [] = None
one_digit more (b ∷ s) = when is_digit b && not (begins more s) then Some (b - 48) else None

-- the number with one digit; the digit that ends a word
abbrev pub digit_ahead : List ℕ → Option ℕ
digit_ahead = one_digit in_number

abbrev pub last_digit : List ℕ → Option ℕ
last_digit = one_digit in_word

-- the number of the seat word with one digit
abbrev pub seat_ahead : List ℕ → Option ℕ
seat_ahead s = when begins (eqb 115) s then last_digit (drop 1 s) else None

-- the place behind one blank, where one stands
abbrev pub past_blank : List ℕ → ℕ → ℕ
past_blank s i = when begins (eqb 32) (drop i s) then i + 1 else i

-- the same, or the place behind the end of a line
abbrev pub past_line : List ℕ → ℕ → ℕ
past_line s i = when begins (eqb 10) (drop i s) then i + 1 else past_blank s i

-- these bytes at a place
abbrev pub bytes_ahead : List ℕ → List ℕ → ℕ → Bool
bytes_ahead t s i = leb i (length s) && begun t (drop i s)

-- the same, and no word that goes on behind them
abbrev pub word_ahead : List ℕ → List ℕ → ℕ → Bool
word_ahead t s i = bytes_ahead t s i && not (begins in_word (drop (i + length t) s))

-- the number of the one digit that ends a word behind these bytes
abbrev pub digit_behind : List ℕ → List ℕ → ℕ → Option ℕ
digit_behind t s i = when bytes_ahead t s i then last_digit (drop (i + length t) s) else None

-- the number of the module word with one digit
abbrev pub process_ahead : List ℕ → ℕ → Option ℕ
process_ahead = digit_behind (bytes "process")

-- the second digit of the seat word from s10 to s19
abbrev pub teen_ahead : List ℕ → ℕ → Option ℕ
teen_ahead = digit_behind (bytes "s1")
