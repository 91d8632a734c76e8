-- How each mark is spelt ("Marks on a card"): which bytes are which mark, with no word of how they are found. Assumes nothing.
use Rattle.std.specs.Prelude.{ℕ, ◌+◌, ◌-◌, ◌*◌, ◌^◌, ◌≤◌, ◌<◌, ◌≡◌, true, false, List, [], ◌∷◌, ◌++◌, length}
use Prim.Native.String.{String}
use Rattle.card.specs.Limits.{number_digits, further_digits, word_digits}
use Rattle.card.specs.Text.{bytes}
use Rattle.marks_on_a_card.specs.Bytes.{is_digit, is_letter, in_word, is_blank, every}
use Rattle.marks_on_a_card.specs.Marks.{Mark, text, seat, process, number, decimal, outside}

-- ---- signs, by their bytes

abbrev pub signs : List String
signs =
    "[" ∷ "]" ∷ ":" ∷ ";" ∷ "=" ∷ "!" ∷ "&" ∷ "|" ∷ "(" ∷ ")" ∷ "+" ∷ "'" ∷ "," ∷ "/"
    ∷ ".." ∷ "->" ∷ "!="
    ∷ []

pub data OneOf (w : List ℕ) : List String → Type 0 where
  this : {t : String} {ts : List String} → w ≡ bytes t → OneOf w (t ∷ ts)
  later : {t : String} {ts : List String} → OneOf w ts → OneOf w (t ∷ ts)

-- ---- numbers

-- digits, and the number that they spell: each counts so many tens, hundreds and so on as stand behind it
pub data Digits : List ℕ → ℕ → Type 0 where
  none : Digits [] 0
  digit : {b v : ℕ} {s : List ℕ} → is_digit b ≡ true → Digits s v → Digits (b ∷ s) ((b - 48) * 10 ^ length s + v)

-- one digit or more
pub record Numeral (s : List ℕ) (v : ℕ) : Type 0 where
  pub digits : Digits s v
  pub some : 0 < length s

-- a number of so many digits at most: `0`, or without a leading zero
pub record Number (most : ℕ) (s : List ℕ) (v : ℕ) : Type 0 where
  pub numeral : Numeral s v
  pub short : length s ≤ most
  pub leading : (t : List ℕ) → s ≡ 48 ∷ t → length t ≡ 0

-- ---- words

-- a letter, then letters, digits, underscores
pub data Word : List ℕ → Type 0 where
  word : {b : ℕ} {s : List ℕ} → is_letter b ≡ true → every in_word s ≡ true → Word (b ∷ s)

-- a beginning and a number
abbrev pub NumberedWord : String → List ℕ → ℕ → Type 0
NumberedWord t w i = (s : List ℕ) × (w ≡ bytes t ++ s) × Number word_digits s i

-- ---- bytes with which nothing within the rules begins

pub record Stray (b : ℕ) : Type 0 where
  pub no_blank : is_blank b ≡ false
  pub no_letter : is_letter b ≡ false
  pub no_digit : is_digit b ≡ false
  pub no_sign : OneOf (b ∷ []) signs → ⊥

-- ---- the marks

pub data Spells : List ℕ → Mark → Type 0 where
  sign : {w : List ℕ} → OneOf w signs → Spells w (text w)
  seat_word : {w : List ℕ} {i : ℕ} → NumberedWord "s" w i → Spells w (seat i)
  module_word : {w : List ℕ} {i : ℕ} → NumberedWord "process" w i → Spells w (process i)
  -- any other word, keywords among them: where each of these is due is the grammar's
  other_word : {w : List ℕ}
      → Word w → ((i : ℕ) → NumberedWord "s" w i → ⊥) → ((i : ℕ) → NumberedWord "process" w i → ⊥)
      → Spells w (text w)
  a_number : {s : List ℕ} {v : ℕ} → Number number_digits s v → Spells s (number v)
  a_decimal : {s f : List ℕ} {v u : ℕ}
      → Number number_digits s v → Numeral f u → length f ≤ further_digits
      → Spells (s ++ (bytes "." ++ f)) (decimal v (length f) u)
  -- outside the rules: digits that are no number; a point and digits behind them, or too many digits behind a number's point; a stray byte
  wrong_number : {s : List ℕ} {v : ℕ} → Numeral s v → ((u : ℕ) → Number number_digits s u → ⊥) → Spells s outside
  wrong_whole : {s f : List ℕ} {v u : ℕ}
      → Numeral s v → ((u : ℕ) → Number number_digits s u → ⊥) → Numeral f u
      → Spells (s ++ (bytes "." ++ f)) outside
  wrong_further : {s f : List ℕ} {v u : ℕ}
      → Number number_digits s v → Numeral f u → further_digits < length f
      → Spells (s ++ (bytes "." ++ f)) outside
  stray : {b : ℕ} → Stray b → Spells (b ∷ []) outside
