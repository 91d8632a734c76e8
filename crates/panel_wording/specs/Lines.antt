-- What of the input is read, the seats of a line, and what is printed for an answer ("Texts, byte for byte", the paragraph on the program). Assumes nothing.
use Rattle.std.specs.Prelude.{ℕ, ◌-◌, ◌≤◌, ◌≡◌, ◌&&◌, List, [], ◌++◌, leb, length, drop}
use Rattle.card.specs.Text.{when◌then◌else◌}
use Rattle.room.specs.Digits.{digit}
use Rattle.entry.specs.Said.{says as text, refused}
use Rattle.room.specs.Answer.{Text}
use Rattle.phrases.specs.Phrases.{◌▸◌, num}

-- bytes behind these are not read
abbrev pub input_bytes : ℕ
input_bytes = 65536

-- LF
abbrev pub line_end : ℕ
line_end = 10

-- a seat that is no digit is in no card's states
abbrev pub no_state : ℕ
no_state = 255

abbrev pub seat_of : ℕ → ℕ
seat_of b = when leb (digit 0) b && leb b (digit 9) then b - digit 0 else no_state

-- a text as it is, a refusal as a line
abbrev pub printed : Text → List ℕ
printed (text t) = t
printed (refused number place) = "refused " ▸ num number (" " ▸ num place ("\n" ▸ []))

-- bytes that are enough for a refusal's line: its number has at most three digits, and its place twenty
abbrev pub refusal_most : ℕ
refusal_most = 33

-- the room `was` became `is`: a text that fits stands at its start, and the bytes behind it are as they were
pub record Printed (was is t : List ℕ) (long : ℕ) : Type 0 where
  pub fits : length t ≤ length was
  pub length_is : long ≡ length t
  pub stands : is ≡ t ++ drop (length t) was
