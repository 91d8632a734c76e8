-- What the panel program prints for what it reads ("Texts, byte for byte", the paragraph on the program). Assumes nothing.
use Rattle.std.specs.Prelude.{ℕ, List, [], ◌∷◌, map, eqb, take}
use Rattle.card.specs.Text.{when◌then◌else◌}
use Rattle.panel_said.specs.PanelSaid.{panel_said}
pub use Rattle.panel_wording.specs.Lines.{input_bytes, line_end, no_state, seat_of, printed, refusal_most, Printed}

-- a line of seats, up to LF; without LF it is all there is
unfoldable pub seats_line : List ℕ → List ℕ
seats_line [] = []
seats_line (b ∷ s) = when eqb b line_end then [] else b ∷ seats_line s

-- then the card; without LF it is empty
unfoldable pub card_behind : List ℕ → List ℕ
card_behind [] = []
card_behind (b ∷ s) = when eqb b line_end then s else card_behind s

-- for an input of at most so many bytes
unfoldable pub answer_to : List ℕ → List ℕ
unfolding seats_line card_behind
answer_to s = printed (panel_said (card_behind s) (map seat_of (seats_line s)))

-- what is printed for any input
unfoldable pub program_of : List ℕ → List ℕ
unfolding answer_to
program_of input = answer_to (take input_bytes input)
