-- A room that the panel of every valid card fits into, at any of its seatings. Assumes nothing.
use Rattle.std.specs.Prelude.{ℕ, ◌+◌, ◌*◌, ◌≤◌, List, length}
use Rattle.card.specs.Limits.{most_states, most_statements, most_branches}
use Rattle.card.specs.declared.Head.{Head}
use Rattle.panel_wording.specs.PanelText.{panel_text}
use Rattle.panel_wording.specs.PanelIn.{Showing, panel_in}

-- the mode's word, the seats, the enabled pairs, a count of two digits for each state, and the shared number
abbrev pub head_most : ℕ
head_most = 16 + (7 + 2) + (10 + 3) + (7 + 3 * most_states) + 9

-- a weight that many seats and statements add up to
abbrev pub weight_digits : ℕ
weight_digits = 9

-- "move 0 1 277200 7\n"; a line of no change is shorter
abbrev pub line_most : ℕ
line_most = 12 + weight_digits

-- "choice 32\n", and at most a line for each branch
abbrev pub choice_most : ℕ
choice_most = 10 + most_branches * line_most

abbrev pub panel_room : ℕ
panel_room = head_most + most_statements * choice_most

-- a table of a valid card and a seating of it, whose panel fits there
pub record Printable (h : Head) (table rows branches : List ℕ) : Type 0 where
  pub showing : Showing h table rows branches
  pub short : length (panel_text (panel_in h table rows branches)) ≤ panel_room
