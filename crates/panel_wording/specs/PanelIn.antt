-- The panel that a table holds, of a card that lies in lent arrays: what the code prints. Assumes nothing.
use Rattle.std.specs.Prelude.{ℕ, zero, suc, ◌+◌, ◌≤◌, ◌≡◌, Bool, true, false, List, [], ◌∷◌, eqb, ltb, length, get_or, take}
use Rattle.std.proofs.Math.Option.{Option, none, some}
use Rattle.card.specs.Limits.{top_state, most_shared}
use Rattle.card.specs.Text.{when◌then◌else◌}
use Rattle.card.specs.Card.{Mode, nondeterministic, probabilistic, Statement}
use Rattle.card.specs.declared.Head.{Head}
use Rattle.meaning.specs.Sums.{or_one, upto, flat}
use Rattle.meaning.specs.Panel.{Block, block, Panel}
use Rattle.meaning.specs.ByCounts.{stay_of, move_of}
use Rattle.panel_numbers.specs.Table.{enabled_place, shared_in, stay_in, able_in, weighing_row, weight_places, move_by, mode_in}
use Rattle.panel_numbers.specs.Fitting.{Weighing}

-- numbers that fit: of a valid card and of a table of it
pub record Showing (h : Head) (table rows branches : List ℕ) : Type 0 where
  pub weighing : Weighing h rows branches table
  pub values : h.shared ≤ most_shared

-- a row of weights of such a card
pub record Row (k shared : ℕ) (row : List ℕ) : Type 0 where
  pub top : k ≤ top_state
  pub values : shared ≤ most_shared
  pub long : length row ≡ weight_places

-- the shared number, where the card has one: where it has so many values, and not 0
abbrev pub shown_if : ℕ → ℕ → Option ℕ
shown_if zero g = none
shown_if (suc most) g = some g

abbrev pub tells : ℕ → Bool
tells zero = false
tells (suc most) = true

-- the block of statement i, if so many as are able are any; the shared number is g and has so many values
unfoldable pub choice_if : ℕ → ℕ → ℕ → ℕ → ℕ → Statement → List Block
unfolding block stay_of move_of
choice_if k values g i able s = when ltb 0 able then block k values (some (suc i)) (stay_of g s) (move_of g s) ∷ [] else []

abbrev pub choice_at : ℕ → ℕ → List ℕ → List ℕ → List ℕ → ℕ → List Block
choice_at k values table rows branches i = choice_if k values (shared_in table) i (able_in table i) (weighing_row rows branches i)

abbrev pub choices_in : ℕ → ℕ → List ℕ → List ℕ → List ℕ → ℕ → List Block
choices_in k values table rows branches count = flat (upto count (choice_at k values table rows branches))

-- the table of a nondeterministic card has a weight of no change only where no choice can be taken: it stands at place 0
abbrev pub choices_or : ℕ → ℕ → List Block → List Block
choices_or g stay l = when eqb stay 0 then l else record { choice = some 0; stays = record { weight = stay; shared = g } ∷ []; moves = [] } ∷ []

abbrev pub blocks_in : Mode → ℕ → ℕ → List ℕ → List ℕ → List ℕ → ℕ → List Block
blocks_in nondeterministic k values table rows branches count = choices_or (shared_in table) (stay_in table (shared_in table)) (choices_in k values table rows branches count)
blocks_in probabilistic k values table rows branches count = block k values none (stay_in table) (move_by table rows branches count) ∷ []

unfoldable pub panel_in : Head → List ℕ → List ℕ → List ℕ → Panel
unfolding block choice_if move_by
panel_in h table rows branches = record {
  mode = mode_in h;
  seats = h.seats;
  enabled = get_or table enabled_place 0;
  counts = take (h.top + 1) table;
  shared = shown_if h.shared (shared_in table);
  blocks = blocks_in (mode_in h) h.top (or_one h.shared) table rows branches h.count;
}
