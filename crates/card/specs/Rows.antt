-- A card's statements as rows of numbers, which can be lent. Assumes nothing.
use Rattle.std.specs.Prelude.{ℕ, zero, suc, ◌+◌, ◌*◌, ◌≤◌, ◌<◌, List, [], ◌∷◌, get_or}
use Rattle.card.specs.Limits.{most_statements, most_nodes, most_branches, row_numbers}
use Rattle.card.specs.declared.Statement.{Statement as StatementRow}

abbrev pub row : ℕ → ℕ → ℕ → StatementRow
row own nodes branches = record { own = own; nodes = nodes; branches = branches }

-- the row of statement i, where each has its numbers one after the other
abbrev pub row_of : List ℕ → ℕ → StatementRow
row_of rows i = row (get_or rows (i * row_numbers) 0) (get_or rows (i * row_numbers + 1) 0) (get_or rows (i * row_numbers + 2) 0)

-- all of them
unfoldable pub rows_of : List StatementRow → List ℕ
rows_of [] = []
rows_of (x ∷ xs) = x.own ∷ x.nodes ∷ x.branches ∷ rows_of xs

-- the rows of so many statements from i on
abbrev pub rows_from : List ℕ → ℕ → ℕ → List StatementRow
rows_from rows i zero = []
rows_from rows i (suc count) = row_of rows i ∷ rows_from rows (suc i) count

-- the nodes and branches of a row have their places in the card's arrays
pub record FitsRow (x : StatementRow) : Type 0 where
  pub nodes : x.nodes ≤ most_nodes
  pub branches : x.branches ≤ most_branches

pub record FitRows (rows : List ℕ) (count : ℕ) : Type 0 where
  pub few : count ≤ most_statements
  pub each : (i : ℕ) → i < count → FitsRow (row_of rows i)
