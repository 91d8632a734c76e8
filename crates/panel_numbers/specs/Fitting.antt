-- What the functions that fill the table, and rows of weights, ask of their caller: numbers that fit, so that no sum runs over. Assumes nothing.
use Rattle.std.specs.Prelude.{ℕ, ◌*◌, ◌≤◌, ◌<◌, ◌≡◌, List, length, get_or}
use Rattle.card.specs.Limits.{most_seats, top_state, most_shared, most_statements, most_branches, branch_places, unit}
use Rattle.card.specs.Laid.{zeros}
use Rattle.card.specs.Rows.{row_of, FitRows}
use Rattle.card.specs.Lent.{Lent, card_in, HoldsIn}
use Rattle.card.specs.declared.Head.{Head}
use Rattle.meaning.specs.Seats.{Seating, ValidSeating}
use Rattle.meaning.specs.ByCounts.{units_into}
use Rattle.panel_numbers.specs.Table.{table_places, shared_in, able_in, weighing_row}

-- none is above m
abbrev pub Most : ℕ → List ℕ → Type 0
Most m v = (i : ℕ) → get_or v i 0 ≤ m

-- no weight is above it
abbrev pub heaviest : ℕ
heaviest = most_statements * (most_seats * unit)

pub record FewAble (table : List ℕ) (count : ℕ) : Type 0 where
  pub statements : count ≤ most_statements
  pub seats : (i : ℕ) → i < count → able_in table i ≤ most_seats

-- so many branches of statement i, added to n weights for so many seats, where the shared number is g
pub record Adding (able g i many : ℕ) (branches : List ℕ) (n : ℕ) (weights : List ℕ) : Type 0 where
  pub few : able ≤ most_seats
  pub shared : g < most_shared
  pub statement : i < most_statements
  pub fit : many ≤ most_branches
  pub there : length branches ≡ branch_places
  pub light : Most heaviest weights
  pub long : length weights ≡ n

-- rows and branches of a valid card with top state k
pub record Fitting (k : ℕ) (rows branches : List ℕ) (count : ℕ) : Type 0 where
  pub top : k ≤ top_state
  pub fit : FitRows rows count
  pub there : length branches ≡ branch_places
  pub own : (i : ℕ) → i < count → (row_of rows i).own ≤ k
  pub units : (i : ℕ) → i < count → (g b h : ℕ) → units_into g b h (weighing_row rows branches i).branches ≤ unit

-- and a table that has its ables and the shared number
pub record Weighing (h : Head) (rows branches table : List ℕ) : Type 0 where
  pub fitting : Fitting h.top rows branches h.count
  pub able : FewAble table h.count
  pub shared : shared_in table < most_shared

-- an empty table, a card that lies there and a seating of it
pub record Filling (table : List ℕ) (h : Head) (x : Lent) (seats : Seating) : Type 0 where
  pub empty : table ≡ zeros table_places
  pub holds : HoldsIn h x
  pub seating : ValidSeating (card_in h x) seats
