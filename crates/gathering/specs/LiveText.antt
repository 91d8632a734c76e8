-- The live entries of a deck's contents as they stand in a tidied deck: their eight bytes, and their bodies. Assumes nothing.
use Rattle.std.specs.Prelude.{ℕ, ◌+◌, ◌≤◌, List, [], ◌∷◌, map, length, drop}
use Rattle.card.specs.Limits.{deck_bytes, count_bytes, most_cards}
use Rattle.card.specs.Text.{when◌then◌else◌}
use Rattle.deck.specs.Contents.{Row, rows_of, end_of, behind}
use Rattle.deck.specs.Deck.{live_of, entry_of, row_text, rows_text, bodies}
use Rattle.deck_written.specs.WriteDeckSaid.{line_for, lines_for, sizes}
use Rattle.gathering.specs.LiveRows.{live_rows}

-- an entry with its body at `offset`; a withdrawn one leaves nothing
abbrev pub row_stays : (offset : ℕ) → Row → List ℕ
row_stays offset r = when live_of r then row_text (line_for offset r) [] else []

-- so many entries from the first on
abbrev pub rows_in : (count : ℕ) (deck : List ℕ) → List Row
rows_in count deck = rows_of count (drop count_bytes deck)

abbrev pub rows_stay : (first : ℕ) → List Row → List ℕ
rows_stay first rs = rows_text (lines_for first (live_rows rs)) []

abbrev pub bodies_stay : (deck : List ℕ) → List Row → List ℕ
bodies_stay deck rs = bodies (map (entry_of deck) (live_rows rs))

-- the contents are inside, and offsets from `first` on have two bytes
pub record Offsets (deck : List ℕ) (count first : ℕ) : Type 0 where
  pub whole : behind count ≤ length deck
  pub small : behind count ≤ deck_bytes
  pub short : first + sizes (live_rows (rows_in count deck)) ≤ deck_bytes

-- bodies that lie ahead: each starts where the one before ends at the earliest, and ends inside
abbrev pub Ahead : (long to : ℕ) → List Row → Type 0
Ahead long to [] = to ≤ long
Ahead long to (r ∷ rs) = (to ≤ r.offset) × (end_of r ≤ long) × Ahead long (end_of r) rs

-- contents whose bodies can be gathered behind them
pub record Gatherable (deck : List ℕ) (count : ℕ) : Type 0 where
  pub whole : behind count ≤ length deck
  pub few : count ≤ most_cards
  pub ahead : Ahead (length deck) (behind count) (rows_in count deck)
