-- The entries before a new one: those from the first on whose number is lower. Assumes nothing.
use Rattle.std.specs.Prelude.{ℕ, ◌+◌, ◌≡◌, List, [], ◌∷◌, ltb, length}
use Rattle.card.specs.Text.{when◌then◌else◌}
use Rattle.deck.specs.Contents.{Row, behind}
use Rattle.deck_written.specs.WriteDeckSaid.{sizes}
use Rattle.gathering.specs.LiveText.{rows_in}
use Rattle.placing.specs.declared.Spot.{Spot}

abbrev pub lower_rows : ℕ → List Row → List Row
lower_rows number [] = []
lower_rows number (r ∷ rs) = when ltb r.number number then r ∷ lower_rows number rs else []

-- where a new entry and its body go, among `count` entries whose bodies have no gaps
pub record Spots (deck : List ℕ) (count number : ℕ) (r : Spot) : Type 0 where
  pub row : r.row ≡ behind (length (lower_rows number (rows_in count deck)))
  pub body : r.body ≡ behind count + sizes (lower_rows number (rows_in count deck))
