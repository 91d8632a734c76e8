-- What it is for a list of positions to be complete, without repetition, and in order (document 02, 2026-08 and 2026-10). Assumes nothing.
use Rattle.std.specs.Prelude.{ℕ, ◌<◌, ◌≡◌, [], length, get_or}
use Rattle.meaning.specs.Position.{Position, position}
use Rattle.vectors.specs.Positions.{IsPosition, positions, Earlier, place_of}

-- what stands at a place of the list
abbrev pub listed_at : ℕ → ℕ → ℕ → ℕ → Position
listed_at p n values i = get_or (positions p n values) i (position [] 0)

pub record Listed (p n values : ℕ) : Type 0 where
  pub complete : (x : Position) → IsPosition p n values x → (place_of values x < length (positions p n values)) × (listed_at p n values (place_of values x) ≡ x)
  pub only : (i : ℕ) → i < length (positions p n values) → IsPosition p n values (listed_at p n values i)
  pub once : (i : ℕ) → i < length (positions p n values) → place_of values (listed_at p n values i) ≡ i
  pub rising : (i j : ℕ) → i < j → j < length (positions p n values) → Earlier (listed_at p n values i) (listed_at p n values j)
