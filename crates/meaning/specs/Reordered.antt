-- The same seats in another order: what it means for one seating to be another, reordered. The shared number is none of the seats'. Assumes nothing.
use Rattle.std.specs.Prelude.{ℕ, ◌≡◌, List, [], ◌∷◌}
use Rattle.meaning.specs.Seats.{Seating}

-- neighbours change places, again and again
pub data Swapped : List ℕ → List ℕ → Type 0 where
  done : Swapped [] []
  keep : (a : ℕ) {x y : List ℕ} → Swapped x y → Swapped (a ∷ x) (a ∷ y)
  swap : (a b : ℕ) (x : List ℕ) → Swapped (a ∷ b ∷ x) (b ∷ a ∷ x)
  then : {x y z : List ℕ} → Swapped x y → Swapped y z → Swapped x z

pub record Reordered (x y : Seating) : Type 0 where
  pub seats : Swapped x.each y.each
  pub shared : x.shared ≡ y.shared
