-- Numbers written into an array from a place on; what falls outside the array is dropped. Assumes nothing.
use Rattle.std.specs.Prelude.{ℕ, ◌+◌, List, [], ◌∷◌, set}

unfoldable pub stored : List ℕ → ℕ → List ℕ → List ℕ
stored array at [] = array
stored array at (x ∷ xs) = stored (set array at x) (at + 1) xs
