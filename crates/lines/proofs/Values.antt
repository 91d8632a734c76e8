-- How many values the shared number takes, as the code tells it: one where there is none. Assumes nothing.
use Prim.Native.Nat.{ℕ, zero, suc, max}
use mathlib.Core.Path.{◌≡◌, refl}
use native.Mathlib.Omega.{arith}
use Rattle.meaning.specs.Sums.{or_one}

pub values_are : (shared : ℕ) → max shared 1 ≡ or_one shared
values_are zero = refl
values_are (suc most) = omega arith
