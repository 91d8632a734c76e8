-- The number that all seats share, for the code: how many values it has, 0 where none is declared (document 02, 2026-10). Assumes nothing.
use Rattle.std.specs.Prelude.{ℕ, zero, suc, Bool, true, false}
use Rattle.std.proofs.Math.Option.{Option, none, some}
use Rattle.reading.specs.Shape.{Range}

abbrev pub values_in : Option Range → ℕ
values_in none = 0
values_in (some r) = suc r.top

-- is one declared? and the most that it may be
abbrev pub shares : ℕ → Bool
shares zero = false
shares (suc m) = true

abbrev pub most_of : ℕ → ℕ
most_of zero = 0
most_of (suc m) = m

-- what it starts at
abbrev pub initial_in : Option Range → ℕ
initial_in none = 0
initial_in (some r) = r.start.value
