-- Who may take a statement, and what it weighs, from the parts in which a card's arrays hold it. Assumes nothing.
use Rattle.std.specs.Prelude.{ℕ, List}
use Rattle.std.proofs.Math.Option.{Option}
use Rattle.card.specs.Limits.{most_states}
use Rattle.card.specs.Card.{Guard, Branch}
use Rattle.meaning.specs.Sums.{gate, upto}
use Rattle.meaning.specs.Position.{Position}
use Rattle.meaning.specs.Reduced.{no_of}
use Rattle.meaning.specs.ByCounts.{held_or, units_to}

-- how many of n seats, at counts v and the shared number beside them, are in state j and have the guard hold for them
unfoldable pub takers : ℕ → Position → ℕ → Option Guard → ℕ
takers n v j g = gate (held_or n j v g) (no_of v.each j)

-- the units of some branches to each state that there can be
unfoldable pub units_to_each : List Branch → List ℕ
unfolding units_to
units_to_each l = upto most_states (λ t. units_to t l)
