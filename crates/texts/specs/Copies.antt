-- The copies of a statement in the reduced program: what its branches become, and how many copies there are. Assumes
-- nothing.
use Rattle.std.specs.Prelude.{ℕ}
use Rattle.card.specs.Card.{Mode, nondeterministic, probabilistic, Branch}
use Rattle.meaning.specs.Reduced.{update_of, Outcome}

-- what a branch of a statement with local state j becomes
abbrev pub outcome_of : ℕ → ℕ → Branch → Outcome
outcome_of n j b = record { units = b.units; update = update_of n j b.end; sets = b.sets }

-- how many copies a statement has
abbrev pub reduced_copies : Mode → ℕ → ℕ
reduced_copies nondeterministic n = 1
reduced_copies probabilistic n = n
