-- Which relation is due in a term of an exactly-one ("2026-01"). Assumes nothing.
use Rattle.std.specs.Prelude.{ℕ, eqb}
use Rattle.card.specs.Text.{when◌then◌else◌}
use Rattle.card.specs.Card.{is, isnt}
use Rattle.card.specs.Laid.{relation_number}

-- the number of the relation that is due in the i-th term, to a literal of this seat
abbrev pub due_number : ℕ → ℕ → ℕ
due_number i seat = when eqb seat i then relation_number is else relation_number isnt
