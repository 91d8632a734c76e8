-- A group in a question ("2026-01"). Assumes nothing.
use Rattle.std.specs.Prelude.{eqb}
use Rattle.card.specs.Text.{when◌then◌else◌}
use Rattle.card.specs.Card.{everyone}
use Rattle.card.specs.Laid.{kind_number}
use Rattle.group.specs.declared.Grouped.{Grouped}

-- a group, with a want only if it is one of everyone
abbrev pub unwanted : Grouped → Grouped
unwanted g = record { next = g.next; want = 0; kind = g.kind; node = g.node; d = g.d; first = g.first }

abbrev pub of_all : Grouped → Grouped
of_all g = when eqb g.kind (kind_number everyone) then g else unwanted g
