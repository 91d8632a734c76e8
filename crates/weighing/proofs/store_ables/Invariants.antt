-- `weighing::store_ables` meets its contract: after i turns the first i statements have their number. Assumes nothing.
use mathlib.Core.Path.{◌≡◌}
use Rattle.meaning.specs.Position.{position}
use Rattle.panel_numbers.specs.Table.{over, ables_from, able_at}
use Rattle.weighing.proofs.store_ables.Given as goal

abbrev pub invariant-loop-i : goal.invariant-loop-i
invariant-loop-i l = l.table ≡ over ables_from l.i (able_at l.head.seats (position l.counts l.shared) l.nodes l.rows) l.initial.table
