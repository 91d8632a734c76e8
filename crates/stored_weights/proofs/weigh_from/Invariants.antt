-- `stored_weights::weigh_from` meets its contract: after i turns the row has the weights of the first i statements. Assumes nothing.
use Rattle.panel_numbers.specs.Table.{row_from}
use mathlib.Core.Path.{◌≡◌}
use Rattle.stored_weights.proofs.weigh_from.Given as goal

abbrev pub invariant-loop-i : goal.invariant-loop-i
invariant-loop-i l = l.row ≡ row_from l.table l.rows l.branches l.i l.old
