-- `stored_weights::stays_of` meets its contract: after i turns the weights of the first i statements are added. Assumes nothing.
use Rattle.panel_numbers.specs.Table.{stays as stays_of}
use mathlib.Core.Path.{◌≡◌}
use Rattle.stored_weights.proofs.stays_of.Given as goal

abbrev pub invariant-loop-i : goal.invariant-loop-i
invariant-loop-i l = l.stays ≡ stays_of l.table l.rows l.branches l.i
