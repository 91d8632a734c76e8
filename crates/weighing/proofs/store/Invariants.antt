-- `weighing::store` meets its contract: after d turns the first d numbers are stored. Assumes nothing.
use Rattle.panel_numbers.specs.Table.{over}
use mathlib.Core.Path.{◌≡◌}
use lib.ListN.{get_or}
use Rattle.weighing.proofs.store.Given as goal

abbrev pub invariant-loop-d : goal.invariant-loop-d
invariant-loop-d l = l.table ≡ over l.from l.d (λ e. get_or l.numbers e 0) l.initial.table
