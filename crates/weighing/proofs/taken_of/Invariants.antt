-- `weighing::taken_of` meets its contract: after i turns the sum is that of the first i statements, and no more than all seats for each.
-- Assumes nothing.
use mathlib.Core.Path.{◌≡◌}
use Rattle.card.specs.Card.{nondeterministic, probabilistic}
use Rattle.card.specs.Laid.{either}
use Rattle.panel_numbers.specs.Table.{taken_in}
use Rattle.weighing.proofs.taken_of.Given as goal

abbrev pub invariant-loop-able : goal.invariant-loop-able
invariant-loop-able l = l.taken ≡ taken_in (either nondeterministic probabilistic l.mode) l.table l.able-index
