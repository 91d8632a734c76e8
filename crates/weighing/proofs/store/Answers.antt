-- `weighing::store` meets its contract: after d turns the first d numbers are stored. Assumes nothing.
use Rattle.panel_numbers.proofs.Stored.{over_start, over_next}
use mathlib.Core.Path.{refl}
use lib.ListN.{get_or}
use Rattle.weighing.proofs.store.Goals as goal

pub loop-d-init : goal.loop-d-init
loop-d-init c = over_start c.args.from (λ e. get_or c.args.numbers.now e 0) c.args.table.now

pub loop-d-preserved : goal.loop-d-preserved
loop-d-preserved c =
    over_next c.args.from (λ e. get_or c.args.numbers.now e 0) c.args.table.now c.loop-d.d c.loop-d.invariant refl refl
