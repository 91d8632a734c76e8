-- `weighing::store_ables` meets its contract: after i turns the first i statements have their number. Assumes nothing.
use mathlib.Core.Path.{refl}
use Rattle.meaning.specs.Position.{position}
use Rattle.panel_numbers.proofs.Stored.{over_start, over_next}
use Rattle.panel_numbers.specs.Table.{ables_from, able_at}
use Rattle.weighing.proofs.store_ables.Goals as goal

pub loop-i-init : goal.loop-i-init
loop-i-init c = over_start ables_from (able_at c.args.head.seats (position c.args.counts.now c.args.shared) c.args.nodes.now c.args.rows.now) c.args.table.now

pub loop-i-preserved : goal.loop-i-preserved
loop-i-preserved c =
    over_next ables_from (able_at c.args.head.seats (position c.args.counts.now c.args.shared) c.args.nodes.now c.args.rows.now) c.args.table.now c.loop-i.i c.loop-i.invariant refl c.able-able.ensures
