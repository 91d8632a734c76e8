-- `stored_weights::stays_of` meets its contract: after i turns the weights of the first i statements are added. Assumes nothing.
use Rattle.stored_weights.proofs.Laws.{stays_start, stays_next, stays_still, stays_adding}
use mathlib.Core.Path.{◌∙◌}
use Rattle.stored_weights.proofs.stays_of.Goals as goal
use Rattle.stored_weights.proofs.stays_of.Goals.{then-able-ne0, else-able-ne0}

pub loop-i-init : goal.loop-i-init
loop-i-init c = (stays_start c.args.table.now c.args.rows.now c.args.branches.now)

pub add_stays-requires : goal.add_stays-requires
add_stays-requires c =
    stays_adding c.requires c.loop-i.i c.loop-i-test.true c.loop-i.invariant

pub loop-i-preserved : goal.loop-i-preserved
loop-i-preserved c =
    let more = stays_next c.args.table.now c.args.rows.now c.args.branches.now c.loop-i.i c.loop-i.invariant in
    elim c.if-able-ne0.branch [
      | then-able-ne0 w ↦ w.stays-is ∙ w.add_stays.ensures ∙ more
      | else-able-ne0 w ↦ w.stays-is ∙ stays_still c.args.table.now c.args.rows.now c.args.branches.now c.loop-i.i w.if-able-ne0.false c.loop-i.invariant
    ]
