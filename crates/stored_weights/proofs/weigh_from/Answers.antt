-- `stored_weights::weigh_from` meets its contract: after i turns the row has the weights of the first i statements. Assumes nothing.
use Rattle.stored_weights.proofs.Laws.{row_start, row_next, row_still, row_adding}
use mathlib.Core.Path.{◌∙◌}
use Rattle.stored_weights.proofs.weigh_from.Goals as goal
use Rattle.stored_weights.proofs.weigh_from.Goals.{then-able-ne0, else-able-ne0}

pub loop-i-init : goal.loop-i-init
loop-i-init c = (c.requires.1 ∙ row_start c.args.table.now c.args.rows.now c.args.branches.now c.args.old)

pub add_weights-requires : goal.add_weights-requires
add_weights-requires c =
    row_adding c.requires.0 c.loop-i.i c.loop-i-test.true c.args.old c.able_from-able.ensures c.loop-i.invariant

pub loop-i-preserved : goal.loop-i-preserved
loop-i-preserved c =
    let more = row_next c.args.table.now c.args.rows.now c.args.branches.now c.loop-i.i c.args.old c.able_from-able.ensures c.loop-i.invariant in
    elim c.if-able-ne0.branch [
      | then-able-ne0 w ↦ w.row-is ∙ w.add_weights.ensures ∙ more
      | else-able-ne0 w ↦ w.row-is ∙ row_still c.args.table.now c.args.rows.now c.args.branches.now c.loop-i.i c.args.old c.able_from-able.ensures w.if-able-ne0.false c.loop-i.invariant
    ]
