-- `stored_weights::store_stays` meets its contract: nothing on a nondeterministic card, and else the weights of no change one after the other. Assumes nothing.
use Rattle.stored_weights.proofs.Laws.{stays_long, stored, stored_none}
use native.Mathlib.Omega.{arith}
use mathlib.Core.Path.{sym, ◌∙◌}
use Rattle.stored_weights.proofs.store_stays.Goals as goal

pub returns-then-head-eq-NONDETERMINISTIC : goal.returns-then-head-eq-NONDETERMINISTIC
returns-then-head-eq-NONDETERMINISTIC c = stored_none _ _ _ _ _ c.if-head-eq-NONDETERMINISTIC.true

pub stays_of-stays-requires : goal.stays_of-stays-requires
stays_of-stays-requires c =
    c.requires

pub slice_bounds-store-end : goal.slice_bounds-store-end
slice_bounds-store-end c =
    sym (stays_long _ _ _ _ c.stays_of-stays.ensures)

pub store-requires : goal.store-requires
store-requires c =
    omega (arith, stays_long _ _ _ _ c.stays_of-stays.ensures)

pub returns : goal.returns
returns c =
    c.store.ensures ∙ stored c.args.table.now c.args.rows.now c.args.branches.now c.args.head.mode c.args.head.count c.if-head-eq-NONDETERMINISTIC.false c.stays_of-stays.ensures
