-- `filling::fill` meets its contract: each step stores what the definition stores. Assumes nothing.
use Rattle.weighing.proofs.Filled.{counts_long, prefix_fits, shared_fits, able_fits, filled_stuck, weighing_fits, filled}
use Rattle.seating.specs.Judged.{seating_in}
use Rattle.card.proofs.HeldIn.{holds_top, holds_count}
use lib.Seq.{length-take-le}
use native.Mathlib.Omega.{arith}
use mathlib.Core.Path.{◌≡◌, sym, ◌∙◌}
use Prim.Native.Nat.{◌+◌}
use lib.ListN.{set}
use Rattle.panel_numbers.specs.Table.{enabled_place, stays_from}
use Rattle.filling.proofs.fill.Goals as goal

-- where none can be taken, the stuck weight is stored as that of no change
stuck-stored : (c : goal.After-store_stuck)
    →
    let shared = c.shared_of-shared.result in
    c.store_stuck.new.table ≡ set (set c.store_ables.new.table enabled_place 1) (stays_from + shared) c.stuck_weight-weight.result
stuck-stored c = c.store_stuck.ensures

pub slice_bounds-store-end : goal.slice_bounds-store-end
slice_bounds-store-end c =
    sym (counts_long (seating_in c.args.head.seats c.args.head.shared c.args.seats.now) c.count_seats-counts.ensures)

pub store-requires : goal.store-requires
store-requires c =
    omega (arith, counts_long (seating_in c.args.head.seats c.args.head.shared c.args.seats.now) c.count_seats-counts.ensures)

pub overflow_add-states : goal.overflow_add-states
overflow_add-states c =
    omega (arith, holds_top c.requires.holds)

pub slice_bounds-counts-end : goal.slice_bounds-counts-end
slice_bounds-counts-end c =
    prefix_fits c.requires c.count_seats-counts.ensures c.shared_of-shared.ensures c.store.ensures

pub slice_bounds-store_ables-end : goal.slice_bounds-store_ables-end
slice_bounds-store_ables-end c =
    sym (length-take-le _ c.count_seats-counts.result (prefix_fits c.requires c.count_seats-counts.ensures c.shared_of-shared.ensures c.store.ensures))

pub store_ables-requires : goal.store_ables-requires
store_ables-requires c =
    holds_count c.requires.holds

pub taken_of-taken-requires : goal.taken_of-taken-requires
taken_of-taken-requires c =
    able_fits c.requires c.count_seats-counts.ensures c.shared_of-shared.ensures c.store.ensures c.store_ables.ensures

pub overflow_add-stay : goal.overflow_add-stay
overflow_add-stay c =
    omega (arith, shared_fits c.requires c.count_seats-counts.ensures c.shared_of-shared.ensures c.store.ensures)

pub store_stuck-requires : goal.store_stuck-requires
store_stuck-requires c =
    omega (arith, shared_fits c.requires c.count_seats-counts.ensures c.shared_of-shared.ensures c.store.ensures)

pub returns-then-taken-eq0 : goal.returns-then-taken-eq0
returns-then-taken-eq0 c =
    stuck-stored c
    ∙ filled_stuck c.requires c.count_seats-counts.ensures c.shared_of-shared.ensures c.store.ensures c.store_ables.ensures c.taken_of-taken.ensures c.if-taken-eq0.true c.stuck_weight-weight.ensures

pub store_stays-requires : goal.store_stays-requires
store_stays-requires c =
    weighing_fits c.requires c.count_seats-counts.ensures c.shared_of-shared.ensures c.store.ensures c.store_ables.ensures c.taken_of-taken.ensures

pub returns : goal.returns
returns c =
    filled c.requires c.count_seats-counts.ensures c.shared_of-shared.ensures c.store.ensures c.store_ables.ensures c.taken_of-taken.ensures c.if-taken-eq0.false c.store_stays.ensures
