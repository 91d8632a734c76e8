-- `placing::insert_card` meets its contract: room for both, body, entry, count and offsets, one step after the other. Assumes nothing.
use Rattle.placing.proofs.Inserted.{body_inside, row_inside, row_before, long1, offsets, inserted}
use Prim.Native.Nat.{suc, ◌+◌}
use mathlib.Core.Path.{◌≡◌}
use native.Mathlib.Omega.{arith}
use Rattle.placing.proofs.insert_card.Goals as goal

pub overflow_add-body : goal.overflow_add-body
overflow_add-body c =
    omega (arith, c.requires.room, c.requires.short, body_inside _ c.requires c.spot_for-row.ensures)

pub overflow_add-body-2 : goal.overflow_add-body-2
overflow_add-body-2 c =
    omega (arith, c.requires.room, c.requires.short, body_inside _ c.requires c.spot_for-row.ensures)

pub overflow_sub-end : goal.overflow_sub-end
overflow_sub-end c = omega (arith, body_inside _ c.requires c.spot_for-row.ensures)

pub move_up-requires : goal.move_up-requires
move_up-requires c =
    record { from_le_to = omega arith; size_in_bounds = omega (arith, c.requires.room, body_inside _ c.requires c.spot_for-row.ensures) }

pub overflow_add-row : goal.overflow_add-row
overflow_add-row c =
    omega (arith, c.requires.few, row_inside _ c.requires c.spot_for-row.ensures)

pub overflow_sub-body : goal.overflow_sub-body
overflow_sub-body c =
    row_before _ c.requires c.spot_for-row.ensures

pub move_up-requires-2 : goal.move_up-requires-2
move_up-requires-2 c =
    let there = c.spot_for-row.ensures in
    record { from_le_to = omega arith; size_in_bounds = omega (arith, c.requires.room, body_inside _ c.requires there, row_before _ c.requires there, long1 _ c.requires there c.move_up.ensures) }

pub overflow_add-body-3 : goal.overflow_add-body-3
overflow_add-body-3 c =
    omega (arith, c.requires.room, c.requires.short, body_inside _ c.requires c.spot_for-row.ensures)

pub gather_rows-requires : goal.gather_rows-requires
gather_rows-requires c =
    let one : c.args.live.cards + 1 ≡ suc c.args.live.cards = omega arith in
    offsets _ c.requires c.spot_for-row.ensures c.move_up.ensures c.move_up-2.ensures c.put_run.ensures.wrote c.put_row.ensures.wrote one

pub returns : goal.returns
returns c =
    let one : c.args.live.cards + 1 ≡ suc c.args.live.cards = omega arith in
    inserted _ c.requires c.spot_for-row.ensures c.move_up.ensures c.move_up-2.ensures c.put_run.ensures.wrote c.put_row.ensures.wrote one c.gather_rows.ensures
