-- `shifting::move_down` meets its contract: the rest behind the blocks is read where nothing has been stored yet. Assumes nothing.
use Rattle.shifting.proofs.Moves.{down_none, down_rest}
use Rattle.byte_blocks.proofs.Clips.{clip_long}
use native.Mathlib.Omega.{arith}
use mathlib.Core.Path.{◌∙◌}
use Rattle.shifting.proofs.move_down.Goals as goal

pub returns-then-from-to : goal.returns-then-from-to
returns-then-from-to c =
    down_none c.args.room.now c.args.from c.args.to c.args.size c.if-from-to.true c.requires.size_in_bounds

pub overflow_sub-size : goal.overflow_sub-size
overflow_sub-size c = c.blocks_down-done.ensures.most

pub bytes_down-requires : goal.bytes_down-requires
bytes_down-requires c =
    let blocks = c.blocks_down-done.ensures in
    record { to_le_from = omega (arith, c.requires.to_le_from); size_in_bounds = omega (arith, c.requires.size_in_bounds, blocks.most, clip_long _ _ _ blocks.moved) }

pub shape_of-room : goal.shape_of-room
shape_of-room c =
    let blocks = c.blocks_down-done.ensures in
    clip_long _ _ _ c.bytes_down.ensures ∙ clip_long _ _ _ blocks.moved

pub returns : goal.returns
returns c =
    let given = c.args in
    down_rest given.room.now given.from given.to given.size c.requires.to_le_from c.requires.size_in_bounds c.blocks_down-done.ensures c.bytes_down.ensures
