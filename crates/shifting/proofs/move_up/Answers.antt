-- `shifting::move_up` meets its contract: the rest before the blocks is read where nothing has been stored yet. Assumes nothing.
use Rattle.shifting.proofs.Moves.{up_rest}
use Rattle.byte_blocks.proofs.Clips.{clip_long}
use native.Mathlib.Omega.{arith}
use mathlib.Core.Path.{◌∙◌}
use Rattle.shifting.proofs.move_up.Goals as goal

pub bytes_up-requires : goal.bytes_up-requires
bytes_up-requires c =
    let blocks = c.blocks_up-left.ensures in
    record { from_le_to = c.requires.from_le_to; size_in_bounds = omega (arith, c.requires.size_in_bounds, blocks.most, clip_long _ _ _ blocks.moved) }

pub shape_of-room : goal.shape_of-room
shape_of-room c =
    let blocks = c.blocks_up-left.ensures in
    clip_long _ _ _ c.bytes_up.ensures ∙ clip_long _ _ _ blocks.moved

pub returns : goal.returns
returns c =
    let given = c.args in
    up_rest given.room.now given.from given.to given.size c.requires.from_le_to c.requires.size_in_bounds c.blocks_up-left.ensures c.bytes_up.ensures
