-- `byte_blocks::blocks_up` meets its contract: one block more after each turn, read before what has been stored. Assumes nothing.
use Rattle.byte_blocks.specs.Blocks.{block_bytes}
use Rattle.byte_blocks.proofs.Blocks.{up_none, up_join}
use native.Mathlib.Omega.{arith}
use Rattle.byte_blocks.proofs.blocks_up.Goals as goal

pub loop-i-init : goal.loop-i-init
loop-i-init c = up_none c.args.room.now c.args.from c.args.to c.args.size (omega arith)

pub loop-i-preserved : goal.loop-i-preserved
loop-i-preserved c =
    let given = c.args in
    up_join given.room.now given.from given.to given.size _ block_bytes c.requires.from_le_to c.requires.size_in_bounds (omega arith) (omega arith) c.loop-i.invariant c.move_block.ensures
