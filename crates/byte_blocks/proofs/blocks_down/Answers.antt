-- `byte_blocks::blocks_down` meets its contract: one block more after each turn, read behind what has been stored. Assumes nothing.
use Rattle.byte_blocks.specs.Blocks.{block_bytes}
use Rattle.byte_blocks.proofs.Blocks.{down_none, down_join}
use native.Mathlib.Omega.{arith}
use Prim.Native.Nat.{◌*◌}
use Rattle.byte_blocks.proofs.blocks_down.Goals as goal

pub loop-i-init : goal.loop-i-init
loop-i-init c = down_none c.args.room.now c.args.from c.args.to

pub loop-i-preserved : goal.loop-i-preserved
loop-i-preserved c =
    let given = c.args in
    down_join given.room.now given.from given.to (block_bytes * c.loop-i.i) block_bytes c.requires.to_le_from (omega arith) (omega arith) c.loop-i.invariant c.move_block.ensures
