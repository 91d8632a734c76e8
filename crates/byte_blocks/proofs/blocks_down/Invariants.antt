-- `byte_blocks::blocks_down` meets its contract: one block more after each turn, read behind what has been stored. Assumes nothing.
use Rattle.byte_blocks.specs.Blocks.{block_bytes}
use Rattle.room.specs.Room.{clip}
use lib.ListN.{take, drop}
use mathlib.Core.Path.{◌≡◌}
use Prim.Native.Nat.{◌*◌}
use Rattle.byte_blocks.proofs.blocks_down.Given as goal

abbrev pub invariant-loop-i : goal.invariant-loop-i
invariant-loop-i l = l.room ≡ clip l.initial.room l.to (take (block_bytes * l.i) (drop l.from l.initial.room))
