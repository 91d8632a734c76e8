-- `byte_blocks::blocks_up` meets its contract: one block more after each turn, read before what has been stored. Assumes nothing.
use Rattle.byte_blocks.specs.Blocks.{block_bytes}
use Rattle.room.specs.Room.{clip}
use lib.ListN.{take, drop}
use mathlib.Core.Path.{◌≡◌}
use Prim.Native.Nat.{◌+◌, ◌*◌}
use Rattle.byte_blocks.proofs.blocks_up.Given as goal

abbrev pub invariant-loop-i : goal.invariant-loop-i
invariant-loop-i l = l.room ≡ clip l.initial.room (l.to + (l.left + block_bytes * l.i)) (drop (l.left + block_bytes * l.i) (take l.size (drop l.from l.initial.room)))
