-- `byte_blocks::block_at` meets its contract: one byte more is read after each turn. Assumes nothing.
use Rattle.room.specs.Room.{clip}
use lib.ListN.{take, drop}
use mathlib.Core.Path.{◌≡◌}
use Rattle.byte_blocks.proofs.block_at.Given as goal

abbrev pub invariant-loop-i : goal.invariant-loop-i
invariant-loop-i l = l.block ≡ clip l.initial.block 0 (take l.i (drop l.from l.room))
