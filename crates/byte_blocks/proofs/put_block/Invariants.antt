-- `byte_blocks::put_block` meets its contract: one byte more is stored after each turn. Assumes nothing.
use Rattle.room.specs.Room.{clip}
use lib.ListN.{take}
use mathlib.Core.Path.{◌≡◌}
use Rattle.byte_blocks.proofs.put_block.Given as goal

abbrev pub invariant-loop-i : goal.invariant-loop-i
invariant-loop-i l = l.room ≡ clip l.initial.room l.to (take l.i l.block)
