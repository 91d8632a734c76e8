-- `shifting::bytes_down` meets its contract: one byte more after each turn, read where nothing has been stored yet. Assumes nothing.
use Rattle.room.specs.Room.{clip}
use lib.ListN.{take, drop}
use mathlib.Core.Path.{◌≡◌}
use Rattle.shifting.proofs.bytes_down.Given as goal

abbrev pub invariant-loop-i : goal.invariant-loop-i
invariant-loop-i l = l.room ≡ clip l.initial.room l.to (take l.i (drop l.from l.initial.room))
