-- `shifting::bytes_up` meets its contract: one byte less is left after each turn, and read where nothing has been stored yet. Assumes nothing.
use Rattle.room.specs.Room.{clip}
use lib.ListN.{take, drop}
use mathlib.Core.Path.{◌≡◌}
use Prim.Native.Nat.{◌+◌}
use Rattle.shifting.proofs.bytes_up.Given as goal

abbrev pub invariant-loop-left : goal.invariant-loop-left
invariant-loop-left l = l.room ≡ clip l.initial.room (l.to + l.left) (drop l.left (take l.size (drop l.from l.initial.room)))
