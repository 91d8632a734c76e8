-- `room::put_run` meets its contract: after i turns the first i bytes are stored, as far as the room has places. Assumes nothing.
use mathlib.Core.Path.{◌≡◌}
use lib.ListN.{take}
use Rattle.room.specs.Room.{clip}
use Rattle.room.proofs.put_run.Given as goal

abbrev pub invariant-loop-i : goal.invariant-loop-i
invariant-loop-i l = l.room ≡ clip l.initial.room l.at (take l.i l.s)
