-- `mended_rooms::put_bodies` meets its contract: each turn leaves one body less to be put. Assumes nothing.
use Prim.Native.Nat.{◌+◌, ◌*◌}
use Rattle.mended_rooms.proofs.Putting.{BodiesLeft}
use Rattle.mended_rooms.proofs.put_bodies.Given as goal

abbrev pub invariant-loop-i : goal.invariant-loop-i
invariant-loop-i l = BodiesLeft l.deck l.fates l.initial.room l.room l.at l.i (1 + 8 * l.i) l.to
