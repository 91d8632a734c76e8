-- `mended_rooms::put_rows` meets its contract: each turn leaves one entry less to be put. Assumes nothing.
use Prim.Native.Nat.{◌+◌, ◌*◌}
use Rattle.mended_rooms.proofs.Putting.{RowsLeft}
use Rattle.mended_rooms.proofs.put_rows.Given as goal

abbrev pub invariant-loop-i : goal.invariant-loop-i
invariant-loop-i l = RowsLeft l.deck l.fates l.first l.initial.room l.room l.at l.i (1 + 8 * l.i) l.offset l.to
