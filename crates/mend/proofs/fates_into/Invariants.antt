-- `mend::fates_into` meets its contract: entry by entry, where fates and entries kept so far stand before those that follow (`Going`). Assumes nothing.
use Prim.Native.Nat.{◌+◌, ◌*◌}
use Rattle.mend.proofs.Going.{Going}
use Rattle.mend.proofs.fates_into.Given as goal

abbrev pub invariant-loop-i : goal.invariant-loop-i
invariant-loop-i l = Going l.deck l.initial.fates l.fates l.i (1 + 8 * l.i) l.walk
