-- The seats still to look at decide. Assumes nothing.
use Prim.Native.Nat.{◌+◌, ◌-◌}
use mathlib.Core.Path.{◌≡◌}
use Rattle.seats_seen.specs.SeatsSeen.{seen_from}
use Rattle.seats_seen.proofs.all_seen.Given as goal

abbrev pub invariant-loop-seat : goal.invariant-loop-seat
invariant-loop-seat l = seen_from l.seen l.first l.count ≡ seen_from l.seen l.seat (l.first + l.count - l.seat)
