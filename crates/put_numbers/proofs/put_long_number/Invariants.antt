-- `put_numbers::put_long_number` meets its contract: the digits are stored from the last on, so that after each turn those from there on stand.
-- Assumes nothing.
use Rattle.put_numbers.proofs.Backwards.{Leads}
use Rattle.room.specs.Digits.{decimal}
use Rattle.room.specs.Room.{clip}
use lib.ListN.{drop}
use mathlib.Core.Path.{◌≡◌}
use Prim.Native.Nat.{◌+◌}
use Rattle.put_numbers.proofs.put_long_number.Given as goal

abbrev pub invariant-loop-j : goal.invariant-loop-j
invariant-loop-j l = record { leads : Leads l.n l.j l.left; wrote : l.room ≡ clip l.initial.room (l.at + l.j) (drop l.j (decimal l.n)) }
