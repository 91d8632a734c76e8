-- `able_seats::first_able` meets its contract: before each turn the walk from the first statement is the walk from statement i on. Assumes nothing.
use Rattle.able_seats.specs.FirstRow.{first_row}
use Rattle.meaning.specs.Position.{position}
use mathlib.Core.Path.{◌≡◌}
use Prim.Native.Nat.{◌-◌}
use Rattle.able_seats.proofs.first_able.Given as goal

abbrev pub invariant-loop-i : goal.invariant-loop-i
invariant-loop-i l = first_row l.head.seats (position l.counts l.shared) l.nodes l.rows 0 l.head.count ≡ first_row l.head.seats (position l.counts l.shared) l.nodes l.rows l.i (l.head.count - l.i)
