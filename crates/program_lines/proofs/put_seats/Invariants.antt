-- `program_lines::put_seats` meets its contract: after i turns the first i seats are stored. Assumes nothing.
use mathlib.Core.Path.{◌≡◌}
use Rattle.program_lines.proofs.Seats.{sown}
use Rattle.program_lines.proofs.put_seats.Given as goal

abbrev pub invariant-loop-i : goal.invariant-loop-i
invariant-loop-i l = l.seats ≡ sown l.line l.initial.seats l.i
