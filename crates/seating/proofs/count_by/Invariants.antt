-- `seating::count_by` meets its contract: after i turns the array has the counts of the first i seats, and none is above i. Assumes nothing.
use Prim.Native.Nat.{ℕ, ◌≤◌}
use mathlib.Core.Path.{◌≡◌}
use lib.ListN.{get_or}
use Rattle.seating.proofs.Counted.{tally}
use Rattle.seating.proofs.count_by.Given as goal

abbrev pub invariant-loop-seat : goal.invariant-loop-seat
invariant-loop-seat g l =
    ((t : ℕ) → get_or l.counts t 0 ≤ l.seat-index)
    × ((f : ℕ → ℕ) → ((a r : ℕ) → goal.F-post g l.of a r → r ≡ f a) → l.counts ≡ tally g.row.N f l.counted l.seat-index)
