-- `counting::units_to` meets its contract: the array has the units of the branches so far. Assumes nothing.
use Prim.Native.Nat.{ℕ, ◌≤◌, ◌*◌, ◌^◌}
use mathlib.Core.List.{map}
use mathlib.Core.Path.{◌≡◌}
use lib.ListN.{length, get_or}
use Rattle.card.specs.Laid.{branch_of}
use Rattle.panel_numbers.specs.Taking.{units_to_each}
use Rattle.counting.proofs.units_to.Given as goal

abbrev pub invariant-loop-branch : goal.invariant-loop-branch
invariant-loop-branch l =
    (l.units ≡ units_to_each (map branch_of (map (λ b. b.now) l.yielded))) × ((t : ℕ) → get_or l.units t 0 ≤ length l.yielded * 2 ^ 32)
