-- `added_weights::add_own` meets its contract: after each turn the branches so far are added. A sum fits, since none before was large and a branch adds little. Assumes nothing.
use Rattle.panel_numbers.specs.Fitting.{heaviest}
use Rattle.panel_numbers.specs.Table.{added_stays}
use Rattle.card.specs.Limits.{most_seats}
use Rattle.card.specs.Laid.{branch_of}
use mathlib.Core.List.{map}
use lib.ListN.{get_or, take}
use mathlib.Core.Path.{◌≡◌}
use Prim.Native.Nat.{ℕ, ◌≤◌, ◌+◌, ◌*◌, ◌^◌}
use Rattle.added_weights.proofs.add_own.Given as goal

abbrev pub invariant-loop-branch : goal.invariant-loop-branch
invariant-loop-branch l = (l.stays ≡ added_stays l.shared l.own l.able (map branch_of (take l.branch-index l.branches)) l.initial.stays) × ((t : ℕ) → get_or l.stays t 0 ≤ heaviest + l.branch-index * (most_seats * 2 ^ 32))
