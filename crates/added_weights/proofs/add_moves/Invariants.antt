-- `added_weights::add_moves` meets its contract: after each turn the branches so far are added. A sum fits, since none before was large and a branch adds little. Assumes nothing.
use Rattle.panel_numbers.specs.Fitting.{heaviest}
use Rattle.panel_numbers.specs.Table.{added}
use Rattle.card.specs.Limits.{most_seats}
use Rattle.card.specs.Laid.{branch_of}
use mathlib.Core.List.{map}
use lib.ListN.{get_or, take}
use mathlib.Core.Path.{◌≡◌}
use Prim.Native.Nat.{ℕ, ◌≤◌, ◌+◌, ◌*◌, ◌^◌}
use Rattle.added_weights.proofs.add_moves.Given as goal

abbrev pub invariant-loop-branch : goal.invariant-loop-branch
invariant-loop-branch l = (l.row ≡ added l.shared l.able (map branch_of (take l.branch-index l.branches)) l.initial.row) × ((t : ℕ) → get_or l.row t 0 ≤ heaviest + l.branch-index * (most_seats * 2 ^ 32))
