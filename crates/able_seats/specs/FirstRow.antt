-- The walk over statements as they lie in rows and nodes: one after the other, up to the first that can be taken. Assumes nothing.
use Prim.Native.Nat.{ℕ, zero, suc, ◌*◌}
use Rattle.std.specs.Prelude.{List}
use Rattle.std.proofs.Math.Option.{Option, none, some}
use Rattle.std.proofs.Math.Dec.{ltb}
use Rattle.card.specs.Limits.{most_nodes}
use Rattle.card.specs.Text.{when◌then◌else◌}
use Rattle.card.specs.Laid.{guard_of}
use Rattle.card.specs.Rows.{row_of}
use Rattle.meaning.specs.Position.{Position}
use Rattle.panel_numbers.specs.Taking.{takers}

module _ (n : ℕ) (v : Position) (nodes rows : List ℕ) where
  -- how many of n seats, at counts v, may take statement i, counted from 0
  abbrev pub able_row : ℕ → ℕ
  able_row i = takers n v (row_of rows i).own (guard_of nodes (i * most_nodes) (row_of rows i).nodes)

  -- of so many more statements, from i on, the first that some may take; places count from 1
  unfoldable pub first_row : ℕ → ℕ → Option ℕ
  unfolding takers
  first_row i zero = none
  first_row i (suc more) = when ltb 0 (able_row i) then some (suc i) else first_row (suc i) more
