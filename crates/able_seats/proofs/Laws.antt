-- One turn of the walk, and the walk over rows as the walk over the card's statements. Assumes nothing.
use Prim.Native.Nat.{ℕ, zero, suc, ◌+◌, ◌-◌, ◌≤◌, ◌<◌}
use mathlib.Core.Path.{◌≡◌, refl, sym, ap}
use mathlib.Core.List.{List}
use mathlib.Core.Option.{Option, none, some}
use native.Mathlib.Numerals.{add-one}
use native.Mathlib.Omega.{arith}
use borrow.Author.Tests.{lt-ltb, le-ltb}
use lib.Dec.{ltb}
use Rattle.card.specs.Text.{when◌then◌else◌}
use Rattle.card.specs.Laid.{statement_of, statements_of}
use Rattle.card.specs.Rows.{rows_from}
use Rattle.meaning.specs.Position.{Position}
use Rattle.meaning.specs.ByCounts.{able}
use Rattle.panel_numbers.specs.Taking.{takers}
use Rattle.moving.specs.FirstMove.{first_at}
use Rattle.able_seats.specs.FirstRow.{able_row, first_row}

module _ (n : ℕ) (v : Position) (nodes rows : List ℕ) where
  row_step : (i more : ℕ) → first_row n v nodes rows i (suc more) ≡ (when ltb 0 (able_row n v nodes rows i) then some (suc i) else first_row n v nodes rows (suc i) more)
  unfolding first_row
  row_step i more = refl

  row_end : (i : ℕ) → first_row n v nodes rows i zero ≡ none
  unfolding first_row
  row_end i = refl

  -- the walk begins at the first
  pub row_start : (count : ℕ) → first_row n v nodes rows 0 count ≡ first_row n v nodes rows 0 (count - 0)
  row_start count = let z : count - 0 ≡ count = omega arith in rw z

  -- of `count` statements, statement i is looked at
  module _ (count i : ℕ) {a : ℕ} (l : i < count) (e : a ≡ able_row n v nodes rows i) where
    one_less : count - i ≡ suc (count - (i + 1))
    one_less = omega arith

    pub row_taken : (a ≡ 0 → ⊥) → first_row n v nodes rows i (count - i) ≡ some (i + 1)
    row_taken h =
        let some-able : 0 < able_row n v nodes rows i = omega arith in
        rw (one_less, row_step i (count - (i + 1)), lt-ltb 0 (able_row n v nodes rows i) some-able) (ap some (sym (add-one i)))

    pub row_passed : a ≡ 0 → first_row n v nodes rows i (count - i) ≡ first_row n v nodes rows (i + 1) (count - (i + 1))
    row_passed h =
        let none-able : able_row n v nodes rows i ≤ 0 = omega arith in
        rw (one_less, row_step i (count - (i + 1)), le-ltb 0 (able_row n v nodes rows i) none-able) (ap (λ (j : ℕ). first_row n v nodes rows j (count - (i + 1))) (sym (add-one i)))

  -- and no more are left
  pub row_none : (count i : ℕ) → count ≤ i → first_row n v nodes rows i (count - i) ≡ none
  row_none count i l = let z : count - i ≡ 0 = omega arith in rw z (row_end i)

  pub rows_walk : (branches : List ℕ) (i more : ℕ) → first_at n v (suc i) (statements_of nodes branches (rows_from rows i more) i) ≡ first_row n v nodes rows i more
  unfolding first_at statements_of statement_of able takers first_row
  rows_walk branches i zero = refl
  rows_walk branches i (suc more) = ap (λ (r : Option ℕ). when ltb 0 (able_row n v nodes rows i) then some (suc i) else r) (rows_walk branches (suc i) more)
