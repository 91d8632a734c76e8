-- The places of a new entry and its body, found entry by entry: those passed and the lower ones among those left are all lower ones. Assumes nothing.
use Prim.Native.Nat.{ℕ, ◌+◌, ◌*◌, ◌≤◌, ◌<◌}
use mathlib.Core.Path.{◌≡◌, refl, ap, ◌∙◌}
use mathlib.Core.List.{List, [], ◌∷◌}
use native.Mathlib.Omega.{arith}
use borrow.Author.Tests.{lt-ltb, le-ltb}
use lib.ListN.{length, drop}
use Rattle.deck.specs.Contents.{word_at, Row, row_of, behind}
use Rattle.deck_entries.proofs.Laws.{row_there}
use Rattle.deck_written.specs.WriteDeckSaid.{sizes}
use Rattle.gathering.proofs.Entries.{rows_from, all_rows, no_rows, next_row}
use Rattle.gathering.specs.LiveText.{rows_in}
use Rattle.placing.specs.Lower.{lower_rows, Spots}

module _ (deck : List ℕ) (count number : ℕ) where
  abbrev rest : ℕ → List Row
  rest i = lower_rows number (rows_from deck count i)

  abbrev all : List Row
  all = lower_rows number (rows_in count deck)

  -- the first i entries are passed, and `body` is behind their bodies
  pub record Spotting (i body : ℕ) : Type 0 where
    pub rows : i + length (rest i) ≡ length all
    pub bodies : body + sizes (rest i) ≡ behind count + sizes all
    pub bounded : body ≤ behind count + 65536 * i

  pub spot_start : Spotting 0 (behind count)
  spot_start =
      let e = ap (lower_rows number) (all_rows deck count) in
      record { rows = omega (arith, ap length e); bodies = omega (arith, ap sizes e); bounded = omega arith }

  module _ {i body : ℕ} (s : Spotting i body) where
    -- nothing that is left is lower
    found : rest i ≡ [] → Spots deck count number (record { row = behind i; body = body })
    found e = record { row = omega (arith, s.rows, ap length e); body = omega (arith, s.bodies, ap sizes e) }

    pub spot_end : i ≤ count → count ≤ i → Spots deck count number (record { row = behind count; body = body })
    spot_end l h =
        let e : rest i ≡ [] = ap (lower_rows number) (no_rows deck count i h) in
        record { row = omega (arith, s.rows, ap length e); body = omega (arith, s.bodies, ap sizes e) }

    module _ (h : i < count) {n : ℕ} (en : n ≡ word_at deck (1 + 8 * i)) where
      abbrev row : Row
      row = row_of (drop (1 + 8 * i) deck)

      number_there : row.number ≡ n
      number_there = ap (λ (r : Row). r.number) (row_there deck (1 + 8 * i) 0 0 en refl refl refl refl)

      pub spot_here : number ≤ n → Spots deck count number (record { row = 1 + 8 * i; body = body })
      spot_here l = found (ap (lower_rows number) (next_row deck count i h) ∙ rw (le-ltb row.number number (omega (arith, number_there))))

      pub spot_on : n < number → {size : ℕ} → (size ≡ word_at deck (1 + 8 * i + 4)) × (size < 65536) → Spotting (i + 1) (body + size)
      spot_on l {size} (es, short) =
          let there : row.size ≡ size = ap (λ (r : Row). r.size) (row_there deck (1 + 8 * i) 0 0 refl refl es refl refl) in
          let passes : rest i ≡ row ∷ rest (i + 1) = ap (lower_rows number) (next_row deck count i h) ∙ rw (lt-ltb row.number number (omega (arith, number_there))) in
          record {
            rows = omega (arith, s.rows, ap length passes);
            bodies = omega (arith, s.bodies, ap sizes passes, there);
            bounded = omega (arith, s.bounded, short);
          }
