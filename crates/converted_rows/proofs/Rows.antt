-- The rows of the new contents: each entry leaves the others still to be put. Assumes nothing.
use Prim.Native.Nat.{ℕ, ◌+◌, ◌*◌, ◌≤◌, ◌<◌, min}
use mathlib.Core.Path.{◌≡◌, refl, sym, ap, ◌∙◌}
use mathlib.Core.List.{List, [], ◌∷◌, ◌++◌}
use native.Mathlib.Omega.{arith}
use lib.ListN.{length, drop, get_or, drop_of_length-le}
use Rattle.card.specs.Limits.{word_numbers}
use Rattle.deck.specs.Contents.{word_at, byte, Row, row_of, count_of, contents_of}
use Rattle.deck.specs.Deck.{row_text, rows_text}
use Rattle.deck_entries.proofs.Laws.{row_with, row_there}
use Rattle.room.specs.Room.{cap, Put}
use Rattle.room.proofs.Laws.{put_as}
use Rattle.deck_writer.proofs.Still.{Still, still_all, still_none, still_less}
use Rattle.converted_rows.specs.Noted.{size_by, row_sized, rows_noted, sizes_noted, Each, SizesFit}
use Rattle.converted_rows.proofs.Left.{rows_left, all_left, first_left, note_and_rest}

-- ---- one entry by its bytes

module _ (deck : List ℕ) (from : ℕ) where
  pub sized_row : {was is : List ℕ} {at p n f z : ℕ} (offset size : ℕ) → n ≡ word_at deck from → f ≡ byte deck (from + 6) → z ≡ byte deck (from + 7)
      → Put was is at (row_text (row_with n offset size f z) []) p → Put was is at (row_text (row_sized offset size (row_of (drop from deck))) []) p
  sized_row offset size en ef ez p = put_as (ap (λ (r : Row). row_text (row_sized offset size r) []) (row_there deck from 0 0 en refl refl ef ez)) p

-- ---- all of them

module _ (deck notes : List ℕ) where
  abbrev left : (i offset : ℕ) → List ℕ
  left i offset = rows_text (rows_noted (drop i notes) offset (rows_left deck i)) []

  abbrev sizes_left : ℕ → ℕ
  sizes_left i = sizes_noted (drop i notes) (rows_left deck i)

  module _ (first : ℕ) where
    abbrev all : List ℕ
    all = rows_text (rows_noted notes first (contents_of deck)) []

    pub record RowsLeft (was is : List ℕ) (at i offset to : ℕ) : Type 0 where
      pub still : Still was is at all (left i offset) to
      pub short : offset + sizes_left i ≤ 65535

    module _ (h : Each deck notes) where
      pub rows_start : {was : List ℕ} {at to : ℕ} → length was < cap → to ≡ min at cap → SizesFit deck notes first → RowsLeft was was at 0 first to
      rows_start s e f =
          let same = all_left deck in
          record { still = rw same (still_all all s e); short = omega (arith, f, ap (sizes_noted notes) same) }

      module _ {was is : List ℕ} {at i offset to : ℕ} (g : RowsLeft was is at i offset to) where
        pub rows_end : length notes ≤ i → Put was is at all to
        rows_end l = still_none g.still (ap (λ (ks : List ℕ). rows_text (rows_noted ks offset (rows_left deck i)) []) (drop_of_length-le notes l))

        module _ (l : i < length notes) {size : ℕ} (e : size ≡ size_by (get_or notes i 0) (row_of (drop (1 + 8 * i) deck)).size) where
          abbrev row : Row
          row = row_of (drop (1 + 8 * i) deck)

          inside : i < count_of deck
          inside = omega (arith, h.long)

          split : {A : Type 0} (f : List ℕ → List Row → A) → f (drop i notes) (rows_left deck i) ≡ f (get_or notes i 0 ∷ drop (i + 1) notes) (row ∷ rows_left deck (i + 1))
          split f = λ j. f (note_and_rest notes l j) (first_left deck inside j)

          sizes_split : sizes_left i ≡ size + sizes_left (i + 1)
          sizes_split = split sizes_noted ∙ ap (λ (n : ℕ). n + sizes_left (i + 1)) (sym e)

          text_split : left i offset ≡ row_text (row_sized offset size row) [] ++ left (i + 1) (offset + size)
          text_split =
              split (λ (ks : List ℕ) (rs : List Row). rows_text (rows_noted ks offset rs) [])
              ∙ ap (λ (n : ℕ). row_text (row_sized offset n row) (left (i + 1) (offset + n))) (sym e)

          pub fits : (offset < word_numbers) × (size < word_numbers)
          fits = (omega (arith, g.short), omega (arith, g.short, sizes_split))

          pub offset_short : offset + size ≤ 65535
          offset_short = omega (arith, g.short, sizes_split)

          pub rows_next : {b : List ℕ} {m : ℕ} → Put is b to (row_text (row_sized offset size row) []) m → RowsLeft was b at (i + 1) (offset + size) m
          rows_next p = record {
            still = still_less g.still (left (i + 1) (offset + size)) text_split p;
            short = omega (arith, g.short, sizes_split);
          }
