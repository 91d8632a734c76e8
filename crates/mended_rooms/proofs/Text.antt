-- The text of the entries kept, by their fates: rows that are kept are right, so that only their offsets are written anew. Assumes nothing.
use Prim.Native.Nat.{ℕ, ◌+◌, ◌*◌, ◌≤◌}
use mathlib.Core.Path.{◌≡◌, refl, sym, ap, ◌∙◌}
use mathlib.Core.List.{List, [], ◌∷◌, ◌++◌, map}
use native.Mathlib.Omega.{arith}
use lib.ListN.{length, length-append, length-map}
use Rattle.std.specs.Prelude.{Option}
use Rattle.card.specs.Valid.{Every}
use Rattle.card.proofs.Held.{every_map}
use Rattle.deck.specs.Contents.{Row, count_of, behind, contents_of}
use Rattle.deck.specs.Deck.{body_of, entry_of, row_for, rows_for, rows_text, bodies, deck_text}
use Rattle.deck.proofs.Kept.{body_long}
use Rattle.deck_written.specs.WriteDeckSaid.{sizes, line_for, lines_for}
use Rattle.mending.specs.Mending.{Fate, fates_in, kept_rows, kept_in}
use Rattle.mending.specs.FateBy.{fate_by}
use Rattle.mending.specs.declared.Rule.{Rule}
use Rattle.mending.proofs.Fates.{one_each}
use Rattle.mending.proofs.Mended.{KeptRow, rows_right, few}
use Rattle.mending.proofs.Unchanged.{row_for_law}
use Rattle.room.specs.Room.{Put}
use Rattle.room.proofs.Laws.{then, put_as}
use Rattle.deck_writer.proofs.Putting.{rows_before}
use Rattle.mended_rooms.specs.KeptBy.{rows_kept, Each, OffsetsFit, BodiesInside, Fates}

module _ (deck : List ℕ) where
  -- rows that are right
  pub lines_for_law : (rs : List Row) → Every (KeptRow deck) rs → (at : ℕ) → rows_for at (map (entry_of deck) rs) ≡ lines_for at rs
  lines_for_law [] h at = refl
  lines_for_law (r ∷ rs) h at =
      let rest = map (entry_of deck) rs in
      ap (λ (n : ℕ). row_for at (entry_of deck r) ∷ rows_for (at + n) rest) (body_long deck r h.0.ends)
      ∙ ap (λ (x : Row). x ∷ rows_for (at + r.size) rest) (row_for_law deck at r h.0.flag h.0.zero_byte h.0.ends)
      ∙ ap (λ (l : List Row). line_for at r ∷ l) (lines_for_law rs h.1 (at + r.size))

  pub sizes_are : (rs : List Row) → Every (KeptRow deck) rs → length (bodies (map (entry_of deck) rs)) ≡ sizes rs
  sizes_are [] h = refl
  sizes_are (r ∷ rs) h = omega (arith, length-append (body_of deck r) (bodies (map (entry_of deck) rs)), body_long deck r h.0.ends, sizes_are rs h.1)

module _ {deck : List ℕ} {fates : List (Option Rule)} {cards : ℕ} (h : Fates deck fates cards) where
  abbrev rows : List Row
  rows = kept_rows (fates_in deck) (contents_of deck)

  rows_are : rows_kept deck fates ≡ rows
  rows_are = ap (λ (fs : List Fate). kept_rows fs (contents_of deck)) h.are

  right : Every (KeptRow deck) rows
  right = rows_right deck 0 (behind (count_of deck)) (contents_of deck)

  pub each : Each deck fates
  each = record {
    head = h.head;
    long = sym (length-map fates fate_by) ∙ ap length h.are ∙ one_each deck;
  }

  pub few_cards : cards ≤ 64
  few_cards = omega (arith, h.count, few deck, h.head.few)

  pub offsets_fit : OffsetsFit deck fates (1 + 8 * cards)
  offsets_fit = omega (arith, h.short, h.head.short, sizes_are deck rows right, ap sizes rows_are)

  pub bodies_inside : BodiesInside deck fates
  bodies_inside = rw rows_are (every_map (λ (r : Row) (k : KeptRow deck r). k.ends) rows right)

  text : deck_text (kept_in deck) ≡ (cards ∷ []) ++ rows_text (lines_for (1 + 8 * cards) (rows_kept deck fates)) [] ++ bodies (map (entry_of deck) (rows_kept deck fates))
  text =
      let es = kept_in deck in
      ap (λ (n : ℕ). n ∷ rows_text (rows_for (behind n) es) (bodies es)) (sym h.count)
      ∙ ap (λ (rs : List Row). cards ∷ rows_text rs (bodies es)) (lines_for_law deck rows right (1 + 8 * cards))
      ∙ ap (λ (l : List ℕ). cards ∷ l) (rows_before (lines_for (1 + 8 * cards) rows) (bodies es))
      ∙ ap (λ (rs : List Row). cards ∷ rows_text (lines_for (1 + 8 * cards) rs) [] ++ bodies (map (entry_of deck) rs)) (sym rows_are)

  pub mended_put : {a b c d : List ℕ} {m n r : ℕ} → Put a b 0 (cards ∷ []) m → Put b c m (rows_text (lines_for (1 + 8 * cards) (rows_kept deck fates)) []) n
      → Put c d n (bodies (map (entry_of deck) (rows_kept deck fates))) r → Put a d 0 (deck_text (kept_in deck)) r
  mended_put p q s = put_as text (then p (then q s))
