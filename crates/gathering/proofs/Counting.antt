-- The live entries counted one behind the other: those counted and those left are all. Assumes nothing.
use Prim.Native.Nat.{ℕ, ◌+◌, ◌*◌, ◌≤◌, ◌<◌}
use mathlib.Core.Path.{◌≡◌, ap, ◌∙◌}
use mathlib.Core.Bool.{false}
use mathlib.Core.List.{List, ◌∷◌}
use native.Mathlib.Omega.{arith}
use lib.ListN.{length, drop}
use Rattle.deck.specs.Contents.{Row, row_of, count_of, contents_of}
use Rattle.deck.specs.Deck.{live_of}
use Rattle.deck_written.specs.WriteDeckSaid.{sizes}
use Rattle.gathering.specs.LiveRows.{live_rows, Flagged, Measures}
use Rattle.gathering.specs.declared.Live.{Live}
use Rattle.gathering.proofs.Entries.{rows_from, all_rows, no_rows, next_row, live_first, live_others}

module _ (deck : List ℕ) where
  abbrev left : ℕ → List Row
  left i = live_rows (rows_from deck (count_of deck) i)

  -- the first i entries are counted
  pub record Counted (i : ℕ) (live : Live) : Type 0 where
    pub all_of_cards : live.cards + length (left i) ≡ length (live_rows (contents_of deck))
    pub all_of_bytes : live.bytes + sizes (left i) ≡ sizes (live_rows (contents_of deck))
    pub few_cards : live.cards ≤ i
    pub few_bytes : live.bytes ≤ 65536 * i

  pub counted_none : Counted 0 (record { cards = 0; bytes = 0 })
  counted_none =
      let e = ap live_rows (all_rows deck (count_of deck)) in
      record { all_of_cards = omega (arith, ap length e); all_of_bytes = omega (arith, ap sizes e); few_cards = omega arith; few_bytes = omega arith }

  module _ {i : ℕ} {live : Live} (s : Counted i live) where
    pub counted_all : count_of deck ≤ i → Measures deck live
    counted_all h =
        let e = ap live_rows (no_rows deck (count_of deck) i h) in
        record { cards = omega (arith, s.all_of_cards, ap length e); bytes = omega (arith, s.all_of_bytes, ap sizes e) }

    module _ (h : i < count_of deck) where
      abbrev row : Row
      row = row_of (drop (1 + 8 * i) deck)

      pub counted_live : {size : ℕ} → Flagged 1 row size → Counted (i + 1) (record { cards = live.cards + 1; bytes = live.bytes + size })
      counted_live l =
          let e : left i ≡ row ∷ left (i + 1) = ap live_rows (next_row deck (count_of deck) i h) ∙ live_first row (rows_from deck (count_of deck) (i + 1)) l.flagged in
          record {
            all_of_cards = omega (arith, s.all_of_cards, ap length e);
            all_of_bytes = omega (arith, s.all_of_bytes, ap sizes e, l.same);
            few_cards = omega (arith, s.few_cards);
            few_bytes = omega (arith, s.few_bytes, l.short);
          }

      pub counted_withdrawn : live_of row ≡ false → Counted (i + 1) live
      counted_withdrawn n =
          let e : left i ≡ left (i + 1) = ap live_rows (next_row deck (count_of deck) i h) ∙ live_others row (rows_from deck (count_of deck) (i + 1)) n in
          record {
            all_of_cards = omega (arith, s.all_of_cards, ap length e);
            all_of_bytes = omega (arith, s.all_of_bytes, ap sizes e);
            few_cards = omega (arith, s.few_cards);
            few_bytes = omega (arith, s.few_bytes);
          }
