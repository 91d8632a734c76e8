-- Entries gathered one behind the other: what is stored lies before every entry that is still to be read. Assumes nothing.
use Prim.Native.Nat.{ℕ, ◌+◌, ◌*◌, ◌≤◌, ◌<◌}
use mathlib.Core.Path.{◌≡◌, refl, sym, ap, ◌∙◌, subst}
use mathlib.Core.Bool.{false}
use mathlib.Core.List.{List, [], ◌∷◌, ◌++◌}
use native.Mathlib.Omega.{arith}
use borrow.Author.Tests.{eqb-true}
use lib.ListN.{length, drop}
use Rattle.deck.specs.Contents.{byte, word_at, Row, row_of}
use Rattle.deck.specs.Deck.{live_of, row_text, rows_text}
use Rattle.deck_entries.proofs.Laws.{row_with, row_there}
use Rattle.deck_writer.proofs.Still.{Still, still_all, still_none, still_less}
use Rattle.deck_written.specs.WriteDeckSaid.{line_for, lines_for, sizes}
use Rattle.room.specs.Room.{clip, cap, Put}
use Rattle.room.proofs.Laws.{put_as}
use Rattle.byte_blocks.proofs.Clips.{drop_behind}
use Rattle.gathering.specs.LiveRows.{live_rows, Flagged}
use Rattle.gathering.proofs.Entries.{rows_from, all_rows, no_rows, next_row, live_first, live_others}
use Rattle.gathering.specs.LiveText.{rows_in, rows_stay, Offsets}
use Rattle.gathering.proofs.Bodies.{same_later}

-- a live entry with its new offset
one_row : (deck : List ℕ) (from : ℕ) {n s z : ℕ} (offset : ℕ) → Flagged 1 (row_of (drop from deck)) s → n ≡ word_at deck from → z ≡ byte deck (from + 7)
    → row_text (line_for offset (row_of (drop from deck))) [] ≡ row_text (row_with n offset s 1 z) []
one_row deck from {n} {s} {z} offset l en ez =
    let there = row_there deck from 0 0 en refl refl refl ez in
    let flag : 1 ≡ byte deck (from + 6) = sym (eqb-true (row_of (drop from deck)).flag 1 l.flagged) ∙ ap (λ (r : Row). r.flag) there in
    let size : s ≡ word_at deck (from + 4) = l.same ∙ ap (λ (r : Row). r.size) there in
    ap (λ (r : Row). row_text (line_for offset r) []) (row_there deck from 0 0 en refl size flag ez)

-- ---- all of them

module _ (was : List ℕ) (count first : ℕ) where
  abbrev rest : ℕ → List Row
  rest i = rows_from was count i

  -- the i-th entry is next; it goes to `to`, with its body at `offset`
  pub record Rowing (is : List ℕ) (i to offset : ℕ) : Type 0 where
    pub low : to ≤ 1 + 8 * i
    pub back : drop (1 + 8 * i) is ≡ drop (1 + 8 * i) was
    pub short : offset + sizes (live_rows (rest i)) ≤ 65535
    pub still : Still was is 1 (rows_stay first (rows_in count was)) (rows_stay offset (rest i)) to

  module _ (o : Offsets was count first) where
    pub rows_none : length was < cap → Rowing was 0 1 first
    rows_none small =
        let all = rows_stay first (rows_in count was) in
        let e = all_rows was count in
        record {
          low = omega arith;
          back = refl;
          short = omega (arith, o.short, ap (λ (rs : List Row). sizes (live_rows rs)) e);
          still = subst (λ (rs : List Row). Still was was 1 all (rows_stay first rs) 1) (sym e) (still_all all small (omega arith));
        }

    module _ {is : List ℕ} {i to offset : ℕ} (s : Rowing is i to offset) where
      pub rows_all : count ≤ i → is ≡ clip was 1 (rows_stay first (rows_in count was))
      rows_all h = (still_none s.still (ap (rows_stay offset) (no_rows was count i h))).wrote

      module _ (h : i < count) where
        abbrev row : Row
        row = row_of (drop (1 + 8 * i) was)

        abbrev others : List Row
        others = rest (i + 1)

        pub inside : 1 + 8 * i + 8 ≤ length is
        inside = omega (arith, s.still.long, o.whole)

        row_read : row_of (drop (1 + 8 * i) is) ≡ row
        row_read = ap row_of s.back

        -- what lies from the next entry on
        later : drop (1 + 8 * (i + 1)) is ≡ drop (1 + 8 * (i + 1)) was
        later = same_later (1 + 8 * i) (1 + 8 * (i + 1)) is was (omega arith) s.back

        pub rows_withdrawn : live_of (row_of (drop (1 + 8 * i) is)) ≡ false → Rowing is (i + 1) to offset
        rows_withdrawn n =
            let e : live_rows (rest i) ≡ live_rows others = ap live_rows (next_row was count i h) ∙ live_others row others (sym (ap live_of row_read) ∙ n) in
            let all = rows_stay first (rows_in count was) in
            record {
              low = omega (arith, s.low);
              back = later;
              short = omega (arith, s.short, ap sizes e);
              still = subst (λ (rs : List Row). Still was is 1 all (rows_text (lines_for offset rs) []) to) e s.still;
            }

        module _ {size : ℕ} (l : Flagged 1 (row_of (drop (1 + 8 * i) is)) size) where
          first_live : live_rows (rest i) ≡ row ∷ live_rows others
          first_live = ap live_rows (next_row was count i h) ∙ live_first row others (sym (ap live_of row_read) ∙ l.flagged)

          same_size : size ≡ row.size
          same_size = l.same ∙ ap (λ (r : Row). r.size) row_read

          pub small : offset + size ≤ 65535
          small = omega (arith, s.short, ap sizes first_live, same_size)

          pub rows_more : {now : List ℕ} {n z p : ℕ} → n ≡ word_at is (1 + 8 * i) → z ≡ byte is (1 + 8 * i + 7) → Put is now to (row_text (row_with n offset size 1 z) []) p
              → Rowing now (i + 1) p (offset + size)
          rows_more {now} {n} {z} {p} en ez w =
              let text = row_text (line_for offset row) [] in
              let put : Put is now to text p = put_as (ap (λ (r : Row). row_text (line_for offset r) []) (sym row_read) ∙ one_row is (1 + 8 * i) offset l en ez) w in
              record {
                low = omega (arith, put.next, s.low);
                back = ap (drop (1 + 8 * (i + 1))) put.wrote ∙ drop_behind is to text (1 + 8 * (i + 1)) (omega (arith, s.low)) ∙ later;
                short = omega (arith, s.short, ap sizes first_live, same_size);
                still =
                    still_less s.still (rows_stay (offset + size) others)
                    (ap (λ (rs : List Row). rows_text (lines_for offset rs) []) first_live ∙ ap (λ (m : ℕ). text ++ rows_stay (offset + m) others) (sym same_size))
                    put;
              }
