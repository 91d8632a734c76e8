-- The deck put part by part: each entry leaves the others still to be put, and count, entries and bodies one behind the other are the deck's text.
-- Assumes nothing.
use Prim.Native.Nat.{ℕ, suc, ◌+◌, ◌-◌, ◌*◌, ◌/◌, ◌≤◌, ◌<◌, min}
use mathlib.Core.Path.{◌≡◌, refl, sym, ap, ◌∙◌}
use mathlib.Core.List.{List, [], ◌∷◌, ◌++◌}
use native.Mathlib.Omega.{arith}
use lib.ListN.{length, drop, length-append}
use lib.Seq.{drop-drop}
use Rattle.deck.specs.Contents.{Row, row_of, rows_of, behind}
use Rattle.deck.specs.Deck.{rows_for, row_text, rows_text, bodies, deck_text}
use Rattle.deck_written.specs.WriteDeckSaid.{count_in, lines, sizes, entries_said, lines_for}
use Rattle.deck_written.specs.Fine.{Fine}
use Rattle.deck_written.proofs.Exactly.{counts}
use Rattle.deck_written.proofs.Entries.{length_rows, count_said, bodies_said, rows_said}
use Rattle.room.specs.Room.{clip, cap, Put}
use Rattle.room.proofs.Laws.{clip_append, then, put_as}
use Rattle.deck_writer.specs.Measured.{row_with}
use Rattle.std.proofs.Common.{add-one}
use native.Mathlib.Numerals.{unary_clauses}
use Rattle.deck_entries.specs.Rows.{row_by}
use Rattle.deck_entries.specs.declared.Entry.{Entry}
use Rattle.deck_writer.specs.Parts.{lines_text, DeckPut}
use Rattle.deck_writer.proofs.Still.{Still, still_all, still_none, still_less}

-- ---- what is still to be put

module _ (contents : List ℕ) where
  -- the entries from entry i on
  abbrev pub lines_from : ℕ → List Row
  lines_from i = rows_of (count_in contents - i) (drop (8 * i) contents)

  -- their text, where the first body of them is at `offset`
  abbrev pub left_text : (i offset : ℕ) → List ℕ
  left_text i offset = rows_text (lines_for offset (lines_from i)) []

pub record LinesLeft (was is contents : List ℕ) (first at i offset to : ℕ) : Type 0 where
  pub still : Still was is at (lines_text first contents) (left_text contents i offset) to
  pub short : offset + sizes (lines_from contents i) ≤ 65535

pub lines_start : {was : List ℕ} {at to : ℕ} (contents : List ℕ) (first : ℕ) → length was < cap → to ≡ min at cap → first + sizes (lines contents) ≤ 65535
    → LinesLeft was was contents first at 0 first to
lines_start {was} {at} {to} contents first s e h = record { still = simp unary_clauses (still_all (lines_text first contents) s e); short = simp unary_clauses h }

module _ {was is contents : List ℕ} {first at i offset to : ℕ} (s : LinesLeft was is contents first at i offset to) where
  pub lines_end : count_in contents ≤ i → Put was is at (lines_text first contents) to
  lines_end h =
      let none_left : count_in contents - i ≡ 0 = omega arith in
      still_none s.still (ap (λ (k : ℕ). rows_text (lines_for offset (rows_of k (drop (8 * i) contents))) []) none_left)

  module _ (inside : i < count_in contents) {x : Entry} (e : row_by x ≡ row_of (drop (8 * i) contents)) where
    first_left : lines_from contents i ≡ row_by x ∷ lines_from contents (suc i)
    first_left =
        let more : count_in contents - i ≡ suc (count_in contents - suc i) = omega arith in
        let far : 8 * i + 8 ≡ 8 * suc i = omega arith in
        ap (λ (k : ℕ). rows_of k (drop (8 * i) contents)) more
        ∙ ap (λ (r : Row). r ∷ rows_of (count_in contents - suc i) (drop 8 (drop (8 * i) contents))) (sym e)
        ∙ ap (λ (t : List ℕ). row_by x ∷ rows_of (count_in contents - suc i) t) (drop-drop 8 (8 * i) contents)
        ∙ ap (λ (k : ℕ). row_by x ∷ rows_of (count_in contents - suc i) (drop k contents)) far

    pub lines_next : {b : List ℕ} {m : ℕ} → Put is b to (row_text (row_with x.number offset x.size x.flag x.zero) []) m
        → LinesLeft was b contents first at (i + 1) (offset + x.size) m
    lines_next p = rw (add-one i) (record {
      still = still_less s.still (left_text contents (suc i) (offset + x.size)) (ap (λ (rs : List Row). rows_text (lines_for offset rs) []) first_left) p;
      short = omega (arith, s.short, ap sizes first_left);
    })

-- ---- the deck

-- count, entries and bodies, one after the other
pub deck_put : {a b c d contents bodies : List ℕ} {first m n r : ℕ} → Put a b 0 (length contents / 8 ∷ []) m → Put b c m (lines_text first contents) n
    → Put c d first bodies r → DeckPut a d contents bodies first r
deck_put {contents = contents} {bodies = bodies} {first = first} p q s =
    let front = then p q in
    record { small = p.small; wrote = s.wrote ∙ ap (λ (x : List ℕ). clip x first bodies) front.wrote; next = s.next }

pub rows_before : (rs : List Row) (rest : List ℕ) → rows_text rs rest ≡ rows_text rs [] ++ rest
rows_before [] rest = refl
rows_before (r ∷ rs) rest = ap (row_text r) (rows_before rs rest)

length_lines : (at : ℕ) (rs : List Row) → length (rows_text (lines_for at rs) []) ≡ 8 * length rs
length_lines at [] = refl
length_lines at (r ∷ rs) = omega (arith, length_lines (at + r.size) rs)

module _ {contents parts : List ℕ} (h : Fine contents parts) where
  first_body : behind h.count ≡ 1 + length contents
  first_body = omega (arith, h.counted.long)

  -- where the bodies start behind the contents, this is the deck's text
  deck_text_law : deck_text (entries_said contents parts) ≡ (count_in contents ∷ lines_text (1 + length contents) contents) ++ parts
  deck_text_law =
      let said = entries_said contents parts in
      let there = lines_for (1 + length contents) (lines contents) in
      let rows : rows_for (behind (length said)) said ≡ there
      = ap (λ (n : ℕ). rows_for (behind n) said) (count_said h) ∙ rows_said h ∙ ap (λ (n : ℕ). lines_for n (lines contents)) first_body in
      let count : length said ≡ count_in contents = count_said h ∙ sym (counts h.counted) in
      ap (λ (n : ℕ). n ∷ rows_text (rows_for (behind (length said)) said) (bodies said)) count
      ∙ ap (λ (rs : List Row). count_in contents ∷ rows_text rs (bodies said)) rows
      ∙ ap (λ (t : List ℕ). count_in contents ∷ rows_text there t) (bodies_said h)
      ∙ ap (λ (t : List ℕ). count_in contents ∷ t) (rows_before there parts)

  pub deck_there : {was is : List ℕ} {r : ℕ} → DeckPut was is contents parts (1 + length contents) r → Put was is 0 (deck_text (entries_said contents parts)) r
  deck_there {was} {is} {r} p =
      let front = count_in contents ∷ lines_text (1 + length contents) contents in
      let long : 0 + length front ≡ 1 + length contents
      = omega (arith, length_lines (1 + length contents) (lines contents), length_rows (count_in contents) contents, h.counted.long, counts h.counted) in
      let end : length (front ++ parts) ≡ 1 + length contents + length parts = omega (arith, length-append front parts, long) in
      put_as deck_text_law
      (record {
        small = p.small;
        wrote = p.wrote ∙ ap (λ (k : ℕ). clip (clip was 0 front) k parts) (sym long) ∙ sym (clip_append was 0 front parts);
        next = omega (arith, p.next, end);
      })
