-- Bodies gathered one behind the other: what is stored lies before every body that is still ahead, so that each is read as it was. Assumes nothing.
use Prim.Native.Nat.{ℕ, ◌+◌, ◌-◌, ◌*◌, ◌≤◌, ◌<◌}
use mathlib.Core.Path.{◌≡◌, refl, sym, ap, ◌∙◌, subst}
use mathlib.Core.Bool.{true, false}
use mathlib.Core.List.{List, ◌∷◌, ◌++◌, map}
use native.Mathlib.Omega.{arith}
use lib.ListN.{length, take, drop, length-take, length-drop}
use lib.Seq.{drop-drop}
use Rattle.deck.specs.Contents.{word_at, Row, row_of, end_of, behind}
use Rattle.deck.specs.Deck.{live_of, entry_of, bodies}
use Rattle.deck_entries.proofs.Laws.{row_there}
use Rattle.room.specs.Room.{clip}
use Rattle.room.proofs.Laws.{clip_none, clip_append, length_clip}
use Rattle.byte_blocks.proofs.Clips.{take_before, drop_behind}
use Rattle.gathering.specs.LiveRows.{live_rows, Flagged}
use Rattle.gathering.proofs.Entries.{rows_from, all_rows, no_rows, next_row, live_first, live_others}
use Rattle.gathering.specs.LiveText.{rows_in, bodies_stay, Ahead, Gatherable}
use Rattle.gathering.proofs.Ahead.{ahead_from, same_row}

-- from a place on unchanged, so from a later one on
pub same_later : (a b : ℕ) (is was : List ℕ) → a ≤ b → drop a is ≡ drop a was → drop b is ≡ drop b was
same_later a b is was l e =
    let p : a + (b - a) ≡ b = omega arith in
    ap (λ (n : ℕ). drop n is) (sym p) ∙ sym (drop-drop (b - a) a is) ∙ ap (drop (b - a)) e ∙ drop-drop (b - a) a was ∙ ap (λ (n : ℕ). drop n was) p

module _ (was : List ℕ) (count : ℕ) where
  abbrev rest : ℕ → List Row
  rest i = rows_from was count i

  -- the i-th entry is next, and the next body goes to `to`
  pub record Gathering (is : List ℕ) (i to : ℕ) : Type 0 where
    pub long : length is ≡ length was
    pub behind_contents : behind count ≤ to
    pub front : take (behind count) is ≡ take (behind count) was
    pub back : drop to is ≡ drop to was
    pub ahead : Ahead (length was) to (rest i)
    pub completes : clip is to (bodies_stay was (rest i)) ≡ clip was (behind count) (bodies_stay was (rows_in count was))

  pub gather_none : Gatherable was count → Gathering was 0 (behind count)
  gather_none g =
      let e = all_rows was count in
      record {
        long = refl;
        behind_contents = omega arith;
        front = refl;
        back = refl;
        ahead = subst (Ahead (length was) (behind count)) (sym e) g.ahead;
        completes = ap (λ (rs : List Row). clip was (behind count) (bodies_stay was rs)) e;
      }

  module _ {is : List ℕ} {i to : ℕ} (s : Gathering is i to) where
    pub gather_all : count ≤ i → is ≡ clip was (behind count) (bodies_stay was (rows_in count was))
    gather_all h = sym (clip_none is to) ∙ ap (λ (rs : List Row). clip is to (bodies_stay was rs)) (sym (no_rows was count i h)) ∙ s.completes

    module _ (h : i < count) where
      abbrev row : Row
      row = row_of (drop (1 + 8 * i) was)

      abbrev others : List Row
      others = rest (i + 1)

      row_read : row_of (drop (1 + 8 * i) is) ≡ row
      row_read = same_row (behind count) is was s.front (1 + 8 * i) (omega arith)

      next : Ahead (length was) to (row ∷ others)
      next = subst (Ahead (length was) to) (next_row was count i h) s.ahead

      pub gather_withdrawn : live_of (row_of (drop (1 + 8 * i) is)) ≡ false → Gathering is (i + 1) to
      gather_withdrawn n =
          let gone : live_of row ≡ false = sym (ap live_of row_read) ∙ n in
          record {
            long = s.long;
            behind_contents = s.behind_contents;
            front = s.front;
            back = s.back;
            ahead = ahead_from (length was) to (end_of row) others (omega (arith, next.0)) next.2;
            completes =
                ap (λ (rs : List Row). clip is to (bodies (map (entry_of was) rs))) (sym (ap live_rows (next_row was count i h) ∙ live_others row others gone))
                ∙ s.completes;
          }

      module _ {offset size : ℕ} (eo : offset ≡ word_at is (1 + 8 * i + 2)) (l : Flagged 1 (row_of (drop (1 + 8 * i) is)) size) where
        offset_read : offset ≡ row.offset
        offset_read = sym (ap (λ (r : Row). r.offset) (row_there is (1 + 8 * i) 0 0 refl eo refl refl refl)) ∙ ap (λ (r : Row). r.offset) row_read

        size_read : size ≡ row.size
        size_read = l.same ∙ ap (λ (r : Row). r.size) row_read

        live_read : live_of row ≡ true
        live_read = sym (ap live_of row_read) ∙ l.flagged

        pub lower : to ≤ offset
        lower = omega (arith, offset_read, next.0)

        pub ends : offset + size ≤ length is
        ends = omega (arith, offset_read, size_read, next.1, s.long)

        body_read : take size (drop offset is) ≡ take row.size (drop row.offset was)
        body_read =
            ap (take size) (same_later to offset is was lower s.back)
            ∙ ap (λ (n : ℕ). take n (drop offset was)) size_read
            ∙ ap (λ (n : ℕ). take row.size (drop n was)) offset_read

        body_long : length (take size (drop offset is)) ≡ size
        body_long = omega (arith, length-take size (drop offset is), length-drop offset is, ends)

        pub gather_more : {now : List ℕ} → now ≡ clip is to (take size (drop offset is)) → Gathering now (i + 1) (to + size)
        gather_more {now} e =
            let body = take size (drop offset is) in
            let k = body_long in
            record {
              long = ap length e ∙ length_clip is to body ∙ s.long;
              behind_contents = omega (arith, s.behind_contents);
              front = ap (take (behind count)) e ∙ take_before is to body (behind count) s.behind_contents ∙ s.front;
              back = ap (drop (to + size)) e ∙ drop_behind is to body (to + size) (omega (arith, k)) ∙ same_later to (to + size) is was (omega arith) s.back;
              ahead = ahead_from (length was) (to + size) (end_of row) others (omega (arith, next.0, size_read)) next.2;
              completes =
                  ap (λ (w : List ℕ). clip w (to + size) (bodies_stay was others)) e
                  ∙ ap (λ (n : ℕ). clip (clip is to body) (to + n) (bodies_stay was others)) (sym k)
                  ∙ sym (clip_append is to body (bodies_stay was others))
                  ∙ ap (λ (t : List ℕ). clip is to (t ++ bodies_stay was others)) body_read
                  ∙ ap (λ (rs : List Row). clip is to (bodies (map (entry_of was) rs))) (sym (ap live_rows (next_row was count i h) ∙ live_first row others live_read))
                  ∙ s.completes;
            }
