-- The second walk: each body leaves the others still to be put, and the room has bytes for all of them. Assumes nothing.
use Prim.Native.Nat.{ℕ, ◌+◌, ◌*◌, ◌≤◌, ◌<◌, min}
use mathlib.Core.Path.{◌≡◌, sym, ap, ◌∙◌, subst}
use mathlib.Core.List.{List, ◌∷◌, ◌++◌}
use native.Mathlib.Omega.{arith}
use lib.ListN.{length, drop, get_or, length-append, drop_of_length-le}
use Rattle.card.specs.Valid.{Every}
use Rattle.deck.specs.Contents.{Row, row_of, count_of, contents_of}
use Rattle.deck.specs.Deck.{body_of}
use Rattle.room.specs.Room.{cap, Put}
use Rattle.deck_writer.proofs.Still.{Still, still_all, still_none, still_less}
use Rattle.converted_rows.specs.Noted.{Each}
use Rattle.converted_rows.specs.Notes.{body_noted, bodies_noted}
use Rattle.converted_rows.proofs.Left.{rows_left, all_left, first_left, note_and_rest}
use Rattle.converted_rows.proofs.Text.{RightRow}
use Rattle.convert.specs.Ready.{BodiesFit}

module _ (deck notes : List ℕ) where
  abbrev left : ℕ → List ℕ
  left i = bodies_noted deck (drop i notes) (rows_left deck i)

  abbrev all : List ℕ
  all = bodies_noted deck notes (contents_of deck)

  pub record BodiesLeft (was is : List ℕ) (at i to : ℕ) : Type 0 where
    pub right : Every (RightRow deck) (rows_left deck i)
    pub still : Still was is at all (left i) to
    pub fits : to + length (left i) ≤ length was

  module _ (h : Each deck notes) where
    pub bodies_start : {was : List ℕ} {at to : ℕ} → length was < cap → to ≡ min at cap → BodiesFit deck notes at was → BodiesLeft was was at 0 to
    bodies_start s e f =
        let same = all_left deck in
        record {
          right = subst (Every (RightRow deck)) (sym same) f.right;
          still = rw same (still_all all s e);
          fits = omega (arith, f.fits, s, e, ap (λ (rs : List Row). length (bodies_noted deck notes rs)) same);
        }

    module _ {was is : List ℕ} {at i to : ℕ} (g : BodiesLeft was is at i to) where
      pub bodies_end : length notes ≤ i → Put was is at all to
      bodies_end l = still_none g.still (ap (λ (ks : List ℕ). bodies_noted deck ks (rows_left deck i)) (drop_of_length-le notes l))

      module _ (l : i < length notes) where
        abbrev row : Row
        row = row_of (drop (1 + 8 * i) deck)

        inside : i < count_of deck
        inside = omega (arith, h.long)

        rows_split : Every (RightRow deck) (row ∷ rows_left deck (i + 1))
        rows_split = subst (Every (RightRow deck)) (first_left deck inside) g.right

        pub right_row : RightRow deck row
        right_row = rows_split.0

        module _ {k : ℕ} (e : get_or notes i 0 ≡ k) where
          abbrev part : List ℕ
          part = body_noted k (body_of deck row)

          split : left i ≡ part ++ left (i + 1)
          split =
              (λ j. bodies_noted deck (note_and_rest notes l j) (first_left deck inside j))
              ∙ ap (λ (n : ℕ). body_noted n (body_of deck row) ++ left (i + 1)) e

          long : length (left i) ≡ length part + length (left (i + 1))
          long = ap length split ∙ length-append part (left (i + 1))

          pub part_fits : to + length part ≤ length is
          part_fits = omega (arith, g.fits, long, g.still.long)

          pub bodies_next : {b : List ℕ} {m : ℕ} → Put is b to part m → BodiesLeft was b at (i + 1) m
          bodies_next p = record {
            right = rows_split.1;
            still = still_less g.still (left (i + 1)) split p;
            fits = omega (arith, g.fits, long, p.next);
          }
