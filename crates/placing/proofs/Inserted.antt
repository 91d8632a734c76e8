-- The steps of putting a card in: room behind the lower bodies, room behind the lower entries, its body and its entry there, the count, and all offsets anew. Assumes nothing.
use Prim.Native.Nat.{ℕ, suc, ◌+◌, ◌-◌, ◌*◌, ◌≤◌}
use mathlib.Core.Path.{◌≡◌, refl, sym, ap, ◌∙◌, subst}
use mathlib.Core.Bool.{true}
use mathlib.Core.List.{List, [], ◌∷◌, ◌++◌, append_assoc}
use native.Mathlib.Omega.{arith}
use lib.ListN.{length, take, drop, set, length-append, length-drop, length-set}
use lib.Seq.{drop-drop, drop-append-le}
use Rattle.card.specs.Valid.{Every}
use Rattle.deck.specs.Contents.{Row, rows_of, behind}
use Rattle.deck.specs.Deck.{Entry, held_by, row_for, rows_for, row_text, rows_text, bodies, deck_text}
use Rattle.deck.proofs.Written.{rows_back, length_rows, drop_rows, length_for, length_text}
use Rattle.deck_writer.proofs.Putting.{rows_before}
use Rattle.deck_written.specs.WriteDeckSaid.{sizes, lines_for}
use Rattle.room.specs.Room.{clip}
use Rattle.room.proofs.Laws.{clip_fits, length_clip}
use Rattle.tidying.specs.Tidying.{live_card, with_card, added_text}
use Rattle.tidying.proofs.Added.{with_every, with_count, with_bodies}
use Rattle.tidying.proofs.Gap.{rows_then, gap_contents}
use Rattle.gathering.specs.declared.Live.{Live}
use Rattle.gathering.specs.LiveRows.{live_rows}
use Rattle.gathering.specs.LiveText.{rows_in, rows_stay, Offsets}
use Rattle.placing.specs.Lower.{lower_rows, Spots}
use Rattle.placing.specs.Inserts.{Insertable}
use Rattle.placing.specs.declared.Spot.{Spot}
use Rattle.placing.proofs.Parts.{between, between_long, moved_up, replaced}
use Rattle.placing.proofs.Rows.{FitTo, fit_for, fit_append, fit_count, fit_sizes, fit_lines, fit_live, text_append, rows_append, bodies_append, lower, higher, split, with_split, lower_rows_law}

module _ (was : List ℕ) {known : Live} {number : ℕ} {card : List ℕ} (i : Insertable was known number card) where
  abbrev cards : ℕ
  cards = known.cards

  abbrev bytes : ℕ
  bytes = known.bytes

  abbrev new : Entry
  new = live_card number card

  abbrev es : List Entry
  es = held_by was

  abbrev lows : List Entry
  lows = lower new es

  abbrev highs : List Entry
  highs = higher new es

  abbrev first : ℕ
  first = behind (length es)

  abbrev gap : List ℕ
  gap = drop (length (deck_text es)) was

  text_there : was ≡ deck_text es ++ gap
  text_there = i.text

  long : length was ≡ behind cards + bytes + length gap
  long = omega (arith, ap length text_there, length-append (deck_text es) gap, length_text es, i.count, i.total)

  counts : length es ≡ length lows + length highs
  counts = ap length (split new es) ∙ length-append lows highs

  bodies_split : bodies es ≡ bodies lows ++ bodies highs
  bodies_split = ap bodies (split new es) ∙ bodies_append lows highs

  totals : bytes ≡ length (bodies lows) + length (bodies highs)
  totals = i.total ∙ ap length bodies_split ∙ length-append (bodies lows) (bodies highs)

  -- ---- where

  contents_there : rows_in cards was ≡ rows_for first es
  contents_there = ap (λ (n : ℕ). rows_of n (drop 1 was)) i.count ∙ ap (λ (t : List ℕ). rows_of (length es) (drop 1 t)) text_there ∙ gap_contents es gap

  lower_there : lower_rows number (rows_in cards was) ≡ rows_for first lows
  lower_there = ap (lower_rows number) contents_there ∙ lower_rows_law new first es

  module _ {spot : Spot} (at : Spots was cards number spot) where
    pub row_at : spot.row ≡ behind (length lows)
    row_at = at.row ∙ ap (λ (n : ℕ). behind n) (ap length lower_there ∙ length_for first lows)

    pub body_at : spot.body ≡ behind cards + length (bodies lows)
    body_at = omega (arith, at.body, ap sizes lower_there, fit_sizes (rows_for first lows) lows (fit_for first lows))

    pub body_inside : spot.body ≤ behind cards + bytes
    body_inside = omega (arith, body_at, totals)

    pub row_inside : spot.row ≤ behind cards
    row_inside = omega (arith, row_at, counts, i.count)

    pub row_before : spot.row ≤ spot.body
    row_before = omega (arith, row_inside, body_at)

    -- ---- room behind the lower bodies

    abbrev front : List ℕ
    front = length es ∷ rows_text (rows_for first es) (bodies lows)

    front_long : length front ≡ behind cards + length (bodies lows)
    front_long = omega (arith, length_rows (rows_for first es) (bodies lows), length_for first es, i.count)

    parted : was ≡ front ++ (bodies highs ++ gap)
    parted =
        text_there
        ∙ ap (λ (t : List ℕ). (length es ∷ rows_text (rows_for first es) t) ++ gap) bodies_split
        ∙ ap (λ (t : List ℕ). length es ∷ t) (rows_then (rows_for first es) (bodies lows ++ bodies highs) gap)
        ∙ ap (λ (t : List ℕ). length es ∷ rows_text (rows_for first es) t) (append_assoc (bodies lows) (bodies highs) gap)
        ∙ ap (λ (t : List ℕ). length es ∷ t) (sym (rows_then (rows_for first es) (bodies lows) (bodies highs ++ gap)))

    abbrev low_rows : List Row
    low_rows = rows_for first lows

    abbrev high_rows : List Row
    high_rows = rows_for (first + length (bodies lows)) highs

    abbrev start : List ℕ
    start = length es ∷ rows_text low_rows []

    abbrev middle : List ℕ
    middle = rows_text high_rows (bodies lows)

    start_long : length start ≡ behind (length lows)
    start_long = omega (arith, length_rows low_rows [], length_for first lows)

    middle_long : length middle ≡ 8 * length highs + length (bodies lows)
    middle_long = omega (arith, length_rows high_rows (bodies lows), length_for (first + length (bodies lows)) highs)

    front_parted : front ≡ start ++ middle
    front_parted =
        ap (λ (t : List ℕ). length es ∷ t)
        (ap (λ (l : List Entry). rows_text (rows_for first l) (bodies lows)) (split new es)
        ∙ ap (λ (rs : List Row). rows_text rs (bodies lows)) (rows_append first lows highs)
        ∙ text_append low_rows high_rows (bodies lows)
        ∙ rows_before low_rows middle)

    abbrev both : ℕ
    both = length card + 8

    both_fit : both ≤ length gap
    both_fit = omega (arith, long, i.room)

    abbrev hole : List ℕ
    hole = between front (bodies highs) gap both both_fit

    hole_long : length hole ≡ both
    hole_long = between_long front (bodies highs) gap both both_fit

    abbrev gap2 : List ℕ
    gap2 = drop both gap

    abbrev behind_card : List ℕ
    behind_card = bodies highs ++ gap2

    module _ {d1 : List ℕ} (e1 : d1 ≡ clip was (spot.body + length card + 8) (take (behind cards + bytes - spot.body) (drop spot.body was))) where
      room_for_body : d1 ≡ start ++ (middle ++ (hole ++ behind_card))
      room_for_body =
          moved_up front (bodies highs) gap both both_fit spot.body (spot.body + length card + 8) (behind cards + bytes - spot.body) (body_at ∙ sym front_long) (omega (arith, body_at, front_long)) (omega (arith, body_at, totals))
          (e1 ∙ ap (λ (t : List ℕ). clip t (spot.body + length card + 8) (take (behind cards + bytes - spot.body) (drop spot.body t))) parted)
          ∙ ap (λ (t : List ℕ). t ++ (hole ++ behind_card)) front_parted
          ∙ append_assoc start middle (hole ++ behind_card)

      pub long1 : length d1 ≡ length was
      long1 = ap length e1 ∙ length_clip was _ _

      -- ---- room behind the lower entries

      entry_fits : 8 ≤ length (hole ++ behind_card)
      entry_fits = omega (arith, length-append hole behind_card, hole_long)

      abbrev entry_hole : List ℕ
      entry_hole = between start middle (hole ++ behind_card) 8 entry_fits

      entry_hole_long : length entry_hole ≡ 8
      entry_hole_long = between_long start middle (hole ++ behind_card) 8 entry_fits

      abbrev new_row : Row
      new_row = row_for 0 new

      abbrev new_bodies : List ℕ
      new_bodies = bodies lows ++ (card ++ bodies highs)

      module _ {d2 d3 d4 : List ℕ} (e2 : d2 ≡ clip d1 (spot.row + 8) (take (spot.body - spot.row) (drop spot.row d1))) (e3 : d3 ≡ clip d2 (spot.body + 8) card)
          (e4 : d4 ≡ clip d3 spot.row (row_text new_row [])) where
        room_for_both : d2 ≡ (start ++ (entry_hole ++ middle)) ++ (drop 8 hole ++ behind_card)
        room_for_both =
            moved_up start middle (hole ++ behind_card) 8 entry_fits spot.row (spot.row + 8) (spot.body - spot.row) (row_at ∙ sym start_long) (omega (arith, row_at, start_long))
            (omega (arith, row_at, body_at, middle_long, counts, i.count))
            (e2 ∙ ap (λ (t : List ℕ). clip t (spot.row + 8) (take (spot.body - spot.row) (drop spot.row t))) room_for_body)
            ∙ ap (λ (t : List ℕ). start ++ (entry_hole ++ (middle ++ t))) (drop-append-le 8 hole behind_card (omega (arith, hole_long)))
            ∙ ap (λ (t : List ℕ). start ++ t) (sym (append_assoc entry_hole middle (drop 8 hole ++ behind_card)))
            ∙ sym (append_assoc start (entry_hole ++ middle) (drop 8 hole ++ behind_card))

        -- ---- the body and the entry

        before_card : spot.body + 8 ≡ length (start ++ (entry_hole ++ middle))
        before_card = omega (arith, body_at, length-append start (entry_hole ++ middle), length-append entry_hole middle, entry_hole_long, start_long, middle_long, counts, i.count)

        body_in : d3 ≡ start ++ (entry_hole ++ (middle ++ (card ++ behind_card)))
        body_in =
            replaced (start ++ (entry_hole ++ middle)) (drop 8 hole) behind_card card (spot.body + 8) before_card (omega (arith, length-drop 8 hole, hole_long))
            (e3 ∙ ap (λ (t : List ℕ). clip t (spot.body + 8) card) room_for_both)
            ∙ append_assoc start (entry_hole ++ middle) (card ++ behind_card)
            ∙ ap (λ (t : List ℕ). start ++ t) (append_assoc entry_hole middle (card ++ behind_card))

        row_in : d4 ≡ start ++ (row_text new_row [] ++ (middle ++ (card ++ behind_card)))
        row_in =
            replaced start entry_hole (middle ++ (card ++ behind_card)) (row_text new_row []) spot.row (row_at ∙ sym start_long) (omega (arith, entry_hole_long))
            (e4 ∙ ap (λ (t : List ℕ). clip t spot.row (row_text new_row [])) body_in)

        pub long4 : length d4 ≡ length was
        long4 = ap length e4 ∙ length_clip d3 _ _ ∙ ap length e3 ∙ length_clip d2 _ _ ∙ ap length e2 ∙ length_clip d1 _ _ ∙ long1

        abbrev rows : List Row
        rows = low_rows ++ new_row ∷ high_rows

        abbrev entries : List Entry
        entries = lows ++ new ∷ highs

        fit : FitTo rows entries
        fit = fit_append low_rows (new_row ∷ high_rows) lows (new ∷ highs) (fit_for first lows) (refl, fit_for (first + length (bodies lows)) highs)

        with_is : with_card new es ≡ entries
        with_is = with_split new es

        live : Every (λ (e : Entry). e.live ≡ true) entries
        live = subst (Every (λ (e : Entry). e.live ≡ true)) with_is (with_every new (λ (e : Entry). e.live ≡ true) es refl i.live)

        rows_count : length rows ≡ suc cards
        rows_count = omega (arith, fit_count rows entries fit, ap length with_is, with_count new es, i.count)

        -- ---- count and offsets

        abbrev rest : List ℕ
        rest = new_bodies ++ gap2

        bodies_joined : bodies lows ++ (card ++ behind_card) ≡ rest
        bodies_joined = ap (λ (t : List ℕ). bodies lows ++ t) (sym (append_assoc card (bodies highs) gap2)) ∙ sym (append_assoc (bodies lows) (card ++ bodies highs) gap2)

        laid : d4 ≡ length es ∷ rows_text rows rest
        laid =
            row_in
            ∙ ap (λ (t : List ℕ). length es ∷ t)
            (sym (rows_before low_rows (row_text new_row (middle ++ (card ++ behind_card))))
            ∙ ap (λ (t : List ℕ). rows_text low_rows (row_text new_row t)) (rows_then high_rows (bodies lows) (card ++ behind_card))
            ∙ ap (λ (t : List ℕ). rows_text low_rows (row_text new_row (rows_text high_rows t))) bodies_joined
            ∙ sym (text_append low_rows (new_row ∷ high_rows) rest))

        module _ {n : ℕ} (en : n ≡ suc cards) where
          counted : set d4 0 n ≡ n ∷ rows_text rows rest
          counted = ap (λ (t : List ℕ). set t 0 n) laid

          rows_there : rows_in n (set d4 0 n) ≡ rows
          rows_there =
              ap (λ (t : List ℕ). rows_of n (drop 1 t)) counted
              ∙ ap (λ (k : ℕ). rows_of k (rows_text rows rest)) (en ∙ sym rows_count)
              ∙ rows_back rows rest

          stay : (at : ℕ) → rows_stay at (rows_in n (set d4 0 n)) ≡ rows_text (rows_for at entries) []
          stay at =
              ap (rows_stay at) rows_there
              ∙ ap (λ (rs : List Row). rows_text (lines_for at rs) []) (fit_live rows entries fit live)
              ∙ ap (λ (rs : List Row). rows_text rs []) (fit_lines at rows entries fit)

          pub offsets : Offsets (set d4 0 n) n (behind n)
          offsets =
              let l : length (set d4 0 n) ≡ length was = length-set d4 0 n ∙ long4 in
              let w : length (bodies (with_card new es)) ≡ bytes + length card = omega (arith, with_bodies new es, i.total) in
              let z : sizes (live_rows (rows_in n (set d4 0 n))) ≡ bytes + length card
              = ap (λ (rs : List Row). sizes (live_rows rs)) rows_there
              ∙ ap sizes (fit_live rows entries fit live)
              ∙ fit_sizes rows entries fit
              ∙ sym (ap (λ (l : List Entry). length (bodies l)) with_is)
              ∙ w in
              record { whole = omega (arith, l, en, i.room); small = omega (arith, en, i.few); short = omega (arith, z, en, i.room, i.short) }

          pub long6 : {d6 : List ℕ} → d6 ≡ clip (set d4 0 n) 1 (rows_stay (behind n) (rows_in n (set d4 0 n))) → length d6 ≡ length was
          long6 e6 = ap length e6 ∙ length_clip (set d4 0 n) 1 (rows_stay (behind n) (rows_in n (set d4 0 n))) ∙ length-set d4 0 n ∙ long4

          pub inserted : {d6 : List ℕ} → d6 ≡ clip (set d4 0 n) 1 (rows_stay (behind n) (rows_in n (set d4 0 n)))
              → d6 ≡ added_text number card es ++ drop (length (added_text number card es)) was
          inserted {d6} e6 =
              let all = rows_text (rows_for (behind n) entries) [] in
              let k : length (rows_for (behind n) entries) ≡ suc cards = omega (arith, length_for (behind n) entries, ap length with_is, with_count new es, i.count) in
              let all-long : length all ≡ 8 * length rows = omega (arith, length_rows (rows_for (behind n) entries) [], k, rows_count) in
              let tail_of : drop (1 + length all) (n ∷ rows_text rows rest) ≡ rest = ap (λ (m : ℕ). drop (1 + m) (n ∷ rows_text rows rest)) all-long ∙ at_rows in
              let text-long : length (added_text number card es) ≡ behind (suc cards) + bytes + length card
              = omega (arith, length_text (with_card new es), with_count new es, with_bodies new es, i.count, i.total) in
              let deck-long : length (deck_text es) + (length card + 8) ≡ length (added_text number card es) = omega (arith, text-long, length_text es, i.count, i.total) in
              let gap_is : gap2 ≡ drop (length (added_text number card es)) was
              = drop-drop (length card + 8) (length (deck_text es)) was
              ∙ ap (λ (m : ℕ). drop m was) deck-long in
              e6
              ∙ ap (clip (set d4 0 n) 1) (stay (behind n))
              ∙ ap (λ (t : List ℕ). clip t 1 all) counted
              ∙ clip_fits (n ∷ rows_text rows rest) 1 all (omega (arith, all-long, length_rows rows rest))
              ∙ ap (λ (t : List ℕ). (take 1 (n ∷ rows_text rows rest) ++ all) ++ t) tail_of
              ∙ ap (λ (t : List ℕ). n ∷ t) (sym (rows_before (rows_for (behind n) entries) rest))
              ∙ ap (λ (m : ℕ). m ∷ rows_text (rows_for (behind m) entries) rest) (en ∙ ap suc i.count ∙ sym (with_count new es) ∙ ap length with_is)
              ∙ ap (λ (t : List ℕ). length entries ∷ t) (ap (λ (t : List ℕ). rows_text (rows_for (behind (length entries)) entries) (t ++ gap2)) (sym new_bodies_law) ∙ sym (rows_then (rows_for (behind (length entries)) entries) (bodies entries) gap2))
              ∙ ap (λ (l : List Entry). deck_text l ++ gap2) (sym with_is)
              ∙ ap (λ (t : List ℕ). added_text number card es ++ t) gap_is
            where
              at_rows : drop (1 + 8 * length rows) (n ∷ rows_text rows rest) ≡ rest
              at_rows = sym (drop-drop (8 * length rows) 1 (n ∷ rows_text rows rest)) ∙ drop_rows rows rest

              new_bodies_law : bodies entries ≡ new_bodies
              new_bodies_law = bodies_append lows (new ∷ highs)
