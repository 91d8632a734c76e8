-- The parts of a mended deck put one after the other: each entry leaves the others still to be put, and count, rows and bodies are the text of the entries kept. Assumes nothing.
use Prim.Native.Nat.{ℕ, suc, ◌+◌, ◌-◌, ◌*◌, ◌≤◌, ◌<◌, min}
use mathlib.Core.Path.{◌≡◌, refl, sym, ap, ◌∙◌, subst}
use mathlib.Core.Bool.{true≢false}
use mathlib.Core.List.{List, [], ◌∷◌, ◌++◌, map}
use native.Mathlib.Omega.{arith}
use lib.ListN.{length, drop, get_or, drop_of_length-le}
use lib.Seq.{drop-drop, drop-cons}
use Rattle.card.specs.Limits.{word_numbers}
use Rattle.card.specs.Valid.{Every}
use Rattle.deck.specs.Contents.{Row, row_of, rows_of, count_of, entries_from, end_of}
use Rattle.deck.specs.Deck.{entry_of, rows_text, bodies}
use Rattle.deck_written.specs.WriteDeckSaid.{sizes, lines_for}
use Rattle.deck_entries.specs.Rows.{row_by as fields_of}
use Rattle.deck_entries.specs.declared.Entry.{Entry}
use Rattle.mending.specs.Mending.{Fate, kept, dropped, kept_rows}
use Rattle.mending.specs.FateBy.{fate_by}
use Rattle.mending.specs.declared.Rule.{Rule}
use Rattle.mending.proofs.Mended.{is_kept}
use Rattle.std.specs.Prelude.{Option, None}
use Rattle.room.specs.Room.{cap, Put}
use Rattle.deck_writer.proofs.Still.{Still, still_all, still_none, still_less}
use Rattle.mended_rooms.specs.Parts.{row_by, body_by, behind_by}
use Rattle.mended_rooms.specs.KeptBy.{rows_kept, Each, OffsetsFit, BodiesInside}

-- ---- the entries still to be put

-- the i-th, which stands at `from`, and those behind it
abbrev fate_at : (fates : List (Option Rule)) (i : ℕ) → Fate
fate_at fates i = fate_by (get_or fates i None)

abbrev row_from : (deck : List ℕ) (from : ℕ) → Row
row_from deck from = row_of (drop from deck)

abbrev fates_behind : (fates : List (Option Rule)) (i : ℕ) → List Fate
fates_behind fates i = map fate_by (drop (i + 1) fates)

abbrev rows_behind : (deck : List ℕ) (i from : ℕ) → List Row
rows_behind deck i from = rows_of (count_of deck - (i + 1)) (drop (from + 8) deck)

module _ (deck : List ℕ) (fates : List (Option Rule)) where
  -- from the i-th on
  abbrev rows_from : ℕ → ℕ → List Row
  rows_from i from = kept_rows (map fate_by (drop i fates)) (rows_of (count_of deck - i) (drop from deck))

  pub record Place (i from : ℕ) : Type 0 where
    pub at : from ≡ 1 + 8 * i
    pub within : i ≤ length fates

  module _ (h : Each deck fates) where
    pub starts : Place 0 1
    starts = record { at = refl; within = omega arith }

    all_rows : rows_from 0 1 ≡ rows_kept deck fates
    all_rows = let z : count_of deck - 0 ≡ count_of deck = omega arith in ap (λ (n : ℕ). kept_rows (map fate_by fates) (rows_of n (entries_from deck))) z

    module _ {i from : ℕ} (p : Place i from) where
      none_left : length fates ≤ i → rows_from i from ≡ []
      none_left l = ap (λ (ks : List (Option Rule)). kept_rows (map fate_by ks) (rows_of (count_of deck - i) (drop from deck))) (drop_of_length-le fates l)

      module _ (l : i < length fates) where
        pub in_contents : from + 8 ≤ length deck
        in_contents = omega (arith, p.at, h.long, h.head.whole)

        pub next_place : Place (i + 1) (from + 8)
        next_place = record { at = omega (arith, p.at); within = omega arith }

        -- the first of them and the others
        split : rows_from i from ≡ kept_rows (fate_at fates i ∷ fates_behind fates i) (row_from deck from ∷ rows_behind deck i from)
        split =
            let n : count_of deck - i ≡ suc (count_of deck - (i + 1)) = omega (arith, h.long) in
            let one : suc i ≡ i + 1 = omega arith in
            ap (λ (ks : List (Option Rule)). kept_rows (map fate_by ks) (rows_of (count_of deck - i) (drop from deck)))
            (drop-cons fates i None l ∙ ap (λ (m : ℕ). get_or fates i None ∷ drop m fates) one)
            ∙ ap (λ (c : ℕ). kept_rows (fate_at fates i ∷ fates_behind fates i) (rows_of c (drop from deck))) n
            ∙ ap (λ (t : List ℕ). kept_rows (fate_at fates i ∷ fates_behind fates i) (row_from deck from ∷ rows_of (count_of deck - (i + 1)) t)) (drop-drop 8 from deck)

-- an entry's part and the others', by its fate
rows_on : (k : Fate) (r : Row) (ks : List Fate) (rs : List Row) (offset : ℕ)
    → rows_text (lines_for offset (kept_rows (k ∷ ks) (r ∷ rs))) [] ≡ row_by k r offset ++ rows_text (lines_for (behind_by k r offset) (kept_rows ks rs)) []
rows_on kept r ks rs offset = refl
rows_on (dropped rule) r ks rs offset = refl

sizes_on : (k : Fate) (r : Row) (ks : List Fate) (rs : List Row) (offset : ℕ)
    → offset + sizes (kept_rows (k ∷ ks) (r ∷ rs)) ≡ behind_by k r offset + sizes (kept_rows ks rs)
sizes_on kept r ks rs offset = omega arith
sizes_on (dropped rule) r ks rs offset = refl

bodies_on : (deck : List ℕ) (k : Fate) (r : Row) (ks : List Fate) (rs : List Row)
    → bodies (map (entry_of deck) (kept_rows (k ∷ ks) (r ∷ rs))) ≡ body_by deck k r ++ bodies (map (entry_of deck) (kept_rows ks rs))
bodies_on deck kept r ks rs = refl
bodies_on deck (dropped rule) r ks rs = refl

module _ (P : Row → Type 0) where
  every_first : (k : Fate) (r : Row) (ks : List Fate) (rs : List Row) → Every P (kept_rows (k ∷ ks) (r ∷ rs)) → k ≡ kept → P r
  every_first kept r ks rs h e = h.0
  every_first (dropped rule) r ks rs h e = absurd (true≢false (sym (ap is_kept e)))

  every_rest : (k : Fate) (r : Row) (ks : List Fate) (rs : List Row) → Every P (kept_rows (k ∷ ks) (r ∷ rs)) → Every P (kept_rows ks rs)
  every_rest kept r ks rs h = h.1
  every_rest (dropped rule) r ks rs h = h

-- ---- rows

module _ (deck : List ℕ) (fates : List (Option Rule)) (first : ℕ) where
  pub record RowsLeft (was is : List ℕ) (at i from offset to : ℕ) : Type 0 where
    pub place : Place deck fates i from
    pub still : Still was is at (rows_text (lines_for first (rows_kept deck fates)) []) (rows_text (lines_for offset (rows_from deck fates i from)) []) to
    pub short : offset + sizes (rows_from deck fates i from) ≤ 65535

  module _ (h : Each deck fates) where
    pub rows_start : {was : List ℕ} {at to : ℕ} → length was < cap → to ≡ min at cap → OffsetsFit deck fates first → RowsLeft was was at 0 1 first to
    rows_start {was} {at} {to} s e f =
        let same = all_rows deck fates h in
        record {
          place = starts deck fates h;
          still = rw same (still_all (rows_text (lines_for first (rows_kept deck fates)) []) s e);
          short = omega (arith, f, ap sizes same);
        }

    module _ {was is : List ℕ} {at i from offset to : ℕ} (g : RowsLeft was is at i from offset to) where
      pub rows_end : length fates ≤ i → Put was is at (rows_text (lines_for first (rows_kept deck fates)) []) to
      rows_end l = still_none g.still (ap (λ (rs : List Row). rows_text (lines_for offset rs) []) (none_left deck fates h g.place l))

      pub offset_small : offset < word_numbers
      offset_small = omega (arith, g.short)

      module _ (l : i < length fates) where
        pub rows_next : {b : List ℕ} {m o : ℕ} → Put is b to (row_by (fate_at fates i) (row_from deck from) offset) m → o ≡ behind_by (fate_at fates i) (row_from deck from) offset → RowsLeft was b at (i + 1) (from + 8) o m
        rows_next {b} {m} {o} p e =
            let parts = split deck fates h g.place l in
            let text : rows_text (lines_for offset (rows_from deck fates i from)) [] ≡ row_by (fate_at fates i) (row_from deck from) offset ++ rows_text (lines_for o (kept_rows (fates_behind fates i) (rows_behind deck i from))) []
            = ap (λ (xs : List Row). rows_text (lines_for offset xs) []) parts ∙ rows_on (fate_at fates i) (row_from deck from) (fates_behind fates i) (rows_behind deck i from) offset
            ∙ ap (λ (n : ℕ). row_by (fate_at fates i) (row_from deck from) offset ++ rows_text (lines_for n (kept_rows (fates_behind fates i) (rows_behind deck i from))) []) (sym e) in
            record {
              place = next_place deck fates h g.place l;
              still = still_less g.still (rows_text (lines_for o (kept_rows (fates_behind fates i) (rows_behind deck i from))) []) text p;
              short = omega (arith, g.short, ap sizes parts, sizes_on (fate_at fates i) (row_from deck from) (fates_behind fates i) (rows_behind deck i from) offset, e);
            }

        -- the same by the fields of the entry
        pub rows_on_entry : {x : Entry} {b : List ℕ} {m o : ℕ} → fields_of x ≡ row_of (drop from deck) → Put is b to (row_by (fate_at fates i) (fields_of x) offset) m
            → o ≡ behind_by (fate_at fates i) (fields_of x) offset → RowsLeft was b at (i + 1) (from + 8) o m
        rows_on_entry {x} {b} {m} {o} f p e =
            rows_next (subst (λ (r : Row). Put is b to (row_by (fate_at fates i) r offset) m) f p) (e ∙ ap (λ (r : Row). behind_by (fate_at fates i) r offset) f)

-- ---- bodies

module _ (deck : List ℕ) (fates : List (Option Rule)) where
  abbrev bodies_from : ℕ → ℕ → List ℕ
  bodies_from i from = bodies (map (entry_of deck) (rows_from deck fates i from))

  abbrev bodies_kept : List ℕ
  bodies_kept = bodies (map (entry_of deck) (rows_kept deck fates))

  abbrev Inside : Row → Type 0
  Inside r = end_of r ≤ length deck

  pub record BodiesLeft (was is : List ℕ) (at i from to : ℕ) : Type 0 where
    pub place : Place deck fates i from
    pub still : Still was is at bodies_kept (bodies_from i from) to
    pub inside : Every Inside (rows_from deck fates i from)

  module _ (h : Each deck fates) where
    pub bodies_start : {was : List ℕ} {at to : ℕ} → length was < cap → to ≡ min at cap → BodiesInside deck fates → BodiesLeft was was at 0 1 to
    bodies_start {was} {at} {to} s e f =
        let same = all_rows deck fates h in
        record { place = starts deck fates h; still = rw same (still_all bodies_kept s e); inside = rw same f }

    module _ {was is : List ℕ} {at i from to : ℕ} (g : BodiesLeft was is at i from to) where
      pub bodies_end : length fates ≤ i → Put was is at bodies_kept to
      bodies_end l = still_none g.still (ap (λ (rs : List Row). bodies (map (entry_of deck) rs)) (none_left deck fates h g.place l))

      module _ (l : i < length fates) where
        inside_split : Every Inside (kept_rows ((fate_at fates i) ∷ (fates_behind fates i)) ((row_from deck from) ∷ (rows_behind deck i from)))
        inside_split = subst (Every Inside) (split deck fates h g.place l) g.inside

        pub body_inside : fate_at fates i ≡ kept → end_of (row_from deck from) ≤ length deck
        body_inside e = every_first Inside (fate_at fates i) (row_from deck from) (fates_behind fates i) (rows_behind deck i from) inside_split e

        pub bodies_next : {b : List ℕ} {m : ℕ} → Put is b to (body_by deck (fate_at fates i) (row_from deck from)) m → BodiesLeft was b at (i + 1) (from + 8) m
        bodies_next p = record {
          place = next_place deck fates h g.place l;
          still =
              still_less g.still (bodies (map (entry_of deck) (kept_rows (fates_behind fates i) (rows_behind deck i from))))
              (ap (λ (xs : List Row). bodies (map (entry_of deck) xs)) (split deck fates h g.place l) ∙ bodies_on deck (fate_at fates i) (row_from deck from) (fates_behind fates i) (rows_behind deck i from))
              p;
          inside = every_rest Inside (fate_at fates i) (row_from deck from) (fates_behind fates i) (rows_behind deck i from) inside_split;
        }

        -- the same by the fields of the entry
        pub inside_entry : {x : Entry} → fields_of x ≡ row_of (drop from deck) → fate_at fates i ≡ kept → end_of (fields_of x) ≤ length deck
        inside_entry f e = subst (λ (r : Row). end_of r ≤ length deck) (sym f) (body_inside e)

        pub bodies_on_entry : {x : Entry} {b : List ℕ} {m : ℕ} → fields_of x ≡ row_of (drop from deck) → Put is b to (body_by deck (fate_at fates i) (fields_of x)) m → BodiesLeft was b at (i + 1) (from + 8) m
        bodies_on_entry {x} {b} {m} f p = bodies_next (subst (λ (r : Row). Put is b to (body_by deck (fate_at fates i) r) m) f p)
