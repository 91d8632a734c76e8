-- Judging a deck and looking a card up read the contents alone: both are functions of the deck's length, its count and its entries, and an entry is
-- a function of its eight bytes. Assumes nothing.
use Prim.Native.Nat.{ℕ, zero, suc, ◌+◌, ◌*◌, ◌<◌}
use mathlib.Core.Path.{◌≡◌, refl, ap, ◌∙◌}
use mathlib.Core.List.{List}
use native.Mathlib.Omega.{arith}
use lib.Dec.{leb}
use lib.ListN.{length, drop}
use lib.Seq.{get_or-drop}
use Rattle.card.specs.Limits.{deck_bytes, most_cards, count_bytes, entry_bytes, expansion_from}
use Rattle.card.specs.Refusals.{malformed_deck}
use Rattle.entry.specs.Said.{Said, ◌>>=◌, ◌>>◌, return, unless, saying, placed_from}
use Rattle.deck.specs.Contents.{byte, Row, row_of, rows_of, count_of, entries_from, contents_of, behind, rows_said, judged, rows_in, SameContents}
use Rattle.deck.specs.Lookup.{Part, the_base, the_expansion, part_for, live_row, located, located_with, or_else}

-- entries with equal bytes are equal
row_same : (t u : List ℕ) → ((i : ℕ) → i < entry_bytes → byte t i ≡ byte u i) → row_of t ≡ row_of u
row_same t u h =
    rw (h 0 (omega arith), h 1 (omega arith), h 2 (omega arith), h 3 (omega arith), h 4 (omega arith), h 5 (omega arith), h 6 (omega arith), h 7 (omega arith))

rows_same : (c : ℕ) (t u : List ℕ) → ((i : ℕ) → i < entry_bytes * c → byte t i ≡ byte u i) → rows_of c t ≡ rows_of c u
rows_same zero t u h = refl
rows_same (suc c) t u h =
    let first : row_of t ≡ row_of u = row_same t u (λ i k. h i (omega (arith, k))) in
    let rest : rows_of c (drop entry_bytes t) ≡ rows_of c (drop entry_bytes u) = rows_same c (drop entry_bytes t) (drop entry_bytes u) behind_it in
    rw (first, rest)
  where
    behind_it : (i : ℕ) → i < entry_bytes * c → byte (drop entry_bytes t) i ≡ byte (drop entry_bytes u) i
    behind_it i k = rw (get_or-drop entry_bytes t i 0, get_or-drop entry_bytes u i 0) (h (entry_bytes + i) (omega (arith, k)))

-- judged, by what it looks at
abbrev head_by : (long count : ℕ) → Said (Unit {0})
head_by long count = do
  unless (leb long deck_bytes) malformed_deck 0
  unless (leb 1 count) malformed_deck 0
  unless (leb count most_cards) malformed_deck 0
  unless (leb (behind count) long) malformed_deck 0

abbrev judged_by : (long count : ℕ) → List Row → Said (Unit {0})
judged_by long count rows = do
  head_by long count
  rows_said long count_bytes 0 (behind count) rows

module _ (deck other : List ℕ) (s : SameContents deck other) where
  count_same : count_of deck ≡ count_of other
  count_same = s.same 0 (omega arith)

  contents_same : contents_of deck ≡ contents_of other
  contents_same =
      rows_same (count_of deck) (entries_from deck) (entries_from other) inside ∙ ap (λ (c : ℕ). rows_of c (entries_from other)) count_same
    where
      inside : (i : ℕ) → i < entry_bytes * count_of deck → byte (entries_from deck) i ≡ byte (entries_from other) i
      inside i k = rw (get_or-drop count_bytes deck i 0, get_or-drop count_bytes other i 0) (s.same (count_bytes + i) (omega (arith, k)))

  pub judged_same : judged deck ≡ judged other
  judged_same =
      ap (λ (rows : List Row). judged_by (length deck) (count_of deck) rows) contents_same
      ∙ ap (λ (c : ℕ). judged_by (length deck) c (contents_of other)) count_same
      ∙ ap (λ (l : ℕ). judged_by l (count_of other) (contents_of other)) s.long

  pub rows_in_same : rows_in deck ≡ rows_in other
  rows_in_same =
      ap (λ (x : Said (Unit {0})). x >> return (contents_of deck)) judged_same ∙ ap (λ (rows : List Row). judged other >> return rows) contents_same

  pub located_same : (number : ℕ) → located deck number ≡ located other number
  located_same number = ap (λ (x : Said (List Row)). x >>= (λ (rows : List Row). saying (part_for the_base) (live_row number rows))) rows_in_same

-- where a card stands, by the contents of both decks
abbrev located_by : Said (List Row) → Said (List Row) → ℕ → Said Part
located_by b x number = do
  base ← b
  expansion ← placed_from expansion_from x
  or_else (saying (part_for the_expansion) (live_row number expansion)) (saying (part_for the_base) (live_row number base))

pub located_with_same : (base base' expansion expansion' : List ℕ) → SameContents base base' → SameContents expansion expansion' → (number : ℕ)
    → located_with base expansion number ≡ located_with base' expansion' number
located_with_same base base' expansion expansion' s t number =
    ap (λ (b : Said (List Row)). located_by b (rows_in expansion) number) (rows_in_same base base' s)
    ∙ ap (λ (x : Said (List Row)). located_by (rows_in base') x number) (rows_in_same expansion expansion' t)
