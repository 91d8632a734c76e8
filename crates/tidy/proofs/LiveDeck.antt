-- The live entries of a sound deck: they are right, they lie ahead, and their rows with new offsets and their bodies are the tidied deck. Assumes nothing.
use Prim.Native.Nat.{ℕ, zero, suc, ◌+◌, ◌*◌, ◌≤◌}
use mathlib.Core.Path.{◌≡◌, refl, ap, ◌∙◌}
use mathlib.Core.Bool.{Bool, true, false}
use mathlib.Core.List.{List, [], ◌∷◌, ◌++◌, map}
use native.Mathlib.Omega.{arith}
use lib.ListN.{length, drop, length-map}
use Rattle.card.specs.Text.{when◌then◌else◌}
use Rattle.card.specs.Valid.{Every}
use Rattle.deck.specs.Contents.{Row, row_of, rows_of, end_of, count_of, entries_from, behind, contents_of}
use Rattle.deck.specs.Deck.{live_of, entry_of, rows_for, rows_text, bodies, deck_text}
use Rattle.deck.specs.Sound.{Sound}
use Rattle.deck.proofs.Judged.{SoundRows, measured, sound_rest}
use Rattle.deck_writer.proofs.Putting.{rows_before}
use Rattle.deck_written.proofs.Entries.{length_rows}
use Rattle.deck_written.specs.WriteDeckSaid.{sizes, lines_for}
use Rattle.mending.proofs.Mended.{KeptRow}
use Rattle.mended_rooms.proofs.Text.{lines_for_law, sizes_are}
use Rattle.tidying.specs.Tidied.{live_cards, tidy_text}
use Rattle.gathering.specs.LiveRows.{live_rows}
use Rattle.gathering.proofs.Entries.{live_held, live_sizes}
use Rattle.gathering.specs.LiveText.{rows_stay, bodies_stay, Ahead}
use Rattle.gathering.proofs.Ahead.{ahead_sound, size_most}

pub live_few : (rs : List Row) → length (live_rows rs) ≤ length rs
live_few [] = omega arith
live_few (r ∷ rs) = go (live_of r) (live_few rs)
  where
    go : (b : Bool) → length (live_rows rs) ≤ length rs → length (when b then r ∷ live_rows rs else live_rows rs) ≤ suc (length rs)
    go true h = omega arith
    go false h = omega arith

live_ahead : (long to : ℕ) (rs : List Row) → Ahead long to rs → to + sizes (live_rows rs) ≤ long
live_ahead long to [] h = omega (arith, h)
live_ahead long to (r ∷ rs) h =
    let more = live_ahead long (end_of r) rs h.2 in
    omega (arith, more, h.0, live_sizes r rs, size_most r)

length_lines : (at : ℕ) (rs : List Row) → length (rows_text (lines_for at rs) []) ≡ 8 * length rs
length_lines at [] = refl
length_lines at (r ∷ rs) = omega (arith, length_lines (at + r.size) rs)

module _ (deck : List ℕ) where
  right_rows : (c least last : ℕ) (t : List ℕ) → SoundRows (length deck) least last c t → Every (KeptRow deck) (live_rows (rows_of c t))
  right_rows zero least last t s = tt
  right_rows (suc c) least last t s =
      go (live_of (row_of t)) (right_rows c (suc (row_of t).number) (end_of (row_of t)) (drop 8 t) (sound_rest (length deck) c least last t s))
    where
      go : (b : Bool) → Every (KeptRow deck) (live_rows (rows_of c (drop 8 t))) → Every (KeptRow deck) (when b then row_of t ∷ live_rows (rows_of c (drop 8 t)) else live_rows (rows_of c (drop 8 t)))
      go true more = let q = s.each 0 (omega arith) in (record { ends = q.ends; flag = q.flag; zero_byte = q.zero_byte }, more)
      go false more = more

  module _ (s : Sound deck) where
    abbrev rows : List Row
    rows = live_rows (contents_of deck)

    right : Every (KeptRow deck) rows
    right = right_rows (count_of deck) 0 (behind (count_of deck)) (entries_from deck) (measured deck s)

    pub few_rows : length rows ≤ count_of deck
    few_rows = omega (arith, live_few (contents_of deck), length_rows (count_of deck) (entries_from deck))

    pub bodies_long : length (bodies_stay deck (contents_of deck)) ≡ sizes rows
    bodies_long = sizes_are deck rows right

    pub rows_long : (first : ℕ) → length (rows_stay first (contents_of deck)) ≡ 8 * length rows
    rows_long first = length_lines first rows

    pub all_ahead : behind (count_of deck) + sizes rows ≤ length deck
    all_ahead = live_ahead (length deck) (behind (count_of deck)) (contents_of deck) (ahead_sound deck s)

    pub cards_count : length (live_cards deck) ≡ length rows
    cards_count = ap length (live_held deck (contents_of deck)) ∙ length-map rows (entry_of deck)

    pub tidy_text_law : tidy_text deck ≡ length rows ∷ rows_stay (behind (length rows)) (contents_of deck) ++ bodies_stay deck (contents_of deck)
    tidy_text_law =
        let es = map (entry_of deck) rows in
        ap deck_text (live_held deck (contents_of deck))
        ∙ ap (λ (n : ℕ). n ∷ rows_text (rows_for (behind n) es) (bodies es)) (length-map rows (entry_of deck))
        ∙ ap (λ (rs : List Row). length rows ∷ rows_text rs (bodies es)) (lines_for_law deck rows right (behind (length rows)))
        ∙ ap (λ (t : List ℕ). length rows ∷ t) (rows_before (lines_for (behind (length rows)) rows) (bodies es))
