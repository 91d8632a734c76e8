-- What mending makes is whole, and so is its own mending. Assumes nothing.
use Prim.Native.Nat.{ℕ, zero, suc, ◌<◌, ◌≤◌}
use mathlib.Core.Path.{◌≡◌, sym, ◌∙◌, subst}
use mathlib.Core.List.{List, [], ◌∷◌, map}
use native.Mathlib.Omega.{arith}
use lib.ListN.{length, take, drop}
use borrow.Author.Tests.{eq-eqb}
use Rattle.card.specs.Valid.{Every}
use Rattle.entry.specs.Said.{says}
use Rattle.entry.specs.Contract.{two}
use Rattle.deck.specs.Contents.{Row, rows_of, count_of, entries_from, contents_of}
use Rattle.deck.specs.Deck.{Entry, entry_of, held_by, deck_of, deck_text, Bytes, BytesBody}
use Rattle.deck.specs.Sound.{row_at, Sound}
use Rattle.deck.proofs.DeckStages.{deck_stage}
use Rattle.deck.proofs.Kept.{bytes_drop, bytes_text}
use Rattle.deck.proofs.Written.{length_text, text_sound, text_back}
use Rattle.deck_written.proofs.NoGaps.{no_gaps}
use Rattle.entry.proofs.Stages.{same_said}
use Rattle.mending.specs.Mending.{fates_in, kept_rows, kept_in, list_text, mend_said}
use Rattle.mending.specs.Accepted.{Accepted, Whole, Mendable}
use Rattle.mending.proofs.Kept.{all_kept}
use Rattle.mending.proofs.Mended.{LiveTaken, no_longer, kept_accepted, kept_writable}
use Rattle.mending.proofs.Unchanged.{comes_out_the_same}

bytes_take : (n : ℕ) (t : List ℕ) → Bytes t → Bytes (take n t)
bytes_take zero t h = tt
bytes_take (suc n) [] h = tt
bytes_take (suc n) (b ∷ t) h = (h.0, bytes_take n t h.1)

bytes_kept : (deck : List ℕ) → Bytes deck → (rs : List Row) → Every BytesBody (map (entry_of deck) rs)
bytes_kept deck b [] = tt
bytes_kept deck b (r ∷ rs) = (bytes_take r.size (drop r.offset deck) (bytes_drop r.offset deck b), bytes_kept deck b rs)

-- of every entry, so of the i-th
at_entry : (P : Entry → Type 0) (deck : List ℕ) (c : ℕ) (t : List ℕ) → Every P (map (entry_of deck) (rows_of c t)) → (i : ℕ) → i < c → P (entry_of deck (row_at t i))
at_entry P deck zero t h i l = absurd (omega arith)
at_entry P deck (suc c) t h zero l = h.0
at_entry P deck (suc c) t h (suc i) l = at_entry P deck c (drop 8 t) h.1 i (omega arith)

module _ (deck : List ℕ) (m : Mendable deck) where
  abbrev new : List ℕ
  new = deck_text (kept_in deck)

  module _ (b : Bytes deck) where
    pub new_short : length new ≤ length deck
    new_short = omega (arith, length_text (kept_in deck), no_longer deck m.head b)

    pub new_sound : Sound new
    new_sound = text_sound (kept_in deck) (kept_writable deck m.head b m.some)

    pub new_back : deck_of new ≡ says (kept_in deck)
    new_back = text_back (kept_in deck) (kept_writable deck m.head b m.some)

    held : held_by new ≡ kept_in deck
    held = same_said (sym ((deck_stage new).found.each new_sound) ∙ new_back)

    new_accepted : Accepted new
    new_accepted i l f =
        at_entry LiveTaken new (count_of new) (entries_from new) (subst (Every LiveTaken) (sym held) (kept_accepted deck m.head b)) i l
        (eq-eqb (row_at (entries_from new) i).flag 1 f)

    pub new_whole : Whole new
    new_whole = record { good = record { sound = new_sound; accepted = new_accepted }; no_gaps = no_gaps (kept_in deck) m.some }

    pub new_bytes : Bytes new
    new_bytes = bytes_text (kept_in deck) (kept_writable deck m.head b m.some) (bytes_kept deck b (kept_rows (fates_in deck) (contents_of deck)))

    pub again : mend_said new ≡ says (two new (list_text (all_kept (contents_of new))))
    again = comes_out_the_same new new_whole new_bytes
