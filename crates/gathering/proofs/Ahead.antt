-- Bodies that lie ahead, as they do in a sound deck. And contents whose bytes are unchanged. Assumes nothing.
use Prim.Native.Nat.{ℕ, zero, suc, ◌+◌, ◌*◌, ◌≤◌, ◌<◌}
use mathlib.Core.Path.{◌≡◌, refl, sym, ap, ◌∙◌}
use mathlib.Core.Bool.{Bool, true, false}
use mathlib.Core.List.{List, [], ◌∷◌}
use native.Mathlib.Omega.{arith}
use lib.ListN.{length, take, drop, get_or}
use lib.Seq.{get_or-take, drop-drop}
use Rattle.card.specs.Text.{when◌then◌else◌}
use Rattle.deck.specs.Contents.{byte, word_at, Row, row_of, rows_of, end_of, count_of, entries_from, behind, contents_of}
use Rattle.deck.specs.Deck.{live_of}
use Rattle.deck.specs.Sound.{Sound}
use Rattle.deck.proofs.Judged.{SoundRows, measured, sound_rest}
use Rattle.deck_entries.proofs.Laws.{row_there}
use Rattle.gathering.specs.LiveRows.{live_size}
use Rattle.gathering.specs.LiveText.{Ahead}

pub ahead_from : (long a b : ℕ) (rs : List Row) → a ≤ b → Ahead long b rs → Ahead long a rs
ahead_from long a b [] l h = omega arith
ahead_from long a b (r ∷ rs) l h = (omega (arith, h.0), h.1, h.2)

ahead_rows : (long c least last : ℕ) (t : List ℕ) → SoundRows long least last c t → last ≤ long → Ahead long last (rows_of c t)
ahead_rows long zero least last t s l = l
ahead_rows long (suc c) least last t s l =
    let r = s.each 0 (omega arith) in
    (r.begins, r.ends, ahead_rows long c (suc (row_of t).number) (end_of (row_of t)) (drop 8 t) (sound_rest long c least last t s) r.ends)

pub ahead_sound : (deck : List ℕ) → Sound deck → Ahead (length deck) (behind (count_of deck)) (contents_of deck)
ahead_sound deck s = ahead_rows (length deck) (count_of deck) 0 (behind (count_of deck)) (entries_from deck) (measured deck s) s.head.whole

-- no more than its length is kept of a body
pub size_most : (r : Row) → live_size r ≤ r.size
size_most r = go (live_of r)
  where
    go : (b : Bool) → (when b then r.size else 0) ≤ r.size
    go true = omega arith
    go false = omega arith

-- ---- the first n bytes unchanged

module _ (n : ℕ) (is was : List ℕ) (e : take n is ≡ take n was) where
  same_byte : (j : ℕ) → j < n → byte is j ≡ byte was j
  same_byte j h = sym (get_or-take n is j 0 h) ∙ ap (λ (t : List ℕ). get_or t j 0) e ∙ get_or-take n was j 0 h

  same_word : (j : ℕ) → j + 1 < n → word_at is j ≡ word_at was j
  same_word j h = rw (same_byte j (omega arith), same_byte (j + 1) h)

  pub same_row : (at : ℕ) → at + 8 ≤ n → row_of (drop at is) ≡ row_of (drop at was)
  same_row at h =
      row_there is at 0 0 refl refl refl refl refl
      ∙ sym
      (row_there was at 0 0 (same_word at (omega arith)) (same_word (at + 2) (omega arith)) (same_word (at + 4) (omega arith)) (same_byte (at + 6) (omega arith))
      (same_byte (at + 7) (omega arith)))

  pub same_rows : (c at : ℕ) → at + 8 * c ≤ n → rows_of c (drop at is) ≡ rows_of c (drop at was)
  same_rows zero at h = refl
  same_rows (suc c) at h =
      ap (λ (t : List ℕ). row_of (drop at is) ∷ rows_of c t) (drop-drop 8 at is)
      ∙ ap (λ (rs : List Row). row_of (drop at is) ∷ rs) (same_rows c (at + 8) (omega arith))
      ∙ ap (λ (r : Row). r ∷ rows_of c (drop (at + 8) was)) (same_row at (omega arith))
      ∙ ap (λ (t : List ℕ). row_of (drop at was) ∷ rows_of c t) (sym (drop-drop 8 at was))
