-- What a sound deck holds can be written without gaps, all of it or any part that is kept, in no more bytes than the deck has. Assumes nothing.
use Prim.Native.Nat.{ℕ, zero, suc, ◌+◌, ◌≤◌, ◌<◌}
use mathlib.Core.Path.{◌≡◌, refl, ap}
use mathlib.Core.Bool.{Bool, true, false}
use mathlib.Core.List.{List, [], ◌∷◌, ◌++◌, map}
use native.Mathlib.Nat.{le_trans}
use native.Mathlib.Omega.{arith}
use lib.ListN.{length, drop, length-append, length-drop}
use lib.Seq.{length-take-le}
use Rattle.card.specs.Limits.{deck_bytes}
use Rattle.card.specs.Text.{when◌then◌else◌}
use Rattle.card.specs.Valid.{Every}
use Rattle.entry.specs.Said.{Said, says, ◌>>=◌}
use Rattle.deck.specs.Contents.{byte, Row, end_of, row_of, rows_of, count_of, entries_from, behind}
use Rattle.deck.specs.Deck.{Entry, body_of, entry_of, held_by, deck_of, flag_of, rows_for, rows_text, bodies, deck_text, Rising, Writable, kept}
use Rattle.deck.specs.Deck.{Bytes, BytesBody}
use Rattle.deck.specs.Sound.{Sound}
use Rattle.deck.proofs.Judged.{SoundRows, measured, said, sound_rest}
use Rattle.deck.proofs.Written.{length_text, text_back}

-- ---- a part that is kept

pub rising_from : (a b : ℕ) (es : List Entry) → a ≤ b → Rising b es → Rising a es
rising_from a b [] l h = tt
rising_from a b (e ∷ es) l h = (omega (arith, h.0), h.1, h.2)

module _ (f : Entry → Bool) where
  pub kept_rising : (least : ℕ) (es : List Entry) → Rising least es → Rising least (kept f es)
  kept_rising least [] h = tt
  kept_rising least (e ∷ es) h = go (f e) (kept_rising (suc e.number) es h.2)
    where
      go : (b : Bool) → Rising (suc e.number) (kept f es) → Rising least (when b then e ∷ kept f es else kept f es)
      go true r = (h.0, h.1, r)
      go false r = rising_from least (suc e.number) (kept f es) (omega (arith, h.0)) r

  pub kept_few : (es : List Entry) → length (kept f es) ≤ length es
  kept_few [] = omega arith
  kept_few (e ∷ es) = go (f e) (kept_few es)
    where
      go : (b : Bool) → length (kept f es) ≤ length es → length (when b then e ∷ kept f es else kept f es) ≤ suc (length es)
      go true r = omega arith
      go false r = omega arith

  pub kept_short : (es : List Entry) → length (bodies (kept f es)) ≤ length (bodies es)
  kept_short [] = omega arith
  kept_short (e ∷ es) = go (f e) (kept_short es)
    where
      go : (b : Bool) → length (bodies (kept f es)) ≤ length (bodies es)
          → length (bodies (when b then e ∷ kept f es else kept f es)) ≤ length (e.body ++ bodies es)
      go true r = omega (arith, length-append e.body (bodies es), length-append e.body (bodies (kept f es)))
      go false r = omega (arith, length-append e.body (bodies es))

  pub kept_writable : (es : List Entry) → Writable es → 1 ≤ length (kept f es) → Writable (kept f es)
  kept_writable es w h = record {
    some = h;
    few = le_trans (kept_few es) w.few;
    rising = kept_rising 0 es w.rising;
    short = omega (arith, kept_few es, kept_short es, w.short);
  }

  pub kept_no_longer : (es : List Entry) → length (deck_text (kept f es)) ≤ length (deck_text es)
  kept_no_longer es = omega (arith, length_text es, length_text (kept f es), kept_few es, kept_short es)

-- ---- what a sound deck holds

pub byte_at : (t : List ℕ) (i : ℕ) → Bytes t → byte t i < 256
byte_at [] i h = omega arith
byte_at (b ∷ t) zero h = h.0
byte_at (b ∷ t) (suc i) h = byte_at t i h.1

pub bytes_drop : (n : ℕ) (t : List ℕ) → Bytes t → Bytes (drop n t)
bytes_drop zero t h = h
bytes_drop (suc n) [] h = tt
bytes_drop (suc n) (b ∷ t) h = bytes_drop n t h.1

pub body_long : (deck : List ℕ) (r : Row) → end_of r ≤ length deck → length (body_of deck r) ≡ r.size
body_long deck r h = length-take-le r.size (drop r.offset deck) (omega (arith, length-drop r.offset deck))

module _ (deck : List ℕ) where
  abbrev entries_in : ℕ → List ℕ → List Entry
  entries_in c t = map (entry_of deck) (rows_of c t)

  count_held : (c : ℕ) (t : List ℕ) → length (entries_in c t) ≡ c
  count_held zero t = refl
  count_held (suc c) t = ap suc (count_held c (drop 8 t))

  held_rising : (c least last : ℕ) (t : List ℕ) → SoundRows (length deck) least last c t → Bytes t → Rising least (entries_in c t)
  held_rising zero least last t s b = tt
  held_rising (suc c) least last t s b = (
    (s.each 0 (omega arith)).number,
    omega (arith, byte_at t 0 b, byte_at t 1 b),
    held_rising c (suc (row_of t).number) (end_of (row_of t)) (drop 8 t) (sound_rest (length deck) c least last t s) (bytes_drop 8 t b),
  )

  held_short : (c least last : ℕ) (t : List ℕ) → SoundRows (length deck) least last c t → last ≤ length deck
      → last + length (bodies (entries_in c t)) ≤ length deck
  held_short zero least last t s l = omega arith
  held_short (suc c) least last t s l =
      let r = s.each 0 (omega arith) in
      let more = held_short c (suc (row_of t).number) (end_of (row_of t)) (drop 8 t) (sound_rest (length deck) c least last t s) r.ends in
      omega (arith, more, r.begins, body_long deck (row_of t) r.ends, length-append (body_of deck (row_of t)) (bodies (entries_in c (drop 8 t))))

  module _ (s : Sound deck) where
    pub held_said : deck_of deck ≡ says (held_by deck)
    held_said = ap (λ (x : Said (List Row)). x >>= (λ (rows : List Row). says (map (entry_of deck) rows))) (said deck s)

    held_no_longer : behind (length (held_by deck)) + length (bodies (held_by deck)) ≤ length deck
    held_no_longer =
        let n = count_held (count_of deck) (entries_from deck) in
        let h = held_short (count_of deck) 0 (behind (count_of deck)) (entries_from deck) (measured deck s) s.head.whole in
        omega (arith, n, h)

    pub tidy_no_longer : length (deck_text (held_by deck)) ≤ length deck
    tidy_no_longer = omega (arith, length_text (held_by deck), held_no_longer)

    pub held_writable : Bytes deck → Writable (held_by deck)
    held_writable b =
        let n = count_held (count_of deck) (entries_from deck) in
        record {
          some = omega (arith, n, s.head.some);
          few = omega (arith, n, s.head.few);
          rising = held_rising (count_of deck) 0 (behind (count_of deck)) (entries_from deck) (measured deck s) (bytes_drop 1 deck b);
          short = omega (arith, held_no_longer, s.head.short);
        }

    -- a sound deck tidied: what is kept of it is held by the new deck, which is no longer
    pub tidied : Bytes deck → (f : Entry → Bool) → 1 ≤ length (kept f (held_by deck))
        → (deck_of (deck_text (kept f (held_by deck))) ≡ says (kept f (held_by deck))) × (length (deck_text (kept f (held_by deck))) ≤ length deck)
    tidied b f h = (text_back (kept f (held_by deck)) (kept_writable f (held_by deck) (held_writable b) h), le_trans (kept_no_longer f (held_by deck)) tidy_no_longer)

-- ---- a written deck is bytes

bytes_append : (s t : List ℕ) → Bytes s → Bytes t → Bytes (s ++ t)
bytes_append [] t p q = q
bytes_append (b ∷ s) t p q = (p.0, bytes_append s t p.1 q)

bytes_bodies : (es : List Entry) → Every BytesBody es → Bytes (bodies es)
bytes_bodies [] h = tt
bytes_bodies (e ∷ es) h = bytes_append e.body (bodies es) h.0 (bytes_bodies es h.1)

byte_flag : (b : Bool) → flag_of b < 256
byte_flag true = omega arith
byte_flag false = omega arith

bytes_rows : (from least : ℕ) (es : List Entry) (rest : List ℕ) → Rising least es → from + length (bodies es) ≤ deck_bytes → Bytes rest
    → Bytes (rows_text (rows_for from es) rest)
bytes_rows from least [] rest h l b = b
bytes_rows from least (e ∷ es) rest h l b =
    let k = length-append e.body (bodies es) in
    let n = h.1 in
    let more = bytes_rows (from + length e.body) (suc e.number) es rest h.2 (omega arith) b in
    (omega arith, (omega arith, (omega arith, (omega arith, (omega arith, (omega arith, (byte_flag e.live, (omega arith, more))))))))

pub bytes_text : (es : List Entry) → Writable es → Every BytesBody es → Bytes (deck_text es)
bytes_text es w h = (omega (arith, w.few), bytes_rows (behind (length es)) 0 es (bodies es) w.rising w.short (bytes_bodies es h))
