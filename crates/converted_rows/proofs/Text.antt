-- The new deck by the notes: its rows are those of the contents with other offsets and sizes, its bodies those that stay and the written forms. Assumes nothing.
use Prim.Native.Nat.{ℕ, zero, suc, ◌+◌, ◌≤◌}
use mathlib.Core.Path.{◌≡◌, refl, sym, ap, ◌∙◌}
use mathlib.Core.List.{List, [], ◌∷◌, ◌++◌, map}
use native.Mathlib.Omega.{arith}
use lib.Dec.{eqb}
use lib.ListN.{length, drop, length-append}
use Rattle.card.specs.Valid.{Every}
use Rattle.deck.specs.Contents.{Row, row_of, rows_of, count_of, entries_from, behind, end_of, contents_of}
use Rattle.deck.specs.Deck.{Entry, entry_of, flag_of, row_for, rows_for, bodies}
use Rattle.deck.specs.Sound.{Sound}
use Rattle.deck.proofs.Judged.{SoundRows, measured, sound_rest}
use Rattle.deck.proofs.Kept.{body_long}
use Rattle.converting.specs.Converts.{Converts, end, next}
use Rattle.converted_rows.specs.Noted.{size_by, row_sized, rows_noted, sizes_noted}
use Rattle.converted_rows.specs.Notes.{note_of, new_size, bodies_noted}
use Rattle.converted_rows.proofs.Notes.{body_noted_law, size_noted}

-- ---- rows of a sound deck

pub record RightRow (deck : List ℕ) (r : Row) : Type 0 where
  pub ends : end_of r ≤ length deck
  pub flag : r.flag ≤ 1
  pub zero_byte : r.zero_byte ≡ 0

module _ (deck : List ℕ) where
  rows_right : (c least last : ℕ) (t : List ℕ) → SoundRows (length deck) least last c t → Every (RightRow deck) (rows_of c t)
  rows_right zero least last t s = tt
  rows_right (suc c) least last t s =
      let q = s.each 0 (omega arith) in
      (record { ends = q.ends; flag = q.flag; zero_byte = q.zero_byte }, rows_right c (suc (row_of t).number) (end_of (row_of t)) (drop 8 t) (sound_rest (length deck) c least last t s))

  pub sound_right : Sound deck → Every (RightRow deck) (contents_of deck)
  sound_right s = rows_right (count_of deck) 0 (behind (count_of deck)) (entries_from deck) (measured deck s)

  -- ---- by the notes

  abbrev entries : List Row → List Entry
  entries rs = map (entry_of deck) rs

  flag_back : (f : ℕ) → f ≤ 1 → flag_of (eqb f 1) ≡ f
  flag_back zero h = refl
  flag_back (suc zero) h = refl
  flag_back (suc (suc f)) h = absurd (omega arith)

  pub size_of : (r : Row) → RightRow deck r → new_size (entry_of deck r) ≡ size_by (note_of (entry_of deck r)) r.size
  size_of r h = ap (size_by (note_of (entry_of deck r))) (body_long deck r h.ends)

  row_of_law : (at n : ℕ) (r : Row) → RightRow deck r → record { number = r.number; offset = at; size = n; flag = flag_of (eqb r.flag 1); zero_byte = 0 } ≡ row_sized at n r
  row_of_law at n r h = rw (flag_back r.flag h.flag, ← h.zero_byte) refl

  pub rows_noted_law : (rs : List Row) → Every (RightRow deck) rs → {at : ℕ} {new : List Entry} → Converts at (entries rs) new → rows_for at new ≡ rows_noted (map note_of (entries rs)) at rs
  rows_noted_law [] h end = refl
  rows_noted_law (r ∷ rs) h (next {at} {new = new} {body = body} b l more) =
      let e = entry_of deck r in
      let size : length body ≡ size_by (note_of e) r.size = sym (size_noted e b) ∙ size_of r h.0 in
      ap (λ (rest : List Row). row_for at (record { number = r.number; live = e.live; body = body }) ∷ rest) (rows_noted_law rs h.1 more)
      ∙ ap (λ (x : Row). x ∷ rows_noted (map note_of (entries rs)) (at + length body) rs) (row_of_law at (length body) r h.0)
      ∙ ap (λ (n : ℕ). row_sized at n r ∷ rows_noted (map note_of (entries rs)) (at + n) rs) size

  pub bodies_noted_law : (rs : List Row) → {at : ℕ} {new : List Entry} → Converts at (entries rs) new → bodies new ≡ bodies_noted deck (map note_of (entries rs)) rs
  bodies_noted_law [] end = refl
  bodies_noted_law (r ∷ rs) (next {at} {new = new} {body = body} b l more) =
      ap (λ (t : List ℕ). body ++ t) (bodies_noted_law rs more)
      ∙ ap (λ (t : List ℕ). t ++ bodies_noted deck (map note_of (entries rs)) rs) (body_noted_law (entry_of deck r) b)

  pub sizes_noted_law : (rs : List Row) → Every (RightRow deck) rs → {at : ℕ} {new : List Entry} → Converts at (entries rs) new → sizes_noted (map note_of (entries rs)) rs ≡ length (bodies new)
  sizes_noted_law [] h end = refl
  sizes_noted_law (r ∷ rs) h (next {at} {new = new} {body = body} b l more) =
      let e = entry_of deck r in
      omega (arith, sizes_noted_law rs h.1 more, size_noted e b, size_of r h.0, length-append body (bodies new))
