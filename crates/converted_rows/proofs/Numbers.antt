-- The numbers that the notes of the code stand for, entry by entry. Assumes nothing.
use Prim.Native.Nat.{ℕ, ◌≤◌, ◌<◌}
use mathlib.Core.Path.{◌≡◌, sym, ap, ◌∙◌}
use mathlib.Core.List.{List}
use native.Mathlib.Omega.{arith}
use lib.ListN.{length, take, set, get_or, length-map}
use Rattle.std.proofs.lemmas.List.{get_or-map, map-set, take-map}
use Rattle.converted_rows.specs.declared.Note.{Note}
use Rattle.converted_rows.specs.declared.Note.TheVariants.{Stays}
use Rattle.converted_rows.specs.Noted.{size_by}
use Rattle.converted_rows.specs.Notes.{number_of, numbers_of}

pub same_long : (notes : List Note) → length (numbers_of notes) ≡ length notes
same_long notes = length-map notes number_of

module _ (notes : List Note) {i : ℕ} where
  pub within : i < length notes → i < length (numbers_of notes)
  within l = omega (arith, same_long notes)

  pub past : length notes ≤ i → length (numbers_of notes) ≤ i
  past l = omega (arith, same_long notes)

  pub number_here : i < length notes → get_or (numbers_of notes) i 0 ≡ number_of (get_or notes i Stays)
  number_here l = get_or-map number_of notes i Stays 0 l

  -- what holds by the note holds by its number
  pub size_here : i < length notes → {size : ℕ} (long : ℕ) → size ≡ size_by (number_of (get_or notes i Stays)) long → size ≡ size_by (get_or (numbers_of notes) i 0) long
  size_here l long e = e ∙ ap (λ (k : ℕ). size_by k long) (sym (number_here l))

pub stored : (notes : List Note) (i : ℕ) (note : Note) → numbers_of (set notes i note) ≡ set (numbers_of notes) i (number_of note)
stored notes i note = map-set number_of notes i note

pub first_of : (c : ℕ) (notes : List Note) → take c (numbers_of notes) ≡ numbers_of (take c notes)
first_of c notes = take-map number_of c notes
