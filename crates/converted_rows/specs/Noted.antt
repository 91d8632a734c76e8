-- The new contents by a note for each entry: 0 if its body stays, else one more than the length of its written form. Assumes nothing.
use Rattle.std.specs.Prelude.{ℕ, zero, suc, ◌+◌, ◌≤◌, ◌≡◌, List, [], ◌∷◌, length}
use Rattle.card.specs.Limits.{deck_bytes}
use Rattle.deck.specs.Contents.{Row, count_of, contents_of}
use Rattle.deck.specs.Sound.{Head}

-- how long a body is that had so many bytes
abbrev pub size_by : (note size : ℕ) → ℕ
size_by zero size = size
size_by (suc long) size = long

abbrev pub row_sized : (offset size : ℕ) → Row → Row
row_sized offset size r = record { number = r.number; offset = offset; size = size; flag = r.flag; zero_byte = r.zero_byte }

-- each body starts where the one before ends
abbrev pub rows_noted : (notes : List ℕ) (at : ℕ) → List Row → List Row
rows_noted [] at rs = []
rows_noted (k ∷ ks) at [] = []
rows_noted (k ∷ ks) at (r ∷ rs) = row_sized at (size_by k r.size) r ∷ rows_noted ks (at + size_by k r.size) rs

abbrev pub sizes_noted : (notes : List ℕ) → List Row → ℕ
sizes_noted [] rs = 0
sizes_noted (k ∷ ks) [] = 0
sizes_noted (k ∷ ks) (r ∷ rs) = size_by k r.size + sizes_noted ks rs

-- a note for each entry
pub record Each (deck notes : List ℕ) : Type 0 where
  pub head : Head deck
  pub long : length notes ≡ count_of deck

-- bodies that start at `first` end in a deck that is not too long
abbrev pub SizesFit : (deck notes : List ℕ) (first : ℕ) → Type 0
SizesFit deck notes first = first + sizes_noted notes (contents_of deck) ≤ deck_bytes
