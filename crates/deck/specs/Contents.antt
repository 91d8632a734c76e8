-- The contents of a deck as they stand in its bytes, and how they are judged without reading a card (document 02, 2026-02): field by field in
-- the order of the bytes, and the first wrong field decides. Assumes nothing.
use Rattle.std.specs.Prelude.{ℕ, zero, suc, ◌+◌, ◌*◌, ◌<◌, ◌≡◌, List, [], ◌∷◌, eqb, leb, length, drop, get_or}
use Rattle.card.specs.Limits.{deck_bytes, most_cards, count_bytes, entry_bytes, offset_at, size_at, flag_at, zero_byte_at}
use Rattle.card.specs.Refusals.{malformed_deck}
use Rattle.entry.specs.Said.{Said, says, ◌>>=◌, ◌>>◌, return, unless}

-- byte i of a text, 0 behind its end
abbrev pub byte : List ℕ → ℕ → ℕ
byte t i = get_or t i 0

-- a number of two bytes, low byte first; a byte has so many values
abbrev pub byte_values : ℕ
byte_values = 256

abbrev pub word : ℕ → ℕ → ℕ
word lo hi = lo + byte_values * hi

abbrev pub word_at : List ℕ → ℕ → ℕ
word_at t i = word (byte t i) (byte t (i + 1))

-- ---- what stands in the eight bytes of an entry

pub record Row : Type 0 where
  pub number : ℕ
  pub offset : ℕ
  pub size : ℕ
  pub flag : ℕ
  pub zero_byte : ℕ

abbrev pub row_of : List ℕ → Row
row_of t = record {
  number = word_at t 0;
  offset = word_at t offset_at;
  size = word_at t size_at;
  flag = byte t flag_at;
  zero_byte = byte t zero_byte_at;
}

-- where its body ends
abbrev pub end_of : Row → ℕ
end_of r = r.offset + r.size

-- so many entries, one behind the other
abbrev pub rows_of : ℕ → List ℕ → List Row
rows_of zero t = []
rows_of (suc c) t = row_of t ∷ rows_of c (drop entry_bytes t)

-- ---- a deck's count and contents

abbrev pub count_of : List ℕ → ℕ
count_of deck = byte deck 0

-- the bytes from the first entry on
abbrev pub entries_from : List ℕ → List ℕ
entries_from deck = drop count_bytes deck

abbrev pub contents_of : List ℕ → List Row
contents_of deck = rows_of (count_of deck) (entries_from deck)

-- the first byte behind the contents of c entries
abbrev pub behind : ℕ → ℕ
behind c = count_bytes + entry_bytes * c

-- ---- the fields of an entry in the order of their bytes, and the first byte of each where the entry starts at `at`

pub data Field : Type 0 where
  number_field : Field
  offset_field : Field
  size_field : Field
  flag_field : Field
  zero_field : Field

abbrev pub field_at : ℕ → Field → ℕ
field_at at number_field = at
field_at at offset_field = at + offset_at
field_at at size_field = at + size_at
field_at at flag_field = at + flag_at
field_at at zero_field = at + zero_byte_at

-- ---- judged

-- an entry that starts at `at`, in a deck of `long` bytes: its number is at least `least`, its body starts at `last` at the earliest
abbrev pub row_said : (long at least last : ℕ) → Row → Said (Unit {0})
row_said long at least last r = do
  unless (leb least r.number) malformed_deck (field_at at number_field)
  unless (leb last r.offset) malformed_deck (field_at at offset_field)
  unless (leb (end_of r) long) malformed_deck (field_at at size_field)
  unless (leb r.flag 1) malformed_deck (field_at at flag_field)
  unless (eqb r.zero_byte 0) malformed_deck (field_at at zero_field)

-- entries one behind the other: the numbers rise strictly, and no body starts before the last end
abbrev pub rows_said : (long at least last : ℕ) → List Row → Said (Unit {0})
rows_said long at least last [] = says tt
rows_said long at least last (r ∷ rs) = do
  row_said long at least last r
  rows_said long (at + entry_bytes) (suc r.number) (end_of r) rs

-- a deck too long, a wrong count, contents cut short
abbrev pub head_said : List ℕ → Said (Unit {0})
head_said deck = do
  unless (leb (length deck) deck_bytes) malformed_deck 0
  unless (leb 1 (count_of deck)) malformed_deck 0
  unless (leb (count_of deck) most_cards) malformed_deck 0
  unless (leb (behind (count_of deck)) (length deck)) malformed_deck 0

abbrev pub judged : List ℕ → Said (Unit {0})
judged deck = do
  head_said deck
  rows_said (length deck) count_bytes 0 (behind (count_of deck)) (contents_of deck)

-- the contents of a deck that is taken
abbrev pub rows_in : List ℕ → Said (List Row)
rows_in deck = do
  judged deck
  return (contents_of deck)

-- ---- what is read of a deck

-- as long, and with the same bytes up to the end of the contents; the bodies may differ
pub record SameContents (deck other : List ℕ) : Type 0 where
  pub long : length deck ≡ length other
  pub same : (i : ℕ) → i < behind (count_of deck) → byte deck i ≡ byte other i
