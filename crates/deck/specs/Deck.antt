-- A deck as a list of entries: taken out of its bytes, and written without gaps (document 02, 2026-02). Assumes nothing.
use Rattle.std.specs.Prelude.{ℕ, suc, ◌+◌, ◌/◌, ◌%◌, ◌<◌, ◌≤◌, Bool, true, false, List, [], ◌∷◌, ◌++◌, map, eqb, length, take, drop}
use Rattle.card.specs.Limits.{deck_bytes, most_cards, word_numbers}
use Rattle.card.specs.Text.{when◌then◌else◌}
use Rattle.card.specs.Valid.{Every}
use Rattle.entry.specs.Said.{Said, ◌>>=◌, ◌>>◌, return}
use Rattle.deck.specs.Contents.{byte_values, Row, behind, contents_of, rows_in}

-- a card of the box: live, or withdrawn
pub record Entry : Type 0 where
  pub number : ℕ
  pub live : Bool
  pub body : List ℕ

-- ---- taken out of the bytes

abbrev pub live_of : Row → Bool
live_of r = eqb r.flag 1

abbrev pub body_of : List ℕ → Row → List ℕ
body_of deck r = take r.size (drop r.offset deck)

abbrev pub entry_of : List ℕ → Row → Entry
entry_of deck r = record { number = r.number; live = live_of r; body = body_of deck r }

-- what a deck holds, where it is taken
abbrev pub held_by : List ℕ → List Entry
held_by deck = map (entry_of deck) (contents_of deck)

-- the deck, or 11 at the first wrong field
abbrev pub deck_of : List ℕ → Said (List Entry)
deck_of deck = do
  rows ← rows_in deck
  return (map (entry_of deck) rows)

-- ---- written without gaps

-- the bytes of a number of two bytes
abbrev pub low : ℕ → ℕ
low n = n % byte_values

abbrev pub high : ℕ → ℕ
high n = n / byte_values

abbrev pub flag_of : Bool → ℕ
flag_of true = 1
flag_of false = 0

-- an entry whose body starts at `at`
abbrev pub row_for : ℕ → Entry → Row
row_for at e = record { number = e.number; offset = at; size = length e.body; flag = flag_of e.live; zero_byte = 0 }

-- each body starts where the one before ends
abbrev pub rows_for : ℕ → List Entry → List Row
rows_for at [] = []
rows_for at (e ∷ es) = row_for at e ∷ rows_for (at + length e.body) es

-- the eight bytes of an entry, before what follows
abbrev pub row_text : Row → List ℕ → List ℕ
row_text r rest =
    low r.number ∷ high r.number ∷ low r.offset ∷ high r.offset ∷ low r.size ∷ high r.size ∷ r.flag ∷ r.zero_byte ∷ rest

abbrev pub rows_text : List Row → List ℕ → List ℕ
rows_text [] rest = rest
rows_text (r ∷ rs) rest = row_text r (rows_text rs rest)

abbrev pub bodies : List Entry → List ℕ
bodies [] = []
bodies (e ∷ es) = e.body ++ bodies es

abbrev pub deck_text : List Entry → List ℕ
deck_text es = length es ∷ rows_text (rows_for (behind (length es)) es) (bodies es)

-- ---- what can be written

-- numbers rise strictly, from `least` on, and have two bytes
abbrev pub Rising : ℕ → List Entry → Type 0
Rising least [] = Unit {0}
Rising least (e ∷ es) = (least ≤ e.number) × (e.number < word_numbers) × Rising (suc e.number) es

pub record Writable (es : List Entry) : Type 0 where
  pub some : 1 ≤ length es
  pub few : length es ≤ most_cards
  pub rising : Rising 0 es
  pub short : behind (length es) + length (bodies es) ≤ deck_bytes

-- bodies of bytes
abbrev pub IsByte : ℕ → Type 0
IsByte b = b < byte_values

abbrev pub Bytes : List ℕ → Type 0
Bytes t = Every IsByte t

abbrev pub BytesBody : Entry → Type 0
BytesBody e = Bytes e.body

-- the entries that are kept, in their order
abbrev pub kept : (Entry → Bool) → List Entry → List Entry
kept f [] = []
kept f (e ∷ es) = when f e then e ∷ kept f es else kept f es
