-- What writing a deck has to say of contents and bodies (document 02, 2026-02): 11 for a wrong count, then for the first wrong field, then for
-- bodies or a total that do not fit; else the deck without gaps. No offset is read, and no card. Assumes nothing.
use Rattle.std.specs.Prelude.{ℕ, suc, ◌+◌, ◌/◌, ◌%◌, List, [], ◌∷◌, eqb, leb, length, take, drop}
use Rattle.card.specs.Limits.{deck_bytes, most_cards, entry_bytes}
use Rattle.card.specs.Refusals.{malformed_deck}
use Rattle.entry.specs.Said.{Said, says, ◌>>=◌, ◌>>◌, return, unless}
use Rattle.deck.specs.Contents.{Row, rows_of, behind, field_at, number_field, flag_field, zero_field}
use Rattle.deck.specs.Deck.{Entry, live_of, deck_text}

-- the contents are entries without a count byte before them
abbrev pub count_in : List ℕ → ℕ
count_in contents = length contents / entry_bytes

abbrev pub lines : List ℕ → List Row
lines contents = rows_of (count_in contents) contents

-- ---- the count: 1 to 64 entries, and no bytes besides

abbrev pub count_said : List ℕ → Said (Unit {0})
count_said contents = do
  unless (eqb (length contents % entry_bytes) 0) malformed_deck (length contents)
  unless (leb 1 (count_in contents)) malformed_deck (length contents)
  unless (leb (count_in contents) most_cards) malformed_deck (length contents)

-- ---- the fields, in the order of the bytes

-- of an entry that starts at `at`: its number is at least `least`
abbrev pub line_said : (at least : ℕ) → Row → Said (Unit {0})
line_said at least r = do
  unless (leb least r.number) malformed_deck (field_at at number_field)
  unless (leb r.flag 1) malformed_deck (field_at at flag_field)
  unless (eqb r.zero_byte 0) malformed_deck (field_at at zero_field)

-- the numbers rise strictly
abbrev pub lines_said : (at least : ℕ) → List Row → Said (Unit {0})
lines_said at least [] = says tt
lines_said at least (r ∷ rs) = do
  line_said at least r
  lines_said (at + entry_bytes) (suc r.number) rs

-- ---- the bodies: as long as the lengths say together, in a deck that is not too long

abbrev pub sizes : List Row → ℕ
sizes [] = 0
sizes (r ∷ rs) = r.size + sizes rs

abbrev pub bodies_said : (contents bodies : List ℕ) → Said (Unit {0})
bodies_said contents bodies = do
  unless (eqb (sizes (lines contents)) (length bodies)) malformed_deck (length contents)
  unless (leb (behind (count_in contents) + length bodies) deck_bytes) malformed_deck (length contents)

-- ---- the deck

-- each entry with its part of the joined bodies
abbrev pub entries_with : List Row → List ℕ → List Entry
entries_with [] bodies = []
entries_with (r ∷ rs) bodies = record { number = r.number; live = live_of r; body = take r.size bodies } ∷ entries_with rs (drop r.size bodies)

-- the entries that contents and bodies say
abbrev pub entries_said : (contents bodies : List ℕ) → List Entry
entries_said contents bodies = entries_with (lines contents) bodies

unfoldable pub write_deck_said : (contents bodies : List ℕ) → Said (List ℕ)
write_deck_said contents bodies = do
  count_said contents
  lines_said 0 0 (lines contents)
  bodies_said contents bodies
  return (deck_text (entries_said contents bodies))

-- ---- the contents that the deck has: those that were handed in, each offset where the body before ends

abbrev pub line_for : ℕ → Row → Row
line_for at r = record { number = r.number; offset = at; size = r.size; flag = r.flag; zero_byte = r.zero_byte }

abbrev pub lines_for : ℕ → List Row → List Row
lines_for at [] = []
lines_for at (r ∷ rs) = line_for at r ∷ lines_for (at + r.size) rs
