-- A card looked up in a box, and in a box with an expansion (document 02, 2026-02): its bytes, and where they stand. Assumes nothing.
use Rattle.std.specs.Prelude.{ℕ, Bool, ◌&&◌, List, [], ◌∷◌, eqb, take, drop}
use Rattle.card.specs.Limits.{expansion_from}
use Rattle.card.specs.Refusals.{no_live_card}
use Rattle.card.specs.Text.{when◌then◌else◌}
use Rattle.entry.specs.Said.{Said, says, refused, ◌>>=◌, ◌>>◌, saying, placed_from}
use Rattle.deck.specs.Contents.{Row, rows_in}
use Rattle.deck.specs.Deck.{Entry, live_of, deck_of}

-- the second, where the first is refused
abbrev pub or_else : {A : Type 0} → Said A → Said A → Said A
or_else (says a) y = says a
or_else (refused number place) y = y

-- ---- in what the decks hold

-- the live card of this number
abbrev pub live_in : ℕ → List Entry → Said (List ℕ)
live_in number [] = refused no_live_card 0
live_in number (e ∷ es) = when eqb e.number number && e.live then says e.body else live_in number es

abbrev pub find : List ℕ → ℕ → Said (List ℕ)
find deck number = do
  es ← deck_of deck
  live_in number es

-- the card as it stands in the expansion if it is live there, otherwise as it stands in the base if it is live there
abbrev pub find_with : (base expansion : List ℕ) (number : ℕ) → Said (List ℕ)
find_with base expansion number = do
  b ← deck_of base
  x ← placed_from expansion_from (deck_of expansion)
  or_else (live_in number x) (live_in number b)

-- ---- where the card stands: in which deck, its first byte there, and how many bytes

pub record Part : Type 0 where
  pub which : ℕ
  pub offset : ℕ
  pub size : ℕ

abbrev pub the_base : ℕ
the_base = 0

abbrev pub the_expansion : ℕ
the_expansion = 1

abbrev pub part_for : ℕ → Row → Part
part_for which r = record { which = which; offset = r.offset; size = r.size }

abbrev pub is_live : ℕ → Row → Bool
is_live number r = eqb r.number number && live_of r

abbrev pub live_row : ℕ → List Row → Said Row
live_row number [] = refused no_live_card 0
live_row number (r ∷ rs) = when is_live number r then says r else live_row number rs

abbrev pub located : List ℕ → ℕ → Said Part
located deck number = do
  rows ← rows_in deck
  saying (part_for the_base) (live_row number rows)

abbrev pub located_with : (base expansion : List ℕ) (number : ℕ) → Said Part
located_with base expansion number = do
  b ← rows_in base
  x ← placed_from expansion_from (rows_in expansion)
  or_else (saying (part_for the_expansion) (live_row number x)) (saying (part_for the_base) (live_row number b))

-- the bytes of a part
abbrev pub part_bytes : (base expansion : List ℕ) → Part → List ℕ
part_bytes base expansion p = take p.size (drop p.offset (when eqb p.which the_expansion then expansion else base))
