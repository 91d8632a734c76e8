-- What mending a deck has to say (document 02, 2026-09): the contents are gone through in order, an entry is kept or dropped by the first of four rules that it breaks, and
-- the entries kept make a deck without gaps beside a list with a line for each entry. Assumes nothing.
use Rattle.std.specs.Prelude.{ℕ, suc, ◌*◌, Bool, true, false, ◌&&◌, List, [], ◌∷◌, map, eqb, leb, length}
use Rattle.card.specs.Limits.{most_cards}
use Rattle.card.specs.Refusals.{malformed_deck}
use Rattle.card.specs.Text.{when◌then◌else◌}
use Rattle.entry.specs.Said.{Said, ◌>>=◌, ◌>>◌, return, unless}
use Rattle.entry.specs.Contract.{Two, two}
use Rattle.deck.specs.Contents.{Row, end_of, count_of, behind, contents_of, head_said}
use Rattle.deck.specs.Deck.{Entry, live_of, body_of, entry_of, deck_text}
use Rattle.reading.specs.Reading.{Outcome, taken, refused, read_of}
use Rattle.phrases.specs.Phrases.{◌▸◌, num}

-- ---- the rules

-- 1: the flag is 0 or 1, and the zero byte 0
abbrev pub flags_right : Row → Bool
flags_right r = leb r.flag 1 && eqb r.zero_byte 0

-- 2: its number is at least `least`, one more than that of the entry kept last
abbrev pub number_rises : (least : ℕ) → Row → Bool
number_rises least r = leb least r.number

-- 3: its range lies in the deck of `long` bytes, and starts at `last` at the earliest, behind the contents and the last body kept
abbrev pub range_lies : (long last : ℕ) → Row → Bool
range_lies long last r = leb last r.offset && leb (end_of r) long

-- 4: the reader takes its card; a withdrawn one is not asked for
abbrev pub is_taken : Outcome → Bool
is_taken (taken c) = true
is_taken (refused number place) = false

abbrev pub card_right : (deck : List ℕ) → Row → Bool
card_right deck r = when live_of r then is_taken (read_of (body_of deck r)) else true

-- ---- what becomes of an entry

pub data Fate : Type 0 where
  kept : Fate
  dropped : (rule : ℕ) → Fate

-- the first rule broken decides: those that the contents alone show, and what a fourth one says
abbrev pub by_contents : (long least last : ℕ) → Row → (by_card : Fate) → Fate
by_contents long least last r by_card =
    when flags_right r then when number_rises least r then when range_lies long last r then by_card else dropped 3 else dropped 2 else dropped 1

abbrev pub by_card : (deck : List ℕ) → Row → Fate
by_card deck r = when card_right deck r then kept else dropped 4

abbrev pub fate_of : (deck : List ℕ) (least last : ℕ) → Row → Fate
fate_of deck least last r = by_contents (length deck) least last r (by_card deck r)

-- as a number: 0 if it is kept, else the rule
abbrev pub rule_of : Fate → ℕ
rule_of kept = 0
rule_of (dropped rule) = rule

-- what is measured from behind an entry: one that is kept, its own number and end; one that is dropped, what was measured from before it
abbrev pub least_behind : Fate → Row → ℕ → ℕ
least_behind kept r least = suc r.number
least_behind (dropped rule) r least = least

abbrev pub last_behind : Fate → Row → ℕ → ℕ
last_behind kept r last = end_of r
last_behind (dropped rule) r last = last

-- one fate for each entry, in the order of the contents
abbrev pub fates_from : (deck : List ℕ) (least last : ℕ) → List Row → List Fate
fates_from deck least last [] = []
fates_from deck least last (r ∷ rs) =
    fate_of deck least last r
    ∷ fates_from deck (least_behind (fate_of deck least last r) r least) (last_behind (fate_of deck least last r) r last) rs

abbrev pub fates_in : List ℕ → List Fate
fates_in deck = fates_from deck 0 (behind (count_of deck)) (contents_of deck)

-- ---- the new deck and the list

-- the entries kept, in their order
abbrev pub kept_rows : List Fate → List Row → List Row
kept_rows [] rows = []
kept_rows (f ∷ fs) [] = []
kept_rows (kept ∷ fs) (r ∷ rs) = r ∷ kept_rows fs rs
kept_rows (dropped rule ∷ fs) (r ∷ rs) = kept_rows fs rs

abbrev pub kept_in : List ℕ → List Entry
kept_in deck = map (entry_of deck) (kept_rows (fates_in deck) (contents_of deck))

-- one line for each entry
abbrev pub line_text : Fate → List ℕ → List ℕ
line_text kept r = "kept\n" ▸ r
line_text (dropped rule) r = "dropped " ▸ num rule ("\n" ▸ r)

abbrev pub list_text : List Fate → List ℕ
list_text [] = []
list_text (f ∷ fs) = line_text f (list_text fs)

-- a room that every list fits into: each line has ten bytes at most
abbrev pub list_room : ℕ
list_room = 10 * most_cards

-- ---- all of it: 11 for a deck too long, a wrong count or contents cut short, then if nothing is kept, each at 0; else the new deck and the list

abbrev pub some_kept : List Entry → Said (Unit {0})
some_kept es = unless (leb 1 (length es)) malformed_deck 0

-- the new deck, and the list
abbrev pub mended : List ℕ → Two (List ℕ)
mended deck = two (deck_text (kept_in deck)) (list_text (fates_in deck))

unfoldable pub mend_said : List ℕ → Said (Two (List ℕ))
mend_said deck = do
  head_said deck
  some_kept (kept_in deck)
  return (mended deck)
