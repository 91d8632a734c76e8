-- The note of a card, by what both rules say of it, and what the notes say of the new deck: where its bodies end, and their bytes. Assumes nothing.
use Rattle.std.specs.Prelude.{ℕ, zero, suc, ◌+◌, Bool, true, false, List, [], ◌∷◌, ◌++◌, leb, length, map}
use Rattle.card.specs.Refusals.{not_converted}
use Rattle.card.specs.Limits.{card_bytes, deck_bytes}
use Rattle.card.specs.Text.{when◌then◌else◌}
use Rattle.entry.specs.Said.{Said, says, ◌>>◌, unless}
use Rattle.deck.specs.Contents.{Row}
use Rattle.deck.specs.Deck.{Entry, body_of}
use Rattle.reading.specs.Reading.{Outcome, taken, refused as turned, read_under}
use Rattle.texts.specs.Writing.{write_of}
use Rattle.converting.specs.Converting.{old_rule, new_rule}
use Rattle.converted_rows.specs.declared.Note.{Note}
use Rattle.converted_rows.specs.declared.Note.TheVariants.{Stays, Written, NotConverted}
use Rattle.converted_rows.specs.Noted.{size_by}

-- of a card that cannot be converted: as if its body were longer by one byte than any deck
abbrev pub no_note : ℕ
no_note = suc (suc deck_bytes)

-- the number that a note of the code stands for, and those of several
abbrev pub number_of : Note → ℕ
number_of Stays = 0
number_of (Written long) = suc long
number_of NotConverted = no_note

abbrev pub numbers_of : List Note → List ℕ
numbers_of notes = map number_of notes

abbrev pub note_by : (live : Bool) (old new : Outcome) → ℕ
note_by false old new = 0
note_by true (turned r p) new = no_note
note_by true (taken c) (taken d) = 0
note_by true (taken c) (turned r p) = when leb (length (write_of c)) card_bytes then suc (length (write_of c)) else no_note

abbrev pub note_of : Entry → ℕ
note_of e = note_by e.live (read_under old_rule e.body) (read_under new_rule e.body)

-- where the last body ends, the first at `at`; or the card that is named
abbrev pub new_size : Entry → ℕ
new_size e = size_by (note_of e) (length e.body)

abbrev pub end_said : (at : ℕ) → List Entry → Said ℕ
end_said at [] = says at
end_said at (e ∷ es) = do
  unless (leb (at + new_size e) deck_bytes) not_converted e.number
  end_said (at + new_size e) es

-- the written form of a card that is taken
abbrev pub written_of : Outcome → List ℕ
written_of (taken c) = write_of c
written_of (turned r p) = []

-- the bytes of a card by its note, and those of all
abbrev pub body_noted : (note : ℕ) → List ℕ → List ℕ
body_noted zero card = card
body_noted (suc long) card = written_of (read_under old_rule card)

abbrev pub bodies_noted : (deck notes : List ℕ) → List Row → List ℕ
bodies_noted deck [] rs = []
bodies_noted deck (k ∷ ks) [] = []
bodies_noted deck (k ∷ ks) (r ∷ rs) = body_noted k (body_of deck r) ++ bodies_noted deck ks rs
