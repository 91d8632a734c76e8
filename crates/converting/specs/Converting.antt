-- What converting a deck has to say (document 02, 2026-11): each live card is read under the old rule, and one that has a decimal weight is written anew; the cards make a
-- deck without gaps. Assumes nothing.
use Rattle.std.specs.Prelude.{ℕ, ◌+◌, Bool, true, false, List, [], ◌∷◌, leb, length}
use Rattle.card.specs.Limits.{card_bytes, deck_bytes}
use Rattle.card.specs.Refusals.{not_converted}
use Rattle.card.specs.Card.{Card}
use Rattle.card.specs.Weight.{Rule, card_rule}
use Rattle.entry.specs.Said.{Said, says, refused, ◌>>=◌, ◌>>◌, return, unless}
use Rattle.deck.specs.Contents.{behind}
use Rattle.deck.specs.Deck.{Entry, deck_of, deck_text}
use Rattle.reading.specs.Reading.{Outcome, taken, refused as turned, read_under}
use Rattle.texts.specs.Writing.{write_of}

-- the rule by which boxes in the field were filled, and the one that takes no decimal as a weight
abbrev pub old_rule : Rule
old_rule = true

abbrev pub new_rule : Rule
new_rule = card_rule

-- ---- the bytes of a card in the new deck

-- its written form, if that is no longer than a card may be
abbrev pub written_said : (number : ℕ) → Card → Said (List ℕ)
written_said number c = do
  unless (leb (length (write_of c)) card_bytes) not_converted number
  return (write_of c)

-- by what the old rule and the new rule say of it
abbrev pub body_by : (live : Bool) (number : ℕ) (card : List ℕ) (old new : Outcome) → Said (List ℕ)
body_by false number card old new = says card  -- withdrawn: unread
body_by true number card (turned r p) new = refused not_converted number
body_by true number card (taken c) (taken d) = says card  -- no decimal: unchanged
body_by true number card (taken c) (turned r p) = written_said number c

abbrev pub body_said : Entry → Said (List ℕ)
body_said e = body_by e.live e.number e.body (read_under old_rule e.body) (read_under new_rule e.body)

-- ---- the new deck

-- number and flag stay
abbrev pub with_body : Entry → List ℕ → Entry
with_body e body = record { number = e.number; live = e.live; body = body }

-- none may end past what a deck has
abbrev pub ends_within : (at number : ℕ) → List ℕ → Said (Unit {0})
ends_within at number body = unless (leb (at + length body) deck_bytes) not_converted number

-- one behind the other from `at` on
abbrev pub entries_said : (at : ℕ) → List Entry → Said (List Entry)
entries_said at [] = says []
entries_said at (e ∷ es) = do
  body ← body_said e
  ends_within at e.number body
  rest ← entries_said (at + length body) es
  return (with_body e body ∷ rest)

-- 11 as a deck is judged, then 18 at the number of the first card that cannot be converted; else the new deck
unfoldable pub convert_said : List ℕ → Said (List ℕ)
convert_said deck = do
  es ← deck_of deck
  new ← entries_said (behind (length es)) es
  return (deck_text new)
