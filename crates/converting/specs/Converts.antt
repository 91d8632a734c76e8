-- What becomes of a deck's cards, and which card is named if one cannot be converted (document 02, 2026-11). Nothing here is computed. Assumes nothing.
use Rattle.std.specs.Prelude.{ℕ, ◌+◌, ◌≤◌, ◌<◌, ◌≡◌, true, false, List, [], ◌∷◌, ◌++◌, length}
use Rattle.card.specs.Limits.{card_bytes, deck_bytes}
use Rattle.card.specs.Card.{Card}
use Rattle.card.specs.Valid.{Every}
use Rattle.deck.specs.Contents.{count_of, behind}
use Rattle.deck.specs.Deck.{Entry, held_by}
use Rattle.deck.specs.Sound.{Sound}
use Rattle.reading.specs.Reading.{taken, refused as turned, read_under}
use Rattle.texts.specs.Writing.{write_of}
use Rattle.converting.specs.Converting.{old_rule, new_rule, with_body}

-- ---- one card

-- the bytes that it has in the new deck
pub data NewBody (e : Entry) : List ℕ → Type 0 where
  withdrawn : e.live ≡ false → NewBody e e.body
  unchanged : (c : Card) → e.live ≡ true → read_under new_rule e.body ≡ taken c → NewBody e e.body
  written : (c : Card) (r p : ℕ) → e.live ≡ true → read_under old_rule e.body ≡ taken c → read_under new_rule e.body ≡ turned r p
      → length (write_of c) ≤ card_bytes → NewBody e (write_of c)

-- or why there are none: live and refused under the old rule, or to be written and too long
pub data NoBody (e : Entry) : Type 0 where
  not_read : (r p : ℕ) → e.live ≡ true → read_under old_rule e.body ≡ turned r p → NoBody e
  long_form : (c : Card) (r p : ℕ) → e.live ≡ true → read_under old_rule e.body ≡ taken c → read_under new_rule e.body ≡ turned r p
      → card_bytes < length (write_of c) → NoBody e

-- ---- one behind the other, from `at` on

pub data Converts : (at : ℕ) → List Entry → List Entry → Type 0 where
  end : {at : ℕ} → Converts at [] []
  next : {at : ℕ} {e : Entry} {es new : List Entry} {body : List ℕ} → NewBody e body → at + length body ≤ deck_bytes → Converts (at + length body) es new
      → Converts at (e ∷ es) (with_body e body ∷ new)

-- the number of the first that cannot be converted
pub data Stops : (at : ℕ) → List Entry → (number : ℕ) → Type 0 where
  no_body : {at : ℕ} {e : Entry} {es : List Entry} → NoBody e → Stops at (e ∷ es) e.number
  past_end : {at : ℕ} {e : Entry} {es : List Entry} {body : List ℕ} → NewBody e body → deck_bytes < at + length body → Stops at (e ∷ es) e.number
  later : {at number : ℕ} {e : Entry} {es : List Entry} {body : List ℕ} → NewBody e body → at + length body ≤ deck_bytes → Stops (at + length body) es number
      → Stops at (e ∷ es) number

-- where an entry that has so many before it stands among the new ones, and with which bytes
pub record StandsIn (e : Entry) (before new : List Entry) : Type 0 where
  pub first : List Entry
  pub body : List ℕ
  pub rest : List Entry
  pub split : new ≡ first ++ (with_body e body ∷ rest)
  pub place : length first ≡ length before
  pub becomes : NewBody e body

-- ---- a deck

pub record Convertible (deck : List ℕ) : Type 0 where
  pub sound : Sound deck
  pub new : List Entry
  pub converts : Converts (behind (count_of deck)) (held_by deck) new

pub record StopsIn (deck : List ℕ) (number : ℕ) : Type 0 where
  pub sound : Sound deck
  pub stops : Stops (behind (count_of deck)) (held_by deck) number

-- every live card is taken under the new rule
abbrev pub NewLive : Entry → Type 0
NewLive e = e.live ≡ true → (c : Card) × (read_under new_rule e.body ≡ taken c)

abbrev pub AllNew : List Entry → Type 0
AllNew es = Every NewLive es

-- a live card is before and after the same one
abbrev pub SameCard : Entry → List ℕ → Type 0
SameCard e body = e.live ≡ true → (c : Card) × (read_under old_rule e.body ≡ taken c) × (read_under new_rule body ≡ taken c)
