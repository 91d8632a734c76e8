-- What a deck is, in no order of judging: its count, its contents inside it, each entry and each two entries as they ought to be; and which
-- field of a deck is the first wrong one (document 02, 2026-02). Nothing here is computed. Assumes nothing.
use Rattle.std.specs.Prelude.{ℕ, zero, suc, ◌+◌, ◌*◌, ◌<◌, ◌≤◌, ◌≡◌, ◌⊎◌, List, length, drop}
use Rattle.card.specs.Limits.{deck_bytes, most_cards, count_bytes, entry_bytes}
use Rattle.deck.specs.Contents.{Row, row_of, end_of, count_of, entries_from, behind, Field, field_at, number_field, offset_field, size_field, flag_field, zero_field}

-- entry i of entries that stand one behind the other
abbrev pub row_at : List ℕ → ℕ → Row
row_at t zero = row_of t
row_at t (suc i) = row_at (drop entry_bytes t) i

-- entry i of a deck
abbrev pub entry_at : List ℕ → ℕ → Row
entry_at deck i = row_at (entries_from deck) i

-- ---- sound

-- an entry by itself: its body lies behind the contents and inside the deck
pub record Right (deck : List ℕ) (r : Row) : Type 0 where
  pub begins : behind (count_of deck) ≤ r.offset
  pub ends : end_of r ≤ length deck
  pub flag : (r.flag ≡ 0) ⊎ (r.flag ≡ 1)
  pub zero_byte : r.zero_byte ≡ 0

-- one entry before another
pub record Before (r s : Row) : Type 0 where
  pub rises : r.number < s.number
  pub apart : end_of r ≤ s.offset

-- not too long, 1 to 64 cards, the contents inside
pub record Head (deck : List ℕ) : Type 0 where
  pub short : length deck ≤ deck_bytes
  pub some : 1 ≤ count_of deck
  pub few : count_of deck ≤ most_cards
  pub whole : behind (count_of deck) ≤ length deck

pub record Sound (deck : List ℕ) : Type 0 where
  pub head : Head deck
  pub each : (i : ℕ) → i < count_of deck → Right deck (entry_at deck i)
  pub order : (i j : ℕ) → i < j → j < count_of deck → Before (entry_at deck i) (entry_at deck j)

-- ---- the first wrong field

-- the last end before entry i: the contents' end, or the end of the body before it
abbrev pub last_end : List ℕ → ℕ → ℕ
last_end deck zero = behind (count_of deck)
last_end deck (suc i) = end_of (entry_at deck i)

-- the first number needs to be above none
abbrev pub Rises : List ℕ → ℕ → Type 0
Rises deck zero = Unit {0}
Rises deck (suc i) = (entry_at deck i).number < (entry_at deck (suc i)).number

-- a field of entry i is right
abbrev pub RightField : List ℕ → ℕ → Field → Type 0
RightField deck i number_field = Rises deck i
RightField deck i offset_field = last_end deck i ≤ (entry_at deck i).offset
RightField deck i size_field = end_of (entry_at deck i) ≤ length deck
RightField deck i flag_field = ((entry_at deck i).flag ≡ 0) ⊎ ((entry_at deck i).flag ≡ 1)
RightField deck i zero_field = (entry_at deck i).zero_byte ≡ 0

-- the first byte of a field of entry i
abbrev pub field_place : ℕ → Field → ℕ
field_place i f = field_at (count_bytes + entry_bytes * i) f

-- it is wrong, and every field that stands before it is right
pub record FirstWrong (deck : List ℕ) (i : ℕ) (f : Field) : Type 0 where
  pub inside : i < count_of deck
  pub wrong : RightField deck i f → ⊥
  pub before : (j : ℕ) (g : Field) → field_place j g < field_place i f → RightField deck j g

-- where a deck is malformed: at the first byte of its first wrong field, or at 0
pub data MalformedAt (deck : List ℕ) : ℕ → Type 0 where
  in_head : (Head deck → ⊥) → MalformedAt deck 0
  in_field : (i : ℕ) (f : Field) → Head deck → FirstWrong deck i f → MalformedAt deck (field_place i f)
