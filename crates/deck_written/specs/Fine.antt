-- When contents and bodies are a deck to be written, in no order of judging; why and where they are refused otherwise; and which contents differ
-- in offsets only (document 02, 2026-02). Nothing here is computed but the sum of the lengths. Assumes nothing.
use Rattle.std.specs.Prelude.{ℕ, zero, suc, ◌+◌, ◌*◌, ◌<◌, ◌≤◌, ◌≡◌, ◌⊎◌, List, length}
use Rattle.card.specs.Limits.{deck_bytes, most_cards, entry_bytes, count_bytes, offset_at}
use Rattle.deck.specs.Contents.{byte, end_of, count_of, behind, Field, field_at, number_field, offset_field, size_field, flag_field, zero_field}
use Rattle.deck.specs.Sound.{row_at, entry_at}
use Rattle.deck_written.specs.WriteDeckSaid.{lines, sizes}

-- so many entries, 1 to 64, and nothing besides
pub record Count (contents : List ℕ) (c : ℕ) : Type 0 where
  pub long : length contents ≡ entry_bytes * c
  pub some : 1 ≤ c
  pub few : c ≤ most_cards

-- ---- fields

-- the first number needs to be above none
abbrev pub RisesIn : List ℕ → ℕ → Type 0
RisesIn contents zero = Unit {0}
RisesIn contents (suc i) = (row_at contents i).number < (row_at contents (suc i)).number

-- a field of entry i is right: any offset is, and the lengths are judged together behind all fields
abbrev pub RightIn : List ℕ → ℕ → Field → Type 0
RightIn contents i number_field = RisesIn contents i
RightIn contents i offset_field = Unit {0}
RightIn contents i size_field = Unit {0}
RightIn contents i flag_field = ((row_at contents i).flag ≡ 0) ⊎ ((row_at contents i).flag ≡ 1)
RightIn contents i zero_field = (row_at contents i).zero_byte ≡ 0

-- the first byte of a field of entry i
abbrev pub place_in : ℕ → Field → ℕ
place_in i f = field_at (entry_bytes * i) f

abbrev pub AllRight : List ℕ → ℕ → Type 0
AllRight contents c = (i : ℕ) → i < c → (f : Field) → RightIn contents i f

-- it is wrong, and every field that stands before it is right
pub record FirstWrongIn (contents : List ℕ) (c i : ℕ) (f : Field) : Type 0 where
  pub inside : i < c
  pub wrong : RightIn contents i f → ⊥
  pub before : (j : ℕ) (g : Field) → place_in j g < place_in i f → RightIn contents j g

-- ---- all of it

-- the bodies are as long as the lengths say together, and a deck has place for them
pub record Fitting (contents bodies : List ℕ) : Type 0 where
  pub whole : sizes (lines contents) ≡ length bodies
  pub short : count_bytes + length contents + length bodies ≤ deck_bytes

pub record Fine (contents bodies : List ℕ) : Type 0 where
  pub count : ℕ
  pub counted : Count contents count
  pub fields : AllRight contents count
  pub fitting : Fitting contents bodies

-- where they are refused: the count first, then the fields, then bodies or total
pub data RefusedAt (contents bodies : List ℕ) : ℕ → Type 0 where
  wrong_count : ((c : ℕ) → Count contents c → ⊥) → RefusedAt contents bodies (length contents)
  wrong_field : (c i : ℕ) (f : Field) → Count contents c → FirstWrongIn contents c i f → RefusedAt contents bodies (place_in i f)
  not_fitting : (c : ℕ) → Count contents c → AllRight contents c → (Fitting contents bodies → ⊥) → RefusedAt contents bodies (length contents)

-- ---- offsets

-- contents that differ in their offsets only, the two bytes from `offset_at` on of each entry
pub record SameButOffsets (a b : List ℕ) : Type 0 where
  pub long : length a ≡ length b
  pub bytes : (i k : ℕ) → k < entry_bytes → (k ≡ offset_at → ⊥) → (k ≡ offset_at + 1 → ⊥) → byte a (entry_bytes * i + k) ≡ byte b (entry_bytes * i + k)

-- a deck without gaps: the first body stands behind the contents, each other one behind the body before it, and the last ends the deck
pub record NoGaps (deck : List ℕ) : Type 0 where
  pub first : (entry_at deck 0).offset ≡ behind (count_of deck)
  pub next : (i : ℕ) → suc i < count_of deck → (entry_at deck (suc i)).offset ≡ end_of (entry_at deck i)
  pub last : (i : ℕ) → suc i ≡ count_of deck → end_of (entry_at deck i) ≡ length deck
