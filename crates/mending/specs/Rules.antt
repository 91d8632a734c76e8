-- The rules of mending, and what becomes of the entries by them (document 02, 2026-09). Nothing here is computed. Assumes nothing.
use Rattle.std.specs.Prelude.{ℕ, suc, ◌≤◌, ◌≡◌, List, [], ◌∷◌, ◌⊎◌, length}
use Rattle.card.specs.Card.{Card}
use Rattle.deck.specs.Contents.{Row, end_of}
use Rattle.deck.specs.Deck.{body_of}
use Rattle.reading.specs.Reading.{taken, read_of}
use Rattle.mending.specs.Mending.{Fate, kept, dropped}

-- 1 to 4: the number is at least `least`, one above the last number kept; the body starts at `last` at the earliest, behind the contents and the last body kept
abbrev pub FlagsRight : Row → Type 0
FlagsRight r = ((r.flag ≡ 0) ⊎ (r.flag ≡ 1)) × (r.zero_byte ≡ 0)

abbrev pub NumberRises : (least : ℕ) → Row → Type 0
NumberRises least r = least ≤ r.number

abbrev pub RangeLies : (deck : List ℕ) (last : ℕ) → Row → Type 0
RangeLies deck last r = (last ≤ r.offset) × (end_of r ≤ length deck)

abbrev pub CardRight : (deck : List ℕ) → Row → Type 0
CardRight deck r = r.flag ≡ 1 → (c : Card) × (read_of (body_of deck r) ≡ taken c)

module _ (deck : List ℕ) (least last : ℕ) (r : Row) where
  pub record Obeys : Type 0 where
    pub flags : FlagsRight r
    pub number : NumberRises least r
    pub range : RangeLies deck last r
    pub card : CardRight deck r

  -- the first rule that it breaks
  pub data Breaks : ℕ → Type 0 where
    one : (FlagsRight r → ⊥) → Breaks 1
    two : FlagsRight r → (NumberRises least r → ⊥) → Breaks 2
    three : FlagsRight r → NumberRises least r → (RangeLies deck last r → ⊥) → Breaks 3
    four : FlagsRight r → NumberRises least r → RangeLies deck last r → (CardRight deck r → ⊥) → Breaks 4

  abbrev pub Judged : Fate → Type 0
  Judged kept = Obeys
  Judged (dropped rule) = Breaks rule

-- one fate for each entry, each by the last number and the last end kept before it
abbrev pub ByRules : (deck : List ℕ) (least last : ℕ) → List Row → List Fate → Type 0
ByRules deck least last [] [] = Unit {0}
ByRules deck least last [] (f ∷ fs) = ⊥
ByRules deck least last (r ∷ rs) [] = ⊥
ByRules deck least last (r ∷ rs) (kept ∷ fs) = Obeys deck least last r × ByRules deck (suc r.number) (end_of r) rs fs
ByRules deck least last (r ∷ rs) (dropped rule ∷ fs) = Breaks deck least last r rule × ByRules deck least last rs fs
