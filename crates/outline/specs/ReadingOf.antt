-- What the reader hands back for every outcome: the card that was taken, as a struct, or its head beside lent arrays, or why it is refused;
-- the arrays are zeros then. Assumes nothing.
use Rattle.std.specs.Prelude.{ℕ, ◌≡◌, List, Result, Ok}
use Rattle.card.specs.Card.{Card}
use Rattle.card.specs.Weight.{Rule, card_rule}
use Rattle.card.specs.Valid.{ValidCard}
use Rattle.card.specs.Laid.{laid}
use Rattle.reading.specs.Reading.{Outcome, taken, refused, read_under, read_of}
use Rattle.card.specs.Lent.{Lent, head_of, lent_of, none_lent}
use Rattle.card.specs.Verdict.{Refused}
use Rattle.card.specs.declared.Card.{Card as CardLaid}
use Rattle.card.specs.declared.Head.{Head}
use Rattle.card.specs.declared.Refusal.{Refusal}

abbrev pub Reading : Type 0
Reading = Result CardLaid Refusal

abbrev pub Outline : Type 0
Outline = Result Head Refusal

abbrev pub reading_of : Outcome → Reading
reading_of (taken c) = Ok (laid c)
reading_of (refused r p) = Refused r p

-- the contract: one equation, and what is taken is valid
pub record Reads (bytes : List ℕ) (r : Reading) : Type 0 where
  pub reading : r ≡ reading_of (read_of bytes)
  pub valid : (c : Card) → read_of bytes ≡ taken c → ValidCard c

-- ---- the same in lent arrays

abbrev pub outline_of : Outcome → Outline
outline_of (taken c) = Ok (head_of c)
outline_of (refused r p) = Refused r p

abbrev pub memory_of : Outcome → Lent
memory_of (taken c) = lent_of c
memory_of (refused r p) = none_lent

-- under a rule of a weight
pub record ReadsUnder (decimals : Rule) (bytes : List ℕ) (r : Outline) (x : Lent) : Type 0 where
  pub outline : r ≡ outline_of (read_under decimals bytes)
  pub memory : x ≡ memory_of (read_under decimals bytes)
  pub valid : (c : Card) → read_under decimals bytes ≡ taken c → ValidCard c

abbrev pub ReadsInto : List ℕ → Outline → Lent → Type 0
ReadsInto bytes r x = ReadsUnder card_rule bytes r x
