-- A word that is a beginning and a number ("Marks on a card"). Assumes nothing.
use Rattle.std.specs.Prelude.{ℕ, ◌≡◌, List, Option, Some, None, length}
use Rattle.marks_on_a_card.specs.Bytes.{after}
use Rattle.marks_on_a_card.specs.declared.Digits.{Digits}
use Rattle.marks_on_a_card.specs.Marks.{Mark, numbered}

-- the word w is the beginning t and a number: its length and the number
pub record NumberedBy (t w : List ℕ) (d : Digits) : Type 0 where
  pub long : d.count ≡ length w
  pub is_one : (f : ℕ → Mark) (other : Mark) → numbered f (after t w) other ≡ f d.value

-- it is, or it is not
abbrev pub Numbered : List ℕ → List ℕ → Option Digits → Type 0
Numbered t w (Some d) = NumberedBy t w d
Numbered t w None = (f : ℕ → Mark) (other : Mark) → numbered f (after t w) other ≡ other
