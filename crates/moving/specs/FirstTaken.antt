-- What it is to be the first statement that some seat may take, without a walk (document 02, 2026-07). Assumes nothing.
use Rattle.std.specs.Prelude.{ℕ, suc, ◌<◌, ◌≡◌, true, false, List, ◌∷◌, ◌++◌, length}
use Rattle.card.specs.Valid.{Every}
use Rattle.card.specs.Card.{Statement}
use Rattle.meaning.specs.Seats.{Seating, may_take}

-- some seat may take it; and none may
abbrev pub Takeable : Seating → Statement → Type 0
Takeable x s = (i : ℕ) × (i < length x.each) × (may_take s x i ≡ true)

abbrev pub Untaken : Seating → Statement → Type 0
Untaken x s = (i : ℕ) → i < length x.each → may_take s x i ≡ false

-- statement q of the list, from 1, is the first
pub record FirstTaken (l : List Statement) (x : Seating) (q : ℕ) : Type 0 where
  pub before : List Statement
  pub statement : Statement
  pub behind : List Statement
  pub parts : l ≡ before ++ statement ∷ behind
  pub place : q ≡ suc (length before)
  pub taken : Takeable x statement
  pub none_before : Every (Untaken x) before
