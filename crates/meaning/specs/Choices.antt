-- What can happen at a state of any kind, be it a seating or a vector of counts: the statements that can be taken there; where there is none,
-- one step that changes nothing (document 02, 2026-03). So something always can. Assumes nothing.
use Rattle.std.specs.Prelude.{ℕ, suc, List, [], ◌∷◌, ◌++◌, map}
use Rattle.card.specs.Limits.{unit}
use Rattle.meaning.specs.Sums.{flat}
use Rattle.meaning.specs.Steps.{Step, Turn}

-- a statement that can be taken: its place, from 1, and the turns by which it can be
pub record Choice (S : Type 0) : Type 0 where
  pub place : ℕ
  pub turns : List (Turn S)

-- a statement without turns is no choice
abbrev pub choice : {S : Type 0} → ℕ → List (Turn S) → List (Choice S)
choice q [] = []
choice q (t ∷ l) = record { place = q; turns = t ∷ l } ∷ []

-- the choices among statements from place q on, each with its turns
unfoldable pub choices_of : {A S : Type 0} → (A → List (Turn S)) → ℕ → List A → List (Choice S)
choices_of turns q [] = []
choices_of turns q (a ∷ l) = choice q (turns a) ++ choices_of turns (suc q) l

-- ---- a stuck state

-- its step changes nothing and weighs the unit
abbrev pub stay : {S : Type 0} → S → Turn S
stay x = record { units = unit; next = x } ∷ []

-- and is its only choice, at place 0
abbrev pub stuck_choices : {S : Type 0} → S → List (Choice S)
stuck_choices x = record { place = 0; turns = stay x ∷ [] } ∷ []

abbrev pub or_stay : {S : Type 0} → S → List (Choice S) → List (Choice S)
or_stay x [] = stuck_choices x
or_stay x (c ∷ l) = c ∷ l

-- ---- any state

-- all that can happen at x, where the statements have these turns
abbrev pub choices_at : {A S : Type 0} → (A → List (Turn S)) → List A → S → List (Choice S)
choices_at turns l x = or_stay x (choices_of turns 1 l)

-- the turns of all choices, and all their steps
abbrev pub turns_in : {S : Type 0} → List (Choice S) → List (Turn S)
turns_in {S} l = flat (map (λ (c : Choice S). c.turns) l)

abbrev pub steps_in : {S : Type 0} → List (Choice S) → List (Step S)
steps_in l = flat (turns_in l)
