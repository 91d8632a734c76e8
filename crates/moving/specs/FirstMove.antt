-- Who may move (document 02, 2026-07): of the statements that some seat may take, the one that stands first on the card, by seats; and the same
-- by counts, as a program finds it. Assumes nothing.
use Rattle.std.specs.Prelude.{ℕ, suc, List, [], ◌∷◌, ltb}
use Rattle.std.proofs.Math.Option.{Option, none, some}
use Rattle.card.specs.Text.{when◌then◌else◌}
use Rattle.card.specs.Card.{Statement, Card}
use Rattle.meaning.specs.Position.{Position}
use Rattle.meaning.specs.Choices.{Choice, choices_of}
use Rattle.meaning.specs.Seats.{Seating, turns_by, choices_from}
use Rattle.meaning.specs.ByCounts.{able}

-- ---- by seats: the full walk

-- the place of the first of some choices
abbrev pub first_of : {S : Type 0} → List (Choice S) → Option ℕ
first_of [] = none
first_of (c ∷ l) = some c.place

-- every statement that some seat may take is found, with its place from 1, and of all these the first is given; the stuck step is none of them
unfoldable pub first_move : Card → Seating → Option ℕ
unfolding choices_of turns_by
first_move c x = first_of (choices_from 1 c.statements x)

-- ---- by counts v of n seats, the shared number beside them: no statement behind the first that can be taken is looked at

-- among the statements from place q on
unfoldable pub first_at : ℕ → Position → ℕ → List Statement → Option ℕ
unfolding able
first_at n v q [] = none
first_at n v q (s ∷ l) = when ltb 0 (able n v s) then some q else first_at n v (suc q) l
