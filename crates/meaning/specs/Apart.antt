-- That seats are told apart: what one of them does to a seating, and which of them may do it. Assumes nothing.
use Rattle.std.specs.Prelude.{ℕ, ◌≡◌, List, length}
use Rattle.card.specs.Card.{Branch, Statement}
use Rattle.meaning.specs.Sums.{upto, those}
use Rattle.meaning.specs.Position.{set_to}
use Rattle.meaning.specs.Steps.{Step}
use Rattle.meaning.specs.Seats.{Seating, state, may_take}

-- a branch's step where seat i takes it: the seat's own state is the branch's end, no other seat moves, and the shared number is what the branch makes of it
pub record SeatStep (x : Seating) (i : ℕ) (b : Branch) (t : Step Seating) : Type 0 where
  pub weighs : t.units ≡ b.units
  pub seats : length t.next.each ≡ length x.each
  pub own : state t.next.each i ≡ b.end
  pub rest : (j : ℕ) → (j ≡ i → ⊥) → state t.next.each j ≡ state x.each j
  pub shared : t.next.shared ≡ set_to x.shared b.sets

-- the seats that may take a statement, each by its place, in order
abbrev pub takers : Statement → Seating → List ℕ
takers s x = those (may_take s x) (upto (length x.each) (λ i. i))
