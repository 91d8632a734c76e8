-- Demand 3: the reduced program does from a seating's counts, with the shared number beside them, what the seats do, also where nothing can be
-- taken (document 02, 2026-10). Assumes nothing.
use Rattle.std.specs.Prelude.{ℕ, ◌<◌, ◌≡◌, ◌↔◌, Bool, true, ◌&&◌, eqb, length}
use Rattle.card.specs.Text.{same}
use Rattle.card.specs.Card.{Mode, nondeterministic, probabilistic, Statement, Card}
use Rattle.meaning.specs.Position.{Position}
use Rattle.meaning.specs.Steps.{Turn, weight, seen}
use Rattle.meaning.specs.Offers.{OneForOne, Offers}
use Rattle.meaning.specs.Seats.{Seating, counted, may_take, turn, choices, steps}
use Rattle.meaning.specs.Reduced.{Reduced, reduce, can_take, reduced_turn, reduced_choices, reduced_steps}

-- steps of the seats, seen in the counts
abbrev pub by_counts : ℕ → Turn Seating → Turn Position
by_counts k l = seen (counted k) l

-- the same list, and the same shared number
abbrev pub same_position : Position → Position → Bool
same_position w u = same w.each u.each && eqb w.shared u.shared

-- the weight of the steps into the count vector and shared number of u
abbrev pub into : Position → Turn Position → ℕ
into u l = weight (λ w. same_position w u) l

-- a statement and a reduced one: some seat may take the one exactly where the other can be taken, and each such seat's steps are its steps
pub record Matches (k : ℕ) (x : Seating) (s : Statement) (r : Reduced) : Type 0 where
  pub taken : ((i : ℕ) × (i < length x.each) × (may_take s x i ≡ true)) ↔ (can_take (counted k x) r ≡ true)
  pub steps : (i : ℕ) → i < length x.each → may_take s x i ≡ true → by_counts k (turn s x i) ≡ reduced_turn (counted k x) r

-- on a probabilistic card the weights of all steps into each vector and shared number are equal; on a nondeterministic one each statement has the same steps,
-- and the choices are the same, the stuck one among them
abbrev pub Agrees : Mode → Card → Seating → Type 0
Agrees probabilistic c x = (u : Position) → into u (by_counts c.k (steps c x)) ≡ into u (reduced_steps (reduce c) (counted c.k x))
Agrees nondeterministic c x =
    OneForOne (Matches c.k x) c.statements (reduce c).statements
    × Offers nondeterministic (counted c.k) (choices c x) (reduced_choices (reduce c) (counted c.k x))
