-- What a card means, by seats ("What a card means", first part; document 02, 2026-10). A seating is the list of the seats' states beside the
-- shared number; seats count from 0 here. Assumes nothing.
use Rattle.std.specs.Prelude.{ℕ, zero, suc, ◌≤◌, ◌<◌, ◌≡◌, Bool, true, false, not, ◌&&◌, ◌||◌, List, [], ◌∷◌, map, eqb, length, get_or, set}
use Rattle.card.specs.Card.{Kind, everyone, others, Sign, all, any, Relation, is, isnt, Leaf, group, one, shared_is, Branch, Statement, Card}
use Rattle.card.specs.Valid.{Every}
use Rattle.meaning.specs.Sums.{gate, sum, upto, those, flat}
use Rattle.meaning.specs.Formulas.{value_or}
use Rattle.meaning.specs.Position.{Position, position, shared_values, set_to}
use Rattle.meaning.specs.Steps.{Step, Turn}
use Rattle.meaning.specs.Choices.{Choice, choices_of, choices_at, turns_in}

abbrev pub Seating : Type 0
Seating = Position

-- n seats, each in a state 0 to k, and a value of the shared number
pub record ValidSeating (c : Card) (x : Seating) : Type 0 where
  pub seats : length x.each ≡ c.n
  pub states : Every (λ a. a ≤ c.k) x.each
  pub shared : x.shared < shared_values c.shared

-- ---- counts

-- how many seats are in state d
abbrev pub count : ℕ → List ℕ → ℕ
count d x = sum (λ a. gate (eqb a d) 1) x

-- no_0 to no_k
unfoldable pub counts : ℕ → List ℕ → List ℕ
counts k x = upto (suc k) (λ d. count d x)

-- a seating seen in its counts: the shared number stays beside them
abbrev pub counted : ℕ → Seating → Position
counted k x = position (counts k x.each) x.shared

-- ---- who may take a statement

-- seat i's own state
abbrev pub state : List ℕ → ℕ → ℕ
state x i = get_or x i 0

-- all seats but i
abbrev pub without : List ℕ → ℕ → List ℕ
without [] i = []
without (a ∷ x) zero = x
without (a ∷ x) (suc i) = a ∷ without x i

-- the seats that a group names, where seat i asks
abbrev pub named : Kind → List ℕ → ℕ → List ℕ
named everyone x i = x
named others x i = without x i

-- a literal of one seat, from the test whether its state is d
abbrev pub literal : Relation → Bool → Bool
literal is b = b
literal isnt b = not b

-- the literals of some seats, joined
abbrev pub joined : Sign → Relation → ℕ → List ℕ → Bool
joined all q d [] = true
joined any q d [] = false
joined all q d (a ∷ x) = literal q (eqb a d) && joined all q d x
joined any q d (a ∷ x) = literal q (eqb a d) || joined any q d x

-- the i-th term of an exactly-one (document 02, 2026-01): seat i is d, and all others are not
abbrev pub alone : ℕ → List ℕ → ℕ → Bool
alone d x i = literal is (eqb (state x i) d) && joined all isnt d (without x i)

abbrev pub any_of : List Bool → Bool
any_of [] = false
any_of (b ∷ bs) = b || any_of bs

-- does a leaf hold for seat i? An exactly-one has a term for each seat, joined by `|`; that and a test of the shared number are the same for all
abbrev pub holds : Seating → ℕ → Leaf → Bool
holds x i (group kind s q d) = joined s q d (named kind x.each i)
holds x i (one d) = any_of (upto (length x.each) (alone d x.each))
holds x i (shared_is q v) = literal q (eqb x.shared v)

-- seat i is in the local state, and the guard holds for it
unfoldable pub may_take : Statement → Seating → ℕ → Bool
may_take s x i = eqb (state x.each i) s.own && value_or (holds x i) s.guard

-- ---- steps

-- the step of seat i by a branch: no other seat changes, and the shared number only where the branch sets it
abbrev pub seat_step_by : Seating → ℕ → Branch → Step Seating
seat_step_by x i b = record { units = b.units; next = position (set x.each i b.end) (set_to x.shared b.sets) }

-- the steps of seat i by a statement
unfoldable pub turn : Statement → Seating → ℕ → Turn Seating
turn s x i = map (seat_step_by x i) s.branches

-- one turn for each seat that may take the statement
unfoldable pub turns_by : Statement → Seating → List (Turn Seating)
unfolding may_take turn
turns_by s x = map (turn s x) (those (may_take s x) (upto (length x.each) (λ i. i)))

-- the choices among the statements from place q of the card on
abbrev pub choices_from : ℕ → List Statement → Seating → List (Choice Seating)
choices_from q l x = choices_of (λ s. turns_by s x) q l

-- all that can happen at a seating
unfoldable pub choices : Card → Seating → List (Choice Seating)
unfolding choices_of turns_by
choices c x = choices_at (λ s. turns_by s x) c.statements x

-- a turn for each pair of a seat and a statement that it may take, or the stuck one
unfoldable pub turns : Card → Seating → List (Turn Seating)
unfolding choices
turns c x = turns_in (choices c x)

-- all their steps, in one list
unfoldable pub steps : Card → Seating → List (Step Seating)
unfolding turns
steps c x = flat (turns c x)

-- no seat may take any statement
abbrev pub Stuck : Card → Seating → Type 0
Stuck c x = Every (λ s. (i : ℕ) → i < length x.each → may_take s x i ≡ false) c.statements
