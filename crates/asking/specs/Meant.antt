-- What a question means ("2026-01"): by seats, and translated to counts; the shared number stands beside either (2026-10). Assumes nothing.
use Rattle.std.specs.Prelude.{ℕ, ◌≤◌, ◌<◌, ◌≡◌, Bool, false, eqb, length}
use Rattle.card.specs.Limits.{most_nodes, most_depth}
use Rattle.card.specs.Card.{everyone, Sign, Relation, Leaf, group, one, shared_is, Formula}
use Rattle.meaning.specs.Sums.{upto}
use Rattle.card.specs.Formulas.{over, EveryAtom}
use Rattle.card.specs.Valid.{size, loose, depth}
use Rattle.meaning.specs.Formulas.{value}
use Rattle.meaning.specs.Position.{Position}
use Rattle.meaning.specs.Seats.{Seating, state, literal, joined, alone, any_of}
use Rattle.meaning.specs.Reduced.{equal_to, Counter, counter, shared_test, Test, table, passes}

-- a group of everyone, exactly one seat in state d, or a test of the shared number
pub data Atom : Type 0 where
  of_all : Sign → Relation → ℕ → Atom
  one_in : ℕ → Atom
  shared_at : Relation → ℕ → Atom

abbrev pub Question : Type 0
Question = Formula Atom

-- a state is at most k, and the shared number, which has so many values, is tested for one of them
abbrev pub ValidAtom : ℕ → ℕ → Atom → Type 0
ValidAtom k values (of_all s q d) = d ≤ k
ValidAtom k values (one_in d) = d ≤ k
ValidAtom k values (shared_at q v) = v < values

-- and it is within a guard's limits
pub record ValidQuestion (k values : ℕ) (q : Question) : Type 0 where
  pub atoms : EveryAtom (ValidAtom k values) q
  pub deep : depth loose q ≤ most_depth
  pub large : size q ≤ most_nodes

-- ---- by seats

-- an exactly-one has a term for each seat, joined by `|`: that seat is d, and all others are not
abbrev pub holds_atom : Seating → Atom → Bool
holds_atom x (of_all s q d) = joined s q d x.each
holds_atom x (one_in d) = any_of (upto (length x.each) (alone d x.each))
holds_atom x (shared_at q v) = literal q (eqb x.shared v)

abbrev pub holds_on : Seating → Question → Bool
holds_on x g = value (holds_atom x) g

-- an exactly-one in words: some seat is in state d, and no other is
pub record OneSeat (d : ℕ) (x : Seating) : Type 0 where
  pub seat : ℕ
  pub there : seat < length x.each
  pub is_d : state x.each seat ≡ d
  pub others_not : (j : ℕ) → j < length x.each → (j ≡ seat → ⊥) → state x.each j ≡ d → ⊥

-- ---- by counts, for n seats

abbrev pub counter_for : ℕ → Atom → Counter
counter_for n (of_all s q d) = counter d (table n everyone false s q)
counter_for n (one_in d) = counter d (equal_to 1)
counter_for n (shared_at q v) = shared_test q v

abbrev pub test_for : ℕ → Question → Test
test_for n g = over (counter_for n) g

-- at counts, and at the shared number beside them
abbrev pub passes_on : Position → Test → Bool
passes_on v t = value (passes v) t

-- ---- as a card's leaves, in which a question is laid

abbrev pub leaf_for : Atom → Leaf
leaf_for (of_all s q d) = group everyone s q d
leaf_for (one_in d) = one d
leaf_for (shared_at q v) = shared_is q v
