-- A card within all limits, whose states are at most k, whose groups are symmetric for n and whose weights add up to the unit
-- ("What the box holds", "Shape of a card"). Assumes nothing.
use Rattle.std.specs.Prelude.{ℕ, suc, ◌+◌, ◌≤◌, ◌<◌, max, ◌≡◌, Bool, true, false, List, [], ◌∷◌, length}
use Rattle.std.proofs.Math.Option.{Option, none, some}
use Rattle.card.specs.Limits.{most_seats, top_state, top_shared, most_statements, most_branches, most_nodes, most_depth, unit}
use Rattle.card.specs.Card.{Kind, everyone, others, Sign, all, any, Leaf, group, one, shared_is, Formula, atom, neg, and, or, Guard, Branch, Statement, Shared, Card}
use Rattle.card.specs.Formulas.{EveryAtom}

-- the first seat that a group names
abbrev pub first_seat : Kind → ℕ
first_seat everyone = 1
first_seat others = 2

-- there is a seat to name; two, where a `|` joins the literals (one literal alone counts as joined by `&`)
abbrev pub Enough : Sign → Kind → ℕ → Type 0
Enough all kind n = first_seat kind ≤ n
Enough any kind n = first_seat kind < n

-- how many values the shared number has: none where no such number is declared, so that nothing can be tested or set then
abbrev pub values_of : Option Shared → ℕ
values_of none = 0
values_of (some s) = suc s.most

-- on a card of n seats with top state k, whose shared number has so many values
abbrev pub ValidLeaf : ℕ → ℕ → ℕ → Leaf → Type 0
ValidLeaf n k values (group kind s q d) = Enough s kind n × (d ≤ k)
ValidLeaf n k values (one d) = ⊥  -- no card has one
ValidLeaf n k values (shared_is q v) = v < values

abbrev pub ValidLeaves : ℕ → ℕ → ℕ → Guard → Type 0
ValidLeaves n k values g = EveryAtom (ValidLeaf n k values) g

-- ---- nodes and depth

abbrev pub size : {A : Type 0} → Formula A → ℕ
size (atom a) = 1
size (neg g) = suc (size g)
size (and g h) = suc (size g + size h)
size (or g h) = suc (size g + size h)

-- where a part of a guard stands: in brackets; as the whole guard or joined by `|`; under `!` or right of `&`
pub data Level : Type 0 where
  loose middle tight : Level

-- does an `&`, or an `|`, need brackets of its own there?
abbrev pub needs_and : Level → Bool
needs_and loose = false
needs_and middle = false
needs_and tight = true

abbrev pub needs_or : Level → Bool
needs_or loose = false
needs_or middle = true
needs_or tight = true

abbrev pub bracketed : Bool → ℕ → ℕ
bracketed true d = suc d
bracketed false d = d

-- brackets and `!` open at one place, where a guard has no more brackets than it needs
abbrev pub depth : {A : Type 0} → Level → Formula A → ℕ
depth v (atom a) = 0
depth v (neg g) = suc (depth tight g)
depth v (and g h) = bracketed (needs_and v) (max (depth middle g) (depth tight h))
depth v (or g h) = bracketed (needs_or v) (max (depth loose g) (depth middle h))

abbrev pub ValidGuard : ℕ → ℕ → ℕ → Option Guard → Type 0
ValidGuard n k values none = Unit {0}
ValidGuard n k values (some g) = ValidLeaves n k values g × (depth middle g ≤ most_depth) × (size g ≤ most_nodes)

-- ---- statements

-- of each of a list
abbrev pub Every : {A : Type 0} → (A → Type 0) → List A → Type 0
Every P [] = Unit {0}
Every P (x ∷ xs) = P x × Every P xs

-- one at least, and so many at most
abbrev pub Some : {A : Type 0} → ℕ → List A → Type 0
Some most xs = (1 ≤ length xs) × (length xs ≤ most)

abbrev pub total : List Branch → ℕ
total [] = 0
total (b ∷ bs) = b.units + total bs

-- what it sets, if anything
abbrev pub ValidSet : ℕ → Option ℕ → Type 0
ValidSet values none = Unit {0}
ValidSet values (some v) = v < values

pub record ValidBranch (k values : ℕ) (b : Branch) : Type 0 where
  pub units : b.units ≤ unit
  pub end : b.end ≤ k
  pub sets : ValidSet values b.sets

pub record ValidStatement (n k values : ℕ) (x : Statement) : Type 0 where
  pub own : x.own ≤ k
  pub guard : ValidGuard n k values x.guard
  pub some : Some most_branches x.branches
  pub branches : Every (ValidBranch k values) x.branches
  pub sum : total x.branches ≡ unit

abbrev pub ValidShared : Option Shared → Type 0
ValidShared none = Unit {0}
ValidShared (some s) = (s.most ≤ top_shared) × (s.start ≤ s.most)

pub record ValidCard (c : Card) : Type 0 where
  pub shared : ValidShared c.shared
  pub seats : 1 ≤ c.n
  pub seats_most : c.n ≤ most_seats
  pub top : c.k ≤ top_state
  pub init : c.l ≤ c.k
  pub some : Some most_statements c.statements
  pub statements : Every (ValidStatement c.n c.k (values_of c.shared)) c.statements
