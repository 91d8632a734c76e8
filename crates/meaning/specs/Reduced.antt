-- The reduced program, and what it means, by counts ("What a card means", second part; document 02, 2026-10). Assumes nothing.
use Rattle.std.specs.Prelude.{ℕ, suc, ◌+◌, ◌-◌, min, ◌≡◌, Bool, true, false, ◌&&◌, List, [], ◌∷◌, map, eqb, ltb, get_or, set}
use Rattle.std.proofs.Math.Option.{Option}
use Rattle.card.specs.Text.{when◌then◌else◌}
use Rattle.card.specs.Card.{Mode, nondeterministic, probabilistic, Kind, everyone, others, Sign, all, any, Relation, is, isnt}
use Rattle.card.specs.Card.{Leaf, group, one, shared_is, Formula, Guard, Branch, Statement, Shared, Card}
use Rattle.card.specs.Formulas.{over_or}
use Rattle.card.specs.Valid.{Every}
use Rattle.meaning.specs.Sums.{gate, upto, flat}
use Rattle.meaning.specs.Formulas.{value_or}
use Rattle.meaning.specs.Position.{Position, position, set_to}
use Rattle.meaning.specs.Seats.{literal}
use Rattle.meaning.specs.Steps.{Step, Turn}
use Rattle.meaning.specs.Choices.{Choice, choices_of, choices_at, turns_in}

-- ---- the program

-- no_d=m, no_d>m, no_d<m
pub data Bound : Type 0 where
  equal_to more_than less_than : ℕ → Bound

-- of a counter, or of the shared number as it stands on the card
pub data Counter : Type 0 where
  counter : ℕ → Bound → Counter
  shared_test : Relation → ℕ → Counter

abbrev pub Test : Type 0
Test = Formula Counter

-- true; or (no_j'=no_j-1) & (no_t'=min(no_t+1,n))
pub data Update : Type 0 where
  keep : Update
  shift : ℕ → ℕ → ℕ → Update

-- and what the shared number is set to, if anything
pub record Outcome : Type 0 where
  pub units : ℕ
  pub update : Update
  pub sets : Option ℕ

-- [] (no_own>least) & guard -> outcomes
pub record Reduced : Type 0 where
  pub own : ℕ
  pub least : ℕ
  pub guard : Option Test
  pub outcomes : List Outcome

-- counters no_0 to no_k, each from 0 to most, with what they start at, and the card's shared number
pub record Program : Type 0 where
  pub mode : Mode
  pub shared : Option Shared
  pub most : ℕ
  pub start : List ℕ
  pub statements : List Reduced

-- ---- the translation, for n seats and a statement with local state j

-- the table, a clause for each place: everyone; others where d is j; others where it is not
abbrev pub table : ℕ → Kind → Bool → Sign → Relation → Bound
table n everyone e all is = equal_to n
table n everyone e any is = more_than 0
table n everyone e all isnt = equal_to 0
table n everyone e any isnt = less_than n
table n others true all is = equal_to n
table n others true any is = more_than 1
table n others true all isnt = equal_to 1
table n others true any isnt = less_than n
table n others false all is = equal_to (n - 1)
table n others false any is = more_than 0
table n others false all isnt = equal_to 0
table n others false any isnt = less_than (n - 1)

-- what a leaf becomes
abbrev pub counter_of : ℕ → ℕ → Leaf → Counter
counter_of n j (group kind s q d) = counter d (table n kind (eqb j d) s q)
counter_of n j (one d) = counter d (equal_to 1)
counter_of n j (shared_is q v) = shared_test q v

abbrev pub test_of : ℕ → ℕ → Option Guard → Option Test
test_of n j g = over_or (counter_of n j) g

-- a branch to t
abbrev pub update_of : ℕ → ℕ → ℕ → Update
update_of n j t = when eqb j t then keep else shift j t n

-- the statement with the first test no_j>m
unfoldable pub copy : ℕ → Statement → ℕ → Reduced
copy n s m = record {
  own = s.own;
  least = m;
  guard = test_of n s.own s.guard;
  outcomes = map (λ (b : Branch). record { units = b.units; update = update_of n s.own b.end; sets = b.sets }) s.branches;
}

-- one on a nondeterministic card; on a probabilistic one n running, with no_j>0 to no_j>n-1
abbrev pub copies : Mode → ℕ → Statement → List Reduced
copies nondeterministic n s = copy n s 0 ∷ []
copies probabilistic n s = upto n (copy n s)

unfoldable pub reduce : Card → Program
unfolding copy
reduce c = record {
  mode = c.mode;
  shared = c.shared;
  most = c.n;
  start = upto (suc c.k) (λ d. gate (eqb c.l d) c.n);
  statements = flat (map (copies c.mode c.n) c.statements);
}

-- ---- its meaning, at counts v and the shared number beside them

abbrev pub no_of : List ℕ → ℕ → ℕ
no_of v d = get_or v d 0

abbrev pub meets : Bound → ℕ → Bool
meets (equal_to m) a = eqb a m
meets (more_than m) a = ltb m a
meets (less_than m) a = ltb a m

abbrev pub passes : Position → Counter → Bool
passes v (counter d b) = meets b (no_of v.each d)
passes v (shared_test q a) = literal q (eqb v.shared a)

unfoldable pub can_take : Position → Reduced → Bool
can_take v r = ltb r.least (no_of v.each r.own) && value_or (passes v) r.guard

-- a counter is raised to n at most
abbrev pub raised : ℕ → ℕ → ℕ
raised n a = min (a + 1) n

abbrev pub updated : List ℕ → Update → List ℕ
updated v keep = v
updated v (shift j t n) = set (set v j (no_of v j - 1)) t (raised n (no_of v t))

unfoldable pub reduced_turn : Position → Reduced → Turn Position
reduced_turn v r = map (λ (o : Outcome). record { units = o.units; next = position (updated v.each o.update) (set_to v.shared o.sets) }) r.outcomes

-- the one turn of a statement that can be taken
unfoldable pub reduced_turns_by : Position → Reduced → List (Turn Position)
unfolding can_take reduced_turn
reduced_turns_by v r = when can_take v r then reduced_turn v r ∷ [] else []

-- all that can happen at counts v, by place in the program
unfoldable pub reduced_choices : Program → Position → List (Choice Position)
unfolding choices_of reduced_turns_by
reduced_choices p v = choices_at (reduced_turns_by v) p.statements v

unfoldable pub reduced_turns : Program → Position → List (Turn Position)
unfolding reduced_choices
reduced_turns p v = turns_in (reduced_choices p v)

unfoldable pub reduced_steps : Program → Position → List (Step Position)
unfolding reduced_turns
reduced_steps p v = flat (reduced_turns p v)

-- no statement can be taken
abbrev pub StuckAt : Program → Position → Type 0
StuckAt p v = Every (λ r. can_take v r ≡ false) p.statements
