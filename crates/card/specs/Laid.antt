-- How a card lies in the struct's arrays, and the card that a struct holds ("What the box holds"). A guard's nodes stand left part,
-- right part, root; a node is one number, of an operator and two children or of an operator and a leaf. Assumes nothing.
use Rattle.std.specs.Prelude.{ℕ, zero, suc, ◌+◌, ◌-◌, ◌*◌, ◌/◌, ◌%◌, min, List, [], ◌∷◌, ◌++◌, map, eqb, ltb, length, get_or, take, drop}
use Rattle.std.proofs.Math.Option.{Option, none, some}
use Rattle.card.specs.Limits.{most_states, most_statements, most_branches, most_nodes, node_places, branch_places, set_places}
use Rattle.card.specs.Text.{when◌then◌else◌}
use Rattle.card.specs.Card.{Mode, nondeterministic, probabilistic, Kind, everyone, others, Sign, all, any, Relation, is, isnt, Leaf, group, one, shared_is, Formula, atom, neg, and, or, Guard, Branch, Statement, Shared, Card}
use Rattle.card.specs.Valid.{size, values_of}
use Rattle.card.specs.declared.Statement.{Statement as StatementRow}
use Rattle.card.specs.declared.Card.{Card as CardRow}

-- ---- numbers for the choices

abbrev pub mode_number : Mode → ℕ
mode_number nondeterministic = 0
mode_number probabilistic = 1

abbrev pub kind_number : Kind → ℕ
kind_number everyone = 0
kind_number others = 1

-- behind a group's kinds: exactly one seat, and the shared number
abbrev pub one_kind : ℕ
one_kind = 2

abbrev pub shared_kind : ℕ
shared_kind = 3

abbrev pub sign_number : Sign → ℕ
sign_number all = 0
sign_number any = 1

abbrev pub relation_number : Relation → ℕ
relation_number is = 0
relation_number isnt = 1

-- the second for any number but 0
abbrev pub either : {A : Type 0} → A → A → ℕ → A
either a b v = when eqb v 0 then a else b

-- ---- a node and a branch as one number

abbrev pub op_leaf : ℕ
op_leaf = 0

abbrev pub op_not : ℕ
op_not = 1

abbrev pub op_and : ℕ
op_and = 2

abbrev pub op_or : ℕ
op_or = 3

unfoldable pub pack_node : ℕ → ℕ → ℕ → ℕ
pack_node op left right = (op * node_places + left) * node_places + right

unfoldable pub op_of : ℕ → ℕ
op_of x = x / node_places / node_places

unfoldable pub left_of : ℕ → ℕ
left_of x = x / node_places % node_places

unfoldable pub right_of : ℕ → ℕ
right_of x = x % node_places

unfoldable pub pack_group : ℕ → ℕ → ℕ → ℕ → ℕ
unfolding pack_node
pack_group kind sign relation d = pack_node op_leaf 0 (((kind * 2 + sign) * 2 + relation) * most_states + d)

-- the parts of a leaf back
unfoldable pub kind_part : ℕ → ℕ
kind_part x = x / (4 * most_states)

unfoldable pub sign_part : ℕ → ℕ
sign_part x = x / (2 * most_states) % 2

unfoldable pub relation_part : ℕ → ℕ
relation_part x = x / most_states % 2

unfoldable pub state_part : ℕ → ℕ
state_part x = x % most_states

unfoldable pub group_of : ℕ → Leaf
unfolding kind_part sign_part relation_part state_part
group_of x = group (either everyone others (kind_part x)) (either all any (sign_part x)) (either is isnt (relation_part x)) (state_part x)

-- a leaf, by what it is, and back
abbrev pub leaf_number : Leaf → ℕ
leaf_number (group kind s q d) = pack_group (kind_number kind) (sign_number s) (relation_number q) d
leaf_number (one d) = pack_group one_kind 0 0 d
leaf_number (shared_is q v) = pack_group shared_kind 0 (relation_number q) v

unfoldable pub leaf_of : ℕ → Leaf
unfolding group_of
leaf_of x =
    when ltb (kind_part x) one_kind then group_of x
    else (when ltb (kind_part x) shared_kind then one (state_part x)
    else shared_is (either is isnt (relation_part x)) (state_part x))

-- what is set, as a number: 0 for nothing
abbrev pub set_number : Option ℕ → ℕ
set_number none = 0
set_number (some v) = suc v

abbrev pub set_of : ℕ → Option ℕ
set_of zero = none
set_of (suc v) = some v

-- a branch
unfoldable pub pack_branch : ℕ → ℕ → ℕ → ℕ
pack_branch units sets end = units * (set_places * most_states) + (sets * most_states + end)

unfoldable pub units_part : ℕ → ℕ
units_part x = x / (set_places * most_states)

unfoldable pub set_part : ℕ → ℕ
set_part x = x / most_states % set_places

unfoldable pub end_part : ℕ → ℕ
end_part x = x % most_states

abbrev pub branch_number : Branch → ℕ
branch_number b = pack_branch b.units (set_number b.sets) b.end

unfoldable pub branch_of : ℕ → Branch
unfolding units_part set_part end_part
branch_of x = record { units = units_part x; end = end_part x; sets = set_of (set_part x) }

-- the shared number of a card: how many values it has, and what it starts at; 0 and 0 where there is none
abbrev pub start_of : Option Shared → ℕ
start_of none = 0
start_of (some s) = s.start

abbrev pub shared_of : ℕ → ℕ → Option Shared
shared_of zero start = none
shared_of (suc most) start = some (record { most = most; start = start })

-- ---- laid: from the card to the arrays

-- the nodes below a guard's root
abbrev pub below : {A : Type 0} → Formula A → ℕ
below (atom a) = 0
below (neg g) = size g
below (and g h) = size g + size h
below (or g h) = size g + size h

-- a guard's nodes, the first of which has the number `at`
unfoldable pub cells : Guard → ℕ → List ℕ
unfolding pack_node pack_group
cells (atom a) at = leaf_number a ∷ []
cells (neg g) at = cells g at ++ pack_node op_not (at + below g) 0 ∷ []
cells (and g h) at = cells g at ++ (cells h (at + size g) ++ pack_node op_and (at + below g) (at + size g + below h) ∷ [])
cells (or g h) at = cells g at ++ (cells h (at + size g) ++ pack_node op_or (at + below g) (at + size g + below h) ∷ [])

abbrev pub guard_cells : Option Guard → ℕ → List ℕ
guard_cells none at = []
guard_cells (some g) at = cells g at

abbrev pub guard_size : Option Guard → ℕ
guard_size none = 0
guard_size (some g) = size g

unfoldable pub zeros : ℕ → List ℕ
zeros zero = []
zeros (suc n) = 0 ∷ zeros n

-- with zeros behind, up to a length
unfoldable pub padded : ℕ → List ℕ → List ℕ
unfolding zeros
padded most xs = xs ++ zeros (most - length xs)

-- a row of so many places for each statement, from place `at` on
unfoldable pub rows : ℕ → (ℕ → Statement → List ℕ) → ℕ → List Statement → List ℕ
unfolding padded
rows width f at [] = []
rows width f at (x ∷ xs) = padded width (f at x) ++ rows width f (at + width) xs

abbrev pub node_row : ℕ → Statement → List ℕ
node_row at x = guard_cells x.guard at

abbrev pub branch_row : ℕ → Statement → List ℕ
branch_row at x = map branch_number x.branches

abbrev pub statement_row : Statement → StatementRow
statement_row x = record { own = x.own; nodes = guard_size x.guard; branches = length x.branches }

abbrev pub no_statement : StatementRow
no_statement = record { own = 0; nodes = 0; branches = 0 }

unfoldable pub statement_rows : ℕ → List Statement → List StatementRow
statement_rows zero xs = []
statement_rows (suc most) [] = no_statement ∷ statement_rows most []
statement_rows (suc most) (x ∷ xs) = statement_row x ∷ statement_rows most xs

-- zeros wherever the card has nothing
unfoldable pub laid : Card → CardRow
unfolding cells padded rows statement_rows
laid c = record {
  mode = mode_number c.mode;
  shared = values_of c.shared;
  initial = start_of c.shared;
  seats = c.n;
  top = c.k;
  start = c.l;
  count = length c.statements;
  statements = statement_rows most_statements c.statements;
  nodes = padded node_places (rows most_nodes node_row 0 c.statements);
  branches = padded branch_places (rows most_branches branch_row 0 c.statements);
}

-- ---- and back, whatever numbers stand in the arrays

-- a node from its number and its children
unfoldable pub node_of : ℕ → Guard → Guard → Guard
unfolding leaf_of op_of
node_of x g h =
    when eqb (op_of x) op_leaf then atom (leaf_of x)
    else (when eqb (op_of x) op_not then neg g
    else (when eqb (op_of x) op_and then and g h
    else or g h))

-- the guard whose root is node n: node numbers fall from parent to child, and one that does not is read as the highest that does;
-- node 0 has no children
unfoldable pub guard_from : ℕ → List ℕ → ℕ → Guard
unfolding node_of leaf_of left_of right_of
guard_from zero nodes n = atom (leaf_of (get_or nodes n 0))
guard_from (suc fuel) nodes n =
    let x = get_or nodes n 0 in
    when eqb n 0 then atom (leaf_of x)
    else node_of x (guard_from fuel nodes (min (left_of x) (n - 1))) (guard_from fuel nodes (min (right_of x) (n - 1)))

unfoldable pub guard_at : List ℕ → ℕ → Guard
unfolding guard_from
guard_at nodes n = guard_from n nodes n

-- of so many nodes from `at` on, the last is the root
abbrev pub guard_of : List ℕ → ℕ → ℕ → Option Guard
guard_of nodes at zero = none
guard_of nodes at (suc m) = some (guard_at nodes (at + m))

unfoldable pub statement_of : List ℕ → List ℕ → StatementRow → ℕ → Statement
unfolding guard_at branch_of
statement_of nodes branches x i = record {
  own = x.own;
  guard = guard_of nodes (i * most_nodes) x.nodes;
  branches = map branch_of (take x.branches (drop (i * most_branches) branches));
}

unfoldable pub statements_of : List ℕ → List ℕ → List StatementRow → ℕ → List Statement
unfolding statement_of
statements_of nodes branches [] i = []
statements_of nodes branches (x ∷ xs) i = statement_of nodes branches x i ∷ statements_of nodes branches xs (suc i)

unfoldable pub card_of : CardRow → Card
unfolding statements_of
card_of c = record {
  mode = either nondeterministic probabilistic c.mode;
  shared = shared_of c.shared c.initial;
  n = c.seats;
  k = c.top;
  l = c.start;
  statements = statements_of c.nodes c.branches (take c.count c.statements) 0;
}
