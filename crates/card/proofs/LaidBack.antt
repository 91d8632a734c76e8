-- A card that is laid comes back. A guard's root stands behind its parts' nodes and names their roots, which are lower; so reading goes from
-- the root into the parts. A statement's nodes and branches stand in its own row. Assumes nothing.
use Prim.Native.Nat.{ℕ, zero, suc, ◌+◌, ◌-◌, ◌*◌, ◌≤◌, ◌<◌, min, suc-le-suc}
use mathlib.Core.Path.{◌≡◌, refl, sym, ap, ap₂, ◌∙◌}
use mathlib.Core.Logic.{inl}
use mathlib.Core.List.{List, [], ◌∷◌, ◌++◌, map}
use mathlib.Core.Option.{Option, none, some}
use native.Mathlib.Nat.{zero-add, min-eq_left, not-suc-le-zero, le_of_suc-le-suc}
use native.Mathlib.Omega.{arith}
use lib.ListN.{length, get_or, take, drop, length-map, length-take}
use lib.Seq.{get_or-take}
use Rattle.card.specs.Limits.{most_statements, most_nodes, most_branches, node_places, branch_places}
use Rattle.card.specs.Card.{Mode, nondeterministic, probabilistic, Guard, atom, neg, and, or, Branch, Statement, Shared, Card}
use Rattle.card.specs.Valid.{size, Every, values_of, ValidCard}
use Rattle.card.specs.Laid.{mode_number, either, op_not, op_and, op_or, pack_node, op_of, left_of, right_of, leaf_number, branch_number, branch_of, start_of, shared_of, below, cells, guard_cells, guard_size, padded, rows, node_row, branch_row, statement_row, no_statement, statement_rows, laid, guard_at, guard_of, statement_of, statements_of, card_of}
use Rattle.card.specs.declared.Statement.{Statement as StatementRow}
use Rattle.card.proofs.Packed.{op_back, left_back, right_back, leaf_op, leaf_back, branch_back}
use Rattle.card.proofs.GuardAt.{guard_at_leaf, guard_at_not, guard_at_and, guard_at_or}
use Rattle.card.proofs.Storing.{size_below, length_cells}
use Rattle.card.proofs.Held.{States, GuardStates, EndsThere, Held, HeldCard, every_at, held_nodes, held_branches, valid_held}
use Rattle.card.proofs.Standing.{Stands, first_stands, second_stands, one_stands, part_stands, row_stands}

-- ---- guards

module _ (nodes : List ℕ) where
  -- a node of two children that have lower numbers, at node n
  module _ (n op a b : ℕ) (h : n < node_places) (ha : a < n) (hb : b < n) (is : get_or nodes n 0 ≡ pack_node op a b) where
    n_positive : n ≡ 0 → ⊥
    n_positive e = omega arith

    op_is : op_of (pack_node op a b) ≡ op
    op_is = op_back op a b (omega arith) (omega arith)

    left_is : min (left_of (pack_node op a b)) (n - 1) ≡ a
    left_is = rw (left_back op a b (omega arith) (omega arith)) (omega arith)

    right_is : min (right_of (pack_node op a b)) (n - 1) ≡ b
    right_is = rw (right_back op a b (omega arith) (omega arith)) (omega arith)

    read_not : op ≡ op_not → guard_at nodes n ≡ neg (guard_at nodes a)
    read_not e = guard_at_not nodes n (pack_node op a b) (sym is) n_positive (op_is ∙ e) ∙ rw left_is

    read_and : op ≡ op_and → guard_at nodes n ≡ and (guard_at nodes a) (guard_at nodes b)
    read_and e = guard_at_and nodes n (pack_node op a b) (sym is) n_positive (op_is ∙ e) ∙ rw (left_is, right_is)

    read_or : op ≡ op_or → guard_at nodes n ≡ or (guard_at nodes a) (guard_at nodes b)
    read_or e =
        guard_at_or nodes n (pack_node op a b) (sym is) n_positive (λ z. omega (arith, op_is)) (λ z. omega (arith, op_is)) (λ z. omega (arith, op_is))
        ∙ rw (left_is, right_is)

  -- two parts and their root
  module _ (at : ℕ) (g h : Guard) (x : ℕ) (s : Stands nodes at (cells g at ++ (cells h (at + size g) ++ x ∷ []))) where
    left_stands : Stands nodes at (cells g at)
    left_stands = first_stands (cells g at) (cells h (at + size g) ++ x ∷ []) s

    rest_stands : Stands nodes (at + size g) (cells h (at + size g) ++ x ∷ [])
    rest_stands = rw (length_cells g at) at (second_stands (cells g at) (cells h (at + size g) ++ x ∷ []) s)

    right_stands : Stands nodes (at + size g) (cells h (at + size g))
    right_stands = first_stands (cells h (at + size g)) (x ∷ []) rest_stands

    root_stands : get_or nodes (at + (size g + size h)) 0 ≡ x
    root_stands =
        let e : at + size g + size h ≡ at + (size g + size h) = omega arith in
        rw (length_cells h (at + size g), e) at (one_stands x (second_stands (cells h (at + size g)) (x ∷ []) rest_stands))

  pub cells_back : (g : Guard) (at : ℕ) → Stands nodes at (cells g at) → States g → at + size g ≤ node_places → guard_at nodes (at + below g) ≡ g
  unfolding cells
  cells_back (atom a) at s t h =
      let e : at + 0 ≡ at = omega arith in
      rw e (guard_at_leaf nodes at (leaf_number a) (sym (one_stands (leaf_number a) s)) (inl (leaf_op a t)) ∙ rw (leaf_back a t))
  cells_back (neg g) at s t h =
      let z = size_below g in
      let k = second_stands (cells g at) (pack_node op_not (at + below g) 0 ∷ []) s in
      let is = rw (length_cells g at) at (one_stands (pack_node op_not (at + below g) 0) k) in
      read_not (at + size g) op_not (at + below g) 0 (omega arith) (omega arith) (omega arith) is refl
      ∙ ap neg (cells_back g at (first_stands (cells g at) (pack_node op_not (at + below g) 0 ∷ []) s) t (omega arith))
  cells_back (and g h) at s t l =
      let a = at + below g in
      let b = at + size g + below h in
      let x = pack_node op_and a b in
      let p = cells_back g at (left_stands at g h x s) t.0 (omega arith) in
      let q = cells_back h (at + size g) (right_stands at g h x s) t.1 (omega arith) in
      read_and (at + (size g + size h)) op_and a b (omega arith) (omega (arith, size_below g)) (omega (arith, size_below h)) (root_stands at g h x s) refl
      ∙ ap₂ and p q
  cells_back (or g h) at s t l =
      let a = at + below g in
      let b = at + size g + below h in
      let x = pack_node op_or a b in
      let p = cells_back g at (left_stands at g h x s) t.0 (omega arith) in
      let q = cells_back h (at + size g) (right_stands at g h x s) t.1 (omega arith) in
      read_or (at + (size g + size h)) op_or a b (omega arith) (omega (arith, size_below g)) (omega (arith, size_below h)) (root_stands at g h x s) refl
      ∙ ap₂ or p q

  pub guard_back : (g : Option Guard) (at : ℕ) → Stands nodes at (guard_cells g at) → GuardStates g → at + guard_size g ≤ node_places
      → guard_of nodes at (guard_size g) ≡ g
  guard_back none at s t h = refl
  guard_back (some g) at s t h = rw (size_below g) (ap some (cells_back g at s t h))

-- ---- branches

numbers_back : (bs : List Branch) → Every EndsThere bs → map branch_of (map branch_number bs) ≡ bs
numbers_back [] h = refl
numbers_back (b ∷ bs) h = ap₂ (λ (a : Branch) (r : List Branch). a ∷ r) (branch_back b h.0.0 h.0.1) (numbers_back bs h.1)

pub branches_back : (branches : List ℕ) (at : ℕ) (bs : List Branch) → Stands branches at (map branch_number bs) → Every EndsThere bs
    → map branch_of (take (length bs) (drop at branches)) ≡ bs
branches_back branches at bs s h =
    ap (λ (k : ℕ). map branch_of (take k (drop at branches))) (sym (length-map bs branch_number))
    ∙ ap (map branch_of) (part_stands (map branch_number bs) s)
    ∙ numbers_back bs h

-- ---- statements

pub row_at : (most : ℕ) (xs : List Statement) (i : ℕ) (d : Statement) → i < length xs → length xs ≤ most
    → get_or (statement_rows most xs) i no_statement ≡ statement_row (get_or xs i d)
unfolding statement_rows
row_at most [] i d h l = absurd (not-suc-le-zero h)
row_at zero (x ∷ xs) i d h l = absurd (not-suc-le-zero l)
row_at (suc most) (x ∷ xs) zero d h l = refl
row_at (suc most) (x ∷ xs) (suc i) d h l = row_at most xs i d (le_of_suc-le-suc h) (le_of_suc-le-suc l)

same_statement : (a b : Statement) → a.own ≡ b.own → a.guard ≡ b.guard → a.branches ≡ b.branches → a ≡ b
same_statement a b p q r = λ i. record { own = p i; guard = q i; branches = r i }

module _ (c : Card) where
  pub laid_statements : (laid c).statements ≡ statement_rows most_statements c.statements
  unfolding laid
  laid_statements = refl

  pub laid_nodes : (laid c).nodes ≡ padded node_places (rows most_nodes node_row 0 c.statements)
  unfolding laid
  laid_nodes = refl

  pub laid_branches : (laid c).branches ≡ padded branch_places (rows most_branches branch_row 0 c.statements)
  unfolding laid
  laid_branches = refl

  -- statement i of a card that is held
  module _ (v : HeldCard c) (i : ℕ) (h : i < length c.statements) (d : Statement) where
    held : Held (get_or c.statements i d)
    held = every_at Held c.statements i d h v.each

    pub statement_row_law : get_or (laid c).statements i no_statement ≡ statement_row (get_or c.statements i d)
    statement_row_law = rw laid_statements (row_at most_statements c.statements i d h v.few)

    pub nodes_stand : Stands (laid c).nodes (i * most_nodes) (guard_cells (get_or c.statements i d).guard (i * most_nodes))
    nodes_stand =
        rw laid_nodes
        (row_stands most_nodes node_row d node_places c.statements i (held_nodes c v) h)

    pub branches_stand : Stands (laid c).branches (i * most_branches) (map branch_number (get_or c.statements i d).branches)
    branches_stand =
        rw laid_branches
        (row_stands most_branches branch_row d branch_places c.statements i (held_branches c v) h)

    pub statement_guard : guard_of (laid c).nodes (i * most_nodes) (guard_size (get_or c.statements i d).guard) ≡ (get_or c.statements i d).guard
    statement_guard =
        guard_back (laid c).nodes (get_or c.statements i d).guard (i * most_nodes) nodes_stand held.states (omega (arith, held.nodes, v.few))

    pub statement_branches : map branch_of (take (length (get_or c.statements i d).branches) (drop (i * most_branches) (laid c).branches))
        ≡ (get_or c.statements i d).branches
    statement_branches = branches_back (laid c).branches (i * most_branches) (get_or c.statements i d).branches branches_stand held.ends

    pub statement_back : statement_of (laid c).nodes (laid c).branches (get_or (laid c).statements i no_statement) i ≡ get_or c.statements i d
    unfolding statement_of
    statement_back = rw statement_row_law (same_statement _ _ refl statement_guard statement_branches)

-- ---- the card

-- statements read one by one are a list of statements
module _ (nodes branches : List ℕ) (d : Statement) where
  list_back : (ys : List StatementRow) (xs : List Statement) (j : ℕ) → length ys ≡ length xs
      → ((i : ℕ) → i < length xs → statement_of nodes branches (get_or ys i no_statement) (j + i) ≡ get_or xs i d)
      → statements_of nodes branches ys j ≡ xs
  unfolding statements_of
  list_back [] [] j e h = refl
  list_back [] (x ∷ xs) j e h = absurd (omega arith)
  list_back (y ∷ ys) [] j e h = absurd (omega arith)
  list_back (y ∷ ys) (x ∷ xs) j e h =
      let first : j + 0 ≡ j = omega arith in
      let later : (i : ℕ) → j + suc i ≡ suc j + i = λ i. omega arith in
      ap₂ (λ (a : Statement) (r : List Statement). a ∷ r)
      (rw first at (h 0 (omega arith)))
      (list_back ys xs (suc j) (omega arith) (λ i l. rw (later i) at (h (suc i) (suc-le-suc l))))

pub length_statement_rows : (most : ℕ) (xs : List Statement) → length (statement_rows most xs) ≡ most
unfolding statement_rows
length_statement_rows zero xs = refl
length_statement_rows (suc most) [] = ap suc (length_statement_rows most [])
length_statement_rows (suc most) (x ∷ xs) = ap suc (length_statement_rows most xs)

mode_back : (m : Mode) → either nondeterministic probabilistic (mode_number m) ≡ m
mode_back nondeterministic = refl
mode_back probabilistic = refl

shared_back : (s : Option Shared) → shared_of (values_of s) (start_of s) ≡ s
shared_back none = refl
shared_back (some s) = refl

-- no statement of any card
nothing : Statement
nothing = record { own = 0; guard = none; branches = [] }

statements_back : (c : Card) → HeldCard c
    → statements_of (laid c).nodes (laid c).branches (take (length c.statements) (laid c).statements) 0 ≡ c.statements
statements_back c v =
    let n = length c.statements in
    list_back (laid c).nodes (laid c).branches nothing (take n (laid c).statements) c.statements 0
    (length-take n (laid c).statements ∙ rw (laid_statements c, length_statement_rows) (min-eq_left v.few))
    (λ i h. rw (zero-add i, get_or-take n (laid c).statements i no_statement h) (statement_back c v i h nothing))

-- by what the arrays can hold, and so for every valid card
pub held_back : (c : Card) → HeldCard c → card_of (laid c) ≡ c
unfolding card_of laid
held_back c v = λ i. record { mode = mode_back c.mode i; shared = shared_back c.shared i; n = c.n; k = c.k; l = c.l; statements = statements_back c v i }

pub laid_back : (c : Card) → ValidCard c → card_of (laid c) ≡ c
laid_back c v = held_back c (valid_held c v)

-- two valid cards that are laid alike are the same
pub laid_injective : (c e : Card) → ValidCard c → ValidCard e → laid c ≡ laid e → c ≡ e
laid_injective c e v w p = sym (laid_back c v) ∙ ap card_of p ∙ laid_back e w
