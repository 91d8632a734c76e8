-- A laid card's arrays are as long as the struct's, and each of their numbers fits 32 bits. Assumes nothing.
use Prim.Native.Nat.{ℕ, zero, suc, ◌+◌, ◌-◌, ◌*◌, ◌≤◌, ◌<◌}
use mathlib.Core.Path.{◌≡◌}
use mathlib.Core.List.{List, [], ◌∷◌, ◌++◌, map}
use mathlib.Core.Option.{Option, none, some}
use native.Mathlib.Nat.{suc-mul, le_trans, mul-le-mul_right}
use native.Mathlib.Omega.{arith}
use lib.ListN.{length, get_or}
use Rattle.card.specs.Limits.{top_state, most_shared, numbers, most_statements, most_nodes, most_branches, node_places, branch_places}
use Rattle.card.specs.Card.{Guard, atom, neg, and, or, Branch, Statement, Card}
use Rattle.card.specs.Valid.{size, Every, values_of, ValidSet, ValidBranch, ValidCard}
use Rattle.card.specs.Laid.{op_not, op_and, op_or, pack_node, set_number, branch_number, below, cells, guard_cells, guard_size, zeros, padded, rows, node_row, branch_row, laid}
use Rattle.card.proofs.Packed.{words, node_fits, leaf_fits, branch_fits}
use Rattle.card.proofs.Storing.{size_below}
use Rattle.card.proofs.Filling.{Narrow, length_padded, length_rows, rows_none, rows_one}
use Rattle.card.proofs.Held.{States, GuardStates, Held, HeldCard, every_map, few_values, held_nodes, held_branches}
use Rattle.card.proofs.Standing.{padded_parts}
use Rattle.card.proofs.LaidBack.{laid_statements, laid_nodes, laid_branches, length_statement_rows}

-- ---- lengths

padded_long : (width count most : ℕ) (f : ℕ → Statement → List ℕ) (xs : List Statement) → Narrow width f xs
    → length xs ≤ count → count * width ≤ most → length (padded most (rows width f 0 xs)) ≡ most
padded_long width count most f xs n h l =
    length_padded most (rows width f 0 xs) (rw (length_rows width f 0 xs n) (le_trans (mul-le-mul_right width h) l))

module _ (c : Card) where
  pub statements_long : length (laid c).statements ≡ most_statements
  statements_long = rw laid_statements (length_statement_rows most_statements c.statements)

  module _ (v : HeldCard c) where
    pub nodes_long : length (laid c).nodes ≡ node_places
    nodes_long =
        rw laid_nodes
        (padded_long most_nodes most_statements node_places node_row c.statements (held_nodes c v) v.few (omega arith))

    pub branches_long : length (laid c).branches ≡ branch_places
    branches_long =
        rw laid_branches
        (padded_long most_branches most_statements branch_places branch_row c.statements (held_branches c v) v.few (omega arith))

-- ---- each number fits

abbrev pub Small : ℕ → Type 0
Small x = x < words

small_append : (s t : List ℕ) → Every Small s → Every Small t → Every Small (s ++ t)
small_append [] t p q = q
small_append (x ∷ s) t p q = (p.0, small_append s t p.1 q)

small_zeros : (n : ℕ) → Every Small (zeros n)
unfolding zeros
small_zeros zero = tt
small_zeros (suc n) = (omega arith, small_zeros n)

small_padded : (most : ℕ) (s : List ℕ) → Every Small s → Every Small (padded most s)
small_padded most s h = rw padded_parts (small_append s (zeros (most - length s)) h (small_zeros (most - length s)))

small_at : (s : List ℕ) (i : ℕ) → Every Small s → get_or s i 0 < words
small_at [] i h = omega arith
small_at (x ∷ s) zero h = h.0
small_at (x ∷ s) (suc i) h = small_at s i h.1

-- rows, of which each is small wherever it has room before the end
module _ (width most : ℕ) (f : ℕ → Statement → List ℕ) where
  abbrev SmallRow : Statement → Type 0
  SmallRow x = (at : ℕ) → at + width ≤ most → Every Small (f at x)

  small_rows : (at : ℕ) (xs : List Statement) → Every SmallRow xs → at + length xs * width ≤ most → Every Small (rows width f at xs)
  small_rows at [] h l = rw rows_none tt
  small_rows at (x ∷ xs) h l =
      let e = suc-mul (length xs) width in
      rw rows_one
      (small_append (padded width (f at x)) (rows width f (at + width) xs)
      (small_padded width (f at x) (h.0 at (omega arith)))
      (small_rows (at + width) xs h.1 (omega arith)))

pair_small : (op : ℕ) (g h : Guard) (at : ℕ) → op ≤ op_or → at + suc (size g + size h) ≤ node_places
    → Every Small (cells g at) → Every Small (cells h (at + size g))
    → Every Small (cells g at ++ (cells h (at + size g) ++ pack_node op (at + below g) (at + size g + below h) ∷ []))
pair_small op g h at k l p q =
    small_append (cells g at) (cells h (at + size g) ++ pack_node op (at + below g) (at + size g + below h) ∷ []) p
    (small_append (cells h (at + size g)) (pack_node op (at + below g) (at + size g + below h) ∷ []) q
    (node_fits op (at + below g) (at + size g + below h) (omega (arith, size_below g)) (omega (arith, size_below h)) k, tt))

cells_small : (g : Guard) (at : ℕ) → States g → at + size g ≤ node_places → Every Small (cells g at)
unfolding cells
cells_small (atom a) at t h = (leaf_fits a t, tt)
cells_small (neg g) at t h =
    small_append (cells g at) (pack_node op_not (at + below g) 0 ∷ []) (cells_small g at t (omega arith))
    (node_fits op_not (at + below g) 0 (omega (arith, size_below g)) (omega arith) (omega arith), tt)
cells_small (and g h) at t l =
    pair_small op_and g h at (omega arith) l (cells_small g at t.0 (omega arith)) (cells_small h (at + size g) t.1 (omega arith))
cells_small (or g h) at t l =
    pair_small op_or g h at (omega arith) l (cells_small g at t.0 (omega arith)) (cells_small h (at + size g) t.1 (omega arith))

small_nodes : (x : Statement) → Held x → (at : ℕ) → at + most_nodes ≤ node_places → Every Small (node_row at x)
small_nodes x v at h = go x.guard v.states v.nodes
  where
    go : (g : Option Guard) → GuardStates g → guard_size g ≤ most_nodes → Every Small (guard_cells g at)
    go none t l = tt
    go (some g) t l = cells_small g at t (omega arith)

small_set : (values : ℕ) → values ≤ most_shared → (s : Option ℕ) → ValidSet values s → set_number s ≤ numbers
small_set values few none v = omega arith
small_set values few (some a) v = omega arith

module _ (k values : ℕ) (top : k ≤ top_state) (few : values ≤ most_shared) where
  small_branches : (bs : List Branch) → Every (ValidBranch k values) bs → Every Small (map branch_number bs)
  small_branches [] v = tt
  small_branches (b ∷ bs) v =
      (branch_fits b.units (set_number b.sets) b.end v.0.units (small_set values few b.sets v.0.sets) (omega (arith, v.0.end)), small_branches bs v.1)

module _ (c : Card) where
  pub nodes_small : HeldCard c → (i : ℕ) → get_or (laid c).nodes i 0 < words
  nodes_small v i =
      rw laid_nodes
      (small_at (padded node_places (rows most_nodes node_row 0 c.statements)) i
      (small_padded node_places (rows most_nodes node_row 0 c.statements)
      (small_rows most_nodes node_places node_row 0 c.statements (every_map small_nodes c.statements v.each) (omega (arith, v.few)))))

  pub branches_small : ValidCard c → (i : ℕ) → get_or (laid c).branches i 0 < words
  branches_small v i =
      rw laid_branches
      (small_at (padded branch_places (rows most_branches branch_row 0 c.statements)) i
      (small_padded branch_places (rows most_branches branch_row 0 c.statements)
      (small_rows most_branches branch_places branch_row 0 c.statements
      (every_map (λ x w at h. small_branches c.k (values_of c.shared) v.top (few_values c.shared v.shared) x.branches w.branches) c.statements v.statements) (omega (arith, v.some.1)))))
