-- A card's arrays, filled statement by statement: behind the rows that stand there are zeros, and a row stored at their start is the next
-- row with its own zeros behind it. Assumes nothing.
use Prim.Native.Nat.{ℕ, zero, suc, ◌+◌, ◌-◌, ◌*◌, ◌≤◌, ◌<◌}
use mathlib.Core.Path.{◌≡◌, refl, sym, ap, ◌∙◌}
use mathlib.Core.List.{List, [], ◌∷◌, ◌++◌, append_assoc, append-nil, map}
use mathlib.Core.Option.{Option, none, some}
use native.Mathlib.Nat.{zero-add, suc-add, suc-mul, sub-zero, zero-sub, suc-sub-suc, add_comm, not-suc-le-zero, le_of_suc-le-suc}
use native.Mathlib.Omega.{arith}
use lib.ListN.{length, drop, set, replicate, length-append, length-map}
use lib.Seq.{take-append_seam, drop-append-add}
use Rattle.card.specs.Limits.{most_statements, most_nodes, most_branches, node_places, branch_places}
use Rattle.card.specs.Card.{Guard, Statement}
use Rattle.card.specs.Valid.{Every}
use Rattle.card.specs.Laid.{zeros, padded, rows, guard_cells, guard_size, node_row, branch_row, branch_number, statement_row, statement_rows}
use Rattle.card.specs.declared.Statement.{Statement as StatementRow}
use Rattle.card.specs.Stored.{stored}
use Rattle.card.proofs.Storing.{stored_fits, length_cells}

-- ---- zeros

pub length_zeros : (n : ℕ) → length (zeros n) ≡ n
unfolding zeros
length_zeros zero = refl
length_zeros (suc n) = ap suc (length_zeros n)

pub zeros_append : (a b : ℕ) → zeros a ++ zeros b ≡ zeros (a + b)
unfolding zeros
zeros_append zero b = rw zero-add
zeros_append (suc a) b = rw (suc-add a b) (ap (λ (s : List ℕ). 0 ∷ s) (zeros_append a b))

-- as the code makes them
pub zeros_repeat : (n : ℕ) → zeros n ≡ replicate n 0
unfolding zeros
zeros_repeat zero = refl
zeros_repeat (suc n) = ap (λ (s : List ℕ). 0 ∷ s) (zeros_repeat n)

drop_zeros : (k n : ℕ) → drop k (zeros n) ≡ zeros (n - k)
unfolding zeros
drop_zeros zero n = rw sub-zero
drop_zeros (suc k) zero = rw zero-sub
drop_zeros (suc k) (suc n) = rw suc-sub-suc (drop_zeros k n)

-- ---- a row with zeros behind it

pub length_padded : (most : ℕ) (s : List ℕ) → length s ≤ most → length (padded most s) ≡ most
unfolding padded
length_padded most s h = simp (length-append, length_zeros) (omega arith)

-- stored where the zeros begin
stored_behind : (p z s : List ℕ) → length s ≤ length z → stored (p ++ z) (length p) s ≡ (p ++ s) ++ drop (length s) z
stored_behind p z s h =
    stored_fits (p ++ z) (length p) s (simp length-append (omega arith)) ∙ rw (take-append_seam, drop-append-add)

zeros_twice : (p s : List ℕ) (a b : ℕ) → (p ++ (s ++ zeros a)) ++ zeros b ≡ (p ++ s) ++ zeros (a + b)
zeros_twice p s a b = simp (append_assoc, zeros_append)

-- one row more
row_more : (p s : List ℕ) (width most : ℕ) → length s ≤ width → length p + width ≤ most
    → stored (padded most p) (length p) s ≡ padded most (p ++ padded width s)
unfolding padded
row_more p s width most g h =
    let e : most - length p - length s ≡ (width - length s) + (most - length (p ++ (s ++ zeros (width - length s)))) =
    simp (length-append, length_zeros) (omega arith) in
    stored_behind p (zeros (most - length p)) s (rw length_zeros (omega arith))
    ∙ rw (drop_zeros, e) (sym (zeros_twice p s (width - length s) (most - length (p ++ (s ++ zeros (width - length s))))))

-- ---- rows

-- each statement's row is no longer than its places
abbrev pub Narrow : ℕ → (ℕ → Statement → List ℕ) → List Statement → Type 0
Narrow width f xs = Every (λ x. (at : ℕ) → length (f at x) ≤ width) xs

module _ (width : ℕ) (f : ℕ → Statement → List ℕ) where
  pub rows_none : (at : ℕ) → rows width f at [] ≡ []
  unfolding rows
  rows_none at = refl

  pub rows_one : (at : ℕ) (x : Statement) (xs : List Statement) → rows width f at (x ∷ xs) ≡ padded width (f at x) ++ rows width f (at + width) xs
  unfolding rows
  rows_one at x xs = refl

  pub length_rows : (at : ℕ) (xs : List Statement) → Narrow width f xs → length (rows width f at xs) ≡ length xs * width
  length_rows at [] n = rw rows_none (omega arith)
  length_rows at (x ∷ xs) n =
      rw (rows_one, length-append, length_padded width (f at x) (n.0 at), length_rows (at + width) xs n.1, suc-mul)
      (add_comm width (length xs * width))

  pub rows_append : (at : ℕ) (xs ys : List Statement) → rows width f at (xs ++ ys) ≡ rows width f at xs ++ rows width f (at + length xs * width) ys
  rows_append at [] ys = rw rows_none (ap (λ (k : ℕ). rows width f k ys) (omega arith))
  rows_append at (x ∷ xs) ys =
      let e : at + width + length xs * width ≡ at + suc (length xs) * width = omega (arith, suc-mul (length xs) width) in
      rw (rows_one at x (xs ++ ys), rows_one at x xs, append_assoc, rows_append (at + width) xs ys, e)

  -- so the next statement's row is stored at the rows' end
  pub fill : (most : ℕ) (xs : List Statement) (x : Statement) (at : ℕ) → length xs * width ≡ at
      → Narrow width f xs → length (f at x) ≤ width → at + width ≤ most
      → stored (padded most (rows width f 0 xs)) at (f at x) ≡ padded most (rows width f 0 (xs ++ x ∷ []))
  fill most xs x at e n g h =
      let long : length (rows width f 0 xs) ≡ at = length_rows 0 xs n ∙ e in
      let here : 0 + length xs * width ≡ at = omega arith in
      rw (rows_append 0 xs (x ∷ []), rows_one, rows_none, append-nil, here)
      (rw long at (row_more (rows width f 0 xs) (f at x) width most g (rw long h)))

-- ---- a card's arrays

-- the guard's nodes, and the branches, are no more than a statement has places for
abbrev pub FewNodes : Statement → Type 0
FewNodes x = guard_size x.guard ≤ most_nodes

abbrev pub FewBranches : Statement → Type 0
FewBranches x = length x.branches ≤ most_branches

pub length_guard_cells : (g : Option Guard) (at : ℕ) → length (guard_cells g at) ≡ guard_size g
length_guard_cells none at = refl
length_guard_cells (some g) at = length_cells g at

pub narrow_nodes : (xs : List Statement) → Every FewNodes xs → Narrow most_nodes node_row xs
narrow_nodes [] h = tt
narrow_nodes (x ∷ xs) h = ((λ at. rw (length_guard_cells x.guard at) h.0), narrow_nodes xs h.1)

pub narrow_branches : (xs : List Statement) → Every FewBranches xs → Narrow most_branches branch_row xs
narrow_branches [] h = tt
narrow_branches (x ∷ xs) h = ((λ at. rw (length-map x.branches branch_number) h.0), narrow_branches xs h.1)

module _ (xs : List Statement) (x : Statement) (i : ℕ) (e : length xs ≡ i) (h : i < most_statements) where
  pub fill_nodes : Every FewNodes xs → FewNodes x
      → stored (padded node_places (rows most_nodes node_row 0 xs)) (i * most_nodes) (guard_cells x.guard (i * most_nodes))
      ≡ padded node_places (rows most_nodes node_row 0 (xs ++ x ∷ []))
  fill_nodes n g =
      fill most_nodes node_row node_places xs x (i * most_nodes) (rw e) (narrow_nodes xs n)
      (rw (length_guard_cells x.guard (i * most_nodes)) g) (omega arith)

  pub fill_branches : Every FewBranches xs → FewBranches x
      → stored (padded branch_places (rows most_branches branch_row 0 xs)) (i * most_branches) (map branch_number x.branches)
      ≡ padded branch_places (rows most_branches branch_row 0 (xs ++ x ∷ []))
  fill_branches n g =
      fill most_branches branch_row branch_places xs x (i * most_branches) (rw e) (narrow_branches xs n)
      (rw (length-map x.branches branch_number) g) (omega arith)

set_row : (most : ℕ) (xs : List Statement) (x : Statement) → length xs < most
    → set (statement_rows most xs) (length xs) (statement_row x) ≡ statement_rows most (xs ++ x ∷ [])
unfolding statement_rows
set_row zero xs x h = absurd (not-suc-le-zero h)
set_row (suc most) [] x h = refl
set_row (suc most) (y ∷ xs) x h = ap (λ (r : List StatementRow). statement_row y ∷ r) (set_row most xs x (le_of_suc-le-suc h))

pub fill_statements : (xs : List Statement) (x : Statement) (i : ℕ) → length xs ≡ i → i < most_statements
    → set (statement_rows most_statements xs) i (statement_row x) ≡ statement_rows most_statements (xs ++ x ∷ [])
fill_statements xs x i e h = rw e at (set_row most_statements xs x (rw e h))
