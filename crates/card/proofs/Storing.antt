-- Numbers stored one after the other are stored at once, so that what is built piece by piece is what is stated whole. Assumes nothing.
use Prim.Native.Nat.{ℕ, suc, ◌+◌, ◌≤◌}
use mathlib.Core.Path.{◌≡◌, refl, ap, ◌∙◌}
use mathlib.Core.List.{List, [], ◌∷◌, ◌++◌}
use native.Mathlib.Nat.{add-zero}
use native.Mathlib.Numerals.{add-one}
use native.Mathlib.Omega.{arith}
use lib.ListN.{length, take, drop, set, length-set, length-append}
use lib.Seq.{sets, sets-eq}
use Rattle.card.specs.Card.{Guard, Formula, atom, neg, and, or, Leaf}
use Rattle.card.specs.Valid.{size}
use Rattle.card.specs.Laid.{op_not, op_and, op_or, pack_node, leaf_number, below, cells}
use Rattle.card.specs.Stored.{stored}

pub stored_none : (array : List ℕ) (at : ℕ) → stored array at [] ≡ array
unfolding stored
stored_none array at = refl

pub stored_one : (array : List ℕ) (at x : ℕ) → stored array at (x ∷ []) ≡ set array at x
unfolding stored
stored_one array at x = refl

-- two pieces one after the other
pub stored_append : (array : List ℕ) (at : ℕ) (s t : List ℕ) → stored array at (s ++ t) ≡ stored (stored array at s) (at + length s) t
unfolding stored
stored_append array at [] t = rw add-zero
stored_append array at (x ∷ s) t =
    rw (stored_append (set array at x) (at + 1) s t)
    (ap (λ (k : ℕ). stored (stored (set array at x) (at + 1) s) k t) (omega arith))

-- one number more
pub stored_more : (array : List ℕ) (at : ℕ) (s : List ℕ) (x : ℕ) → stored array at (s ++ x ∷ []) ≡ set (stored array at s) (at + length s) x
stored_more array at s x = stored_append array at s (x ∷ []) ∙ stored_one (stored array at s) (at + length s) x

pub length_stored : (array : List ℕ) (at : ℕ) (s : List ℕ) → length (stored array at s) ≡ length array
unfolding stored
length_stored array at [] = refl
length_stored array at (x ∷ s) = length_stored (set array at x) (at + 1) s ∙ length-set array at x

-- where there is room: what is before the place, the numbers, and what is past them
stored_sets : (array : List ℕ) (at : ℕ) (s : List ℕ) → stored array at s ≡ sets array at s
unfolding stored
stored_sets array at [] = refl
stored_sets array at (x ∷ s) = rw add-one (stored_sets (set array at x) (suc at) s)

pub stored_fits : (array : List ℕ) (at : ℕ) (s : List ℕ) → at + length s ≤ length array
    → stored array at s ≡ (take at array ++ s) ++ drop (at + length s) array
stored_fits array at s h = stored_sets array at s ∙ sets-eq s array at h

-- ---- a guard's nodes, piece by piece

pub size_below : {A : Type 0} (g : Formula A) → size g ≡ suc (below g)
size_below (atom a) = refl
size_below (neg g) = refl
size_below (and g h) = refl
size_below (or g h) = refl

length_one_more : (s : List ℕ) (x : ℕ) → length (s ++ x ∷ []) ≡ suc (length s)
length_one_more s x = simp length-append (omega arith)

length_two_more : (s t : List ℕ) (x : ℕ) → length (s ++ (t ++ x ∷ [])) ≡ suc (length s + length t)
length_two_more s t x = simp length-append (omega arith)

pub length_cells : (g : Guard) (at : ℕ) → length (cells g at) ≡ size g
unfolding cells
length_cells (atom a) at = refl
length_cells (neg g) at = rw (length_one_more, length_cells g at)
length_cells (and g h) at = rw (length_two_more, length_cells g at, length_cells h (at + size g))
length_cells (or g h) at = rw (length_two_more, length_cells g at, length_cells h (at + size g))

stored_pair : (array : List ℕ) (at : ℕ) (s t : List ℕ) (x : ℕ)
    → stored array at (s ++ (t ++ x ∷ [])) ≡ set (stored (stored array at s) (at + length s) t) (at + length s + length t) x
stored_pair array at s t x = stored_append array at s (t ++ x ∷ []) ∙ stored_more (stored array at s) (at + length s) t x

module _ (array : List ℕ) (at : ℕ) where
  pub stored_leaf : (a : Leaf) → stored array at (cells (atom a) at) ≡ set array at (leaf_number a)
  unfolding cells
  stored_leaf a = stored_one array at (leaf_number a)

  pub stored_not : (g : Guard)
      → stored array at (cells (neg g) at) ≡ set (stored array at (cells g at)) (at + size g) (pack_node op_not (at + below g) 0)
  unfolding cells
  stored_not g = rw (stored_more, length_cells g at)

  pub stored_and : (g h : Guard)
      → stored array at (cells (and g h) at)
      ≡ set (stored (stored array at (cells g at)) (at + size g) (cells h (at + size g))) (at + size g + size h)
      (pack_node op_and (at + below g) (at + size g + below h))
  unfolding cells
  stored_and g h = rw (stored_pair, length_cells g at, length_cells h (at + size g))

  pub stored_or : (g h : Guard)
      → stored array at (cells (or g h) at)
      ≡ set (stored (stored array at (cells g at)) (at + size g) (cells h (at + size g))) (at + size g + size h)
      (pack_node op_or (at + below g) (at + size g + below h))
  unfolding cells
  stored_or g h = rw (stored_pair, length_cells g at, length_cells h (at + size g))
