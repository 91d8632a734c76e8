-- Node numbers fall from parent to child: a root's number is the first behind its parts' nodes. Assumes nothing.
use Prim.Native.Nat.{ℕ, zero, suc, ◌+◌, ◌-◌, ◌*◌, ◌≤◌, ◌<◌}
use mathlib.Core.Path.{◌≡◌}
use mathlib.Core.List.{List, [], ◌∷◌, ◌++◌}
use mathlib.Core.Option.{Option, none, some}
use native.Mathlib.Nat.{add-zero, add_assoc, not-suc-le-zero}
use native.Mathlib.Decide.{dec_lt}
use native.Mathlib.Omega.{arith}
use lib.ListN.{length, get_or, length-append, get_or-append}
use lib.Seq.{get_or-append-add}
use Rattle.card.specs.Limits.{most_nodes, node_places}
use Rattle.card.specs.Card.{Guard, atom, neg, and, or, Statement, Card}
use Rattle.card.specs.Valid.{size}
use Rattle.card.specs.Laid.{op_leaf, op_not, op_and, op_or, pack_node, op_of, left_of, right_of, leaf_number, below, cells, guard_cells, guard_size, laid}
use Rattle.card.proofs.Packed.{left_back, right_back, leaf_op}
use Rattle.card.proofs.Storing.{size_below, length_cells}
use Rattle.card.proofs.Filling.{length_guard_cells}
use Rattle.card.proofs.Held.{States, GuardStates, Held, HeldCard, every_at}
use Rattle.card.proofs.Standing.{each_stands}
use Rattle.card.proofs.LaidBack.{nodes_stand}

-- x stands at node n: unless it is a leaf, its children have lower numbers
pub record Falls (x n : ℕ) : Type 0 where
  pub left : (op_of x ≡ op_leaf → ⊥) → left_of x < n
  pub right : (op_of x ≡ op_leaf → ⊥) → right_of x < n

abbrev pub Falling : List ℕ → ℕ → Type 0
Falling s at = (i : ℕ) → i < length s → Falls (get_or s i 0) (at + i)

behind : (s t : List ℕ) (at k : ℕ) → Falls (get_or t k 0) (at + length s + k) → Falls (get_or (s ++ t) (length s + k) 0) (at + (length s + k))
behind s t at k f = rw (get_or-append-add, ← add_assoc at (length s) k) f

falling_append : (s t : List ℕ) (at : ℕ) → Falling s at → Falling t (at + length s) → Falling (s ++ t) at
falling_append s t at f g i h = go (dec_lt i (length s))
  where
    go : Dec (i < length s) → Falls (get_or (s ++ t) i 0) (at + i)
    go (yes l) = rw (get_or-append s t 0 i l) (f i l)
    go (no l) =
        let k = i - length s in
        let e : length s + k ≡ i = omega arith in
        rw e at (behind s t at k (g k (omega (arith, length-append s t))))

falling_one : (x at : ℕ) → Falls x at → Falling (x ∷ []) at
falling_one x at f zero h = rw (add-zero at) f
falling_one x at f (suc i) h = absurd (omega arith)

falls_leaf : (x n : ℕ) → op_of x ≡ op_leaf → Falls x n
falls_leaf x n e = record { left = λ z. absurd (z e); right = λ z. absurd (z e) }

falls_node : (op left right n : ℕ) → n < node_places → left < n → right < n → Falls (pack_node op left right) n
falls_node op left right n h l r = record {
  left = λ z. rw (left_back op left right (omega arith) (omega arith)) l;
  right = λ z. rw (right_back op left right (omega arith) (omega arith)) r;
}

pair_fall : (op : ℕ) (g h : Guard) (at : ℕ) → at + suc (size g + size h) ≤ node_places
    → Falling (cells g at) at → Falling (cells h (at + size g)) (at + size g)
    → Falling (cells g at ++ (cells h (at + size g) ++ pack_node op (at + below g) (at + size g + below h) ∷ [])) at
pair_fall op g h at l p q =
    let n = at + size g + size h in
    let root = falls_node op (at + below g) (at + size g + below h) n (omega arith) (omega (arith, size_below g)) (omega (arith, size_below h)) in
    falling_append (cells g at) (cells h (at + size g) ++ pack_node op (at + below g) (at + size g + below h) ∷ []) at p
    (rw (length_cells g at)
    (falling_append (cells h (at + size g)) (pack_node op (at + below g) (at + size g + below h) ∷ []) (at + size g) q
    (rw (length_cells h (at + size g)) (falling_one (pack_node op (at + below g) (at + size g + below h)) n root))))

-- every node of a guard
pub cells_fall : (g : Guard) (at : ℕ) → States g → at + size g ≤ node_places → Falling (cells g at) at
unfolding cells
cells_fall (atom a) at t h = falling_one (leaf_number a) at (falls_leaf (leaf_number a) at (leaf_op a t))
cells_fall (neg g) at t h =
    let root = falls_node op_not (at + below g) 0 (at + size g) (omega arith) (omega (arith, size_below g)) (omega (arith, size_below g)) in
    falling_append (cells g at) (pack_node op_not (at + below g) 0 ∷ []) at (cells_fall g at t (omega arith))
    (rw (length_cells g at) (falling_one (pack_node op_not (at + below g) 0) (at + size g) root))
cells_fall (and g h) at t l = pair_fall op_and g h at l (cells_fall g at t.0 (omega arith)) (cells_fall h (at + size g) t.1 (omega arith))
cells_fall (or g h) at t l = pair_fall op_or g h at l (cells_fall g at t.0 (omega arith)) (cells_fall h (at + size g) t.1 (omega arith))

guard_cells_fall : (g : Option Guard) (at : ℕ) → GuardStates g → at + guard_size g ≤ node_places → Falling (guard_cells g at) at
guard_cells_fall none at t h = λ i l. absurd (not-suc-le-zero l)
guard_cells_fall (some g) at t h = cells_fall g at t h

-- node j of statement i, where it lies in the card's array
pub laid_falls : (c : Card) → HeldCard c → (i : ℕ) → i < length c.statements → (d : Statement) (j : ℕ) → j < guard_size (get_or c.statements i d).guard
    → Falls (get_or (laid c).nodes (i * most_nodes + j) 0) (i * most_nodes + j)
laid_falls c v i h d j l =
    let x = get_or c.statements i d in
    let held : Held x = every_at Held c.statements i d h v.each in
    let s = guard_cells x.guard (i * most_nodes) in
    let m : j < length s = rw (length_guard_cells x.guard (i * most_nodes)) l in
    rw (each_stands s j m (nodes_stand c v i h d))
    (guard_cells_fall x.guard (i * most_nodes) held.states (omega (arith, held.nodes, v.few)) j m)
