-- A node more: where a guard's parts stand in the array, its root behind them makes the whole guard's nodes, and the judgements of
-- its parts, one after the other, are the guard's. A refusal goes on unchanged. Assumes nothing.
use Prim.Native.Nat.{ℕ, suc, ◌+◌, ◌-◌, ◌≤◌, ◌<◌, min}
use mathlib.Core.Path.{◌≡◌, refl, sym, ap, ◌∙◌}
use mathlib.Core.Bool.{Bool, true, false}
use mathlib.Core.List.{List}
use native.Mathlib.Omega.{arith}
use lib.ListN.{length, set}
use Rattle.card.specs.Limits.{node_places}
use Rattle.card.specs.Card.{Formula, neg, and, or}
use Rattle.card.specs.Valid.{size}
use Rattle.card.specs.Laid.{op_not, op_and, op_or, pack_node, below, cells}
use Rattle.card.specs.Stored.{stored}
use Rattle.card.proofs.Atoms.{size_over}
use Rattle.card.proofs.Packed.{packed_node}
use Rattle.card.proofs.Storing.{size_below, stored_not, stored_and, stored_or}
use Rattle.reading.specs.Reader.{State, Result, ok, stop, Reader, bind}
use Rattle.late.specs.Late.{Late}
use Rattle.std.specs.Prelude.{Ok, Err}
use Rattle.card.specs.declared.Refusal.{Refusal}
use Rattle.late.specs.declared.state.State.{State as Carried}
use Rattle.late.specs.State.{left_in, free_in, late_in, After, after}
use Rattle.items.specs.Language.{Language, leaves_of, judged_of}
use Rattle.items.specs.KeptItems.{Ready, spending, grown}
use Rattle.items.specs.Items.{operator_of}
use Rattle.items.specs.GuardRead.{Read, GuardRead}
use Rattle.items.specs.Pieces.{join_of, then_not, Onward}
use Rattle.items.proofs.Opening.{read_as}

set_same : {a b : List ℕ} {i j v w : ℕ} → a ≡ b → i ≡ j → v ≡ w → set a i v ≡ set b j w
set_same e f h = rw (e, f, h)

-- one node fewer is left
pub spending_ready : (state : Carried) → Ready state → (left_in state ≡ 0 → ⊥) → Ready (spending state)
spending_ready state ready some = record { fits = omega (arith, ready.fits); most = omega (arith, ready.most) }

module _ (L : Language) where
  -- what the items are among the nodes changes no numbers of nodes
  size_by : (g : Formula L.Item) → size (leaves_of L g) ≡ size g
  size_by = size_over L.leaf

  -- ---- refusals

  -- where a guard was not read the whole is not, whatever stands in the array
  pub goes_wrong : (s : List ℕ) (k : ℕ) (was mid : List ℕ) (used : ℕ) (before : Late) (was2 is : List ℕ) (used2 : ℕ) (before2 : Late) (st : Carried) (e : Refusal)
      (f : Formula L.Item → Reader (Formula L.Item)) (x : Result (Formula L.Item)) → GuardRead L s k was mid used before x (after st (Err e))
      → GuardRead L s k was2 is used2 before2 (bind x f) (after st (Err e))
  goes_wrong s k was mid used before was2 is used2 before2 st e f (ok h b) d = absurd d.rest
  goes_wrong s k was mid used before was2 is used2 before2 st e f (stop r p) d = record { refused = d.refused }

  -- a guard that was read
  pub went_well : {C : Type 0} (s : List ℕ) (k : ℕ) (was mid : List ℕ) (used : ℕ) (before : Late) (st : Carried) (i : ℕ) (x : Result (Formula L.Item))
      → GuardRead L s k was mid used before x (after st (Ok i)) → ((h : Formula L.Item) (b : State) → x ≡ ok h b → Read L s k was mid used before h b (after st (Ok i)) → C) → C
  went_well s k was mid used before st i (ok h b) d c = c h b refl d
  went_well s k was mid used before st i (stop n p) d c = let e = d.refused in absurd cc

  -- ---- nodes

  -- a root in numbers, as the laid guard has it; and the first place behind it
  root_by : (used free : ℕ) (g : Formula L.Item) → free ≡ used + size g → free - 1 ≡ used + below (leaves_of L g)
  root_by used free g e = omega (arith, size_below (leaves_of L g), size_by g)

  next_by : (used free : ℕ) (g : Formula L.Item) → free ≡ used + size g → free ≡ used + size (leaves_of L g)
  next_by used free g e = omega (arith, size_by g)

  module _ (s : List ℕ) (k : ℕ) (was mid : List ℕ) (used : ℕ) (before : Late) (g : After) where
    negated : (v : ℕ) (f : Formula L.Item) (b : State) → free_in g.state < node_places
        → v ≡ pack_node (min op_not op_or) (min (free_in g.state - 1) (node_places - 1)) (min 0 (node_places - 1)) → Read L s k was mid used before f b g
        → Read L s k was (set mid (free_in g.state) v) used before (neg f) b (after (grown g.state) g.next)
    negated v f b l e d = record {
      rest = d.rest;
      free = omega (arith, d.free);
      left = d.left;
      late = d.late;
      nodes =
          set_same d.nodes (next_by used (free_in g.state) f d.free)
          (e ∙ packed_node op_not (free_in g.state - 1) 0 (omega arith) (omega arith) (omega arith) ∙ ap (λ r. pack_node op_not r 0) (root_by used (free_in g.state) f d.free))
          ∙ sym (stored_not was used (leaves_of L f));
    }

    module _ (now : List ℕ) (h : After) (f i : Formula L.Item) (b c : State) (d : Read L s k was mid used before f b g) (n : Read L s k mid now (free_in g.state) (late_in g.state) i c h) where
      both_late : judged_of L k (length s) i (late_in g.state) ≡ judged_of L k (length s) i (judged_of L k (length s) f before)
      both_late = ap (judged_of L k (length s) i) d.late

      both_by : free_in h.state ≡ used + size (leaves_of L f) + size (leaves_of L i)
      both_by = omega (arith, next_by used (free_in g.state) f d.free, next_by (free_in g.state) (free_in h.state) i n.free)

      both_now : now ≡ stored (stored was used (cells (leaves_of L f) used)) (used + size (leaves_of L f)) (cells (leaves_of L i) (used + size (leaves_of L f)))
      both_now =
          n.nodes
          ∙ ap (λ at. stored mid at (cells (leaves_of L i) at)) (next_by used (free_in g.state) f d.free)
          ∙ ap (λ a. stored a (used + size (leaves_of L f)) (cells (leaves_of L i) (used + size (leaves_of L f)))) d.nodes

      packed : (op v : ℕ) → op ≤ op_or → free_in g.state ≤ node_places → free_in h.state ≤ node_places
          → v ≡ pack_node (min op op_or) (min (free_in g.state - 1) (node_places - 1)) (min (free_in h.state - 1) (node_places - 1))
          → v ≡ pack_node op (used + below (leaves_of L f)) (used + size (leaves_of L f) + below (leaves_of L i))
      packed op v l gl hl e =
          e ∙ packed_node op (free_in g.state - 1) (free_in h.state - 1) l (omega arith) (omega arith)
          ∙ ap (λ r. pack_node op r (free_in h.state - 1)) (root_by used (free_in g.state) f d.free)
          ∙ ap (pack_node op (used + below (leaves_of L f))) (root_by (free_in g.state) (free_in h.state) i n.free ∙ ap (λ at. at + below (leaves_of L i)) (next_by used (free_in g.state) f d.free))

      grows : (j : Formula L.Item) (v : ℕ) → size j ≡ suc (size f + size i) → judged_of L k (length s) i (judged_of L k (length s) f before) ≡ judged_of L k (length s) j before
          → set now (free_in h.state) v ≡ stored was used (cells (leaves_of L j) used)
          → Read L s k was (set now (free_in h.state) v) used before j c (after (grown h.state) h.next)
      grows j v e judged nodes = record {
        rest = n.rest;
        free = omega (arith, d.free, n.free, e);
        left = n.left;
        late = n.late ∙ both_late ∙ judged;
        nodes = nodes;
      }

      pub joined : (a : Bool) (v : ℕ) → free_in g.state ≤ node_places → free_in h.state ≤ node_places
          → v ≡ pack_node (min (operator_of a) op_or) (min (free_in g.state - 1) (node_places - 1)) (min (free_in h.state - 1) (node_places - 1))
          → Read L s k was (set now (free_in h.state) v) used before (join_of a f i) c (after (grown h.state) h.next)
      joined false v gl hl e = grows (and f i) v refl refl (set_same both_now both_by (packed op_and v (omega arith) gl hl e) ∙ sym (stored_and was used (leaves_of L f) (leaves_of L i)))
      joined true v gl hl e = grows (or f i) v refl refl (set_same both_now both_by (packed op_or v (omega arith) gl hl e) ∙ sym (stored_or was used (leaves_of L f) (leaves_of L i)))

  -- ---- what the code does with them

  pub not_well : (mid : List ℕ) (st : Carried) (i v : ℕ) → free_in st < node_places → v ≡ pack_node (min op_not op_or) (min (free_in st - 1) (node_places - 1)) (min 0 (node_places - 1))
      → (s : List ℕ) (k : ℕ) → Onward L s k mid (set mid (free_in st) v) (after st (Ok i)) then_not (after (grown st) (Ok i))
  not_well mid st i v l pack s k was used before x e =
      went_well s k was mid used before st i x e
      (λ h b i₁ d. read_as L s k was (set mid (free_in st) v) used before (after (grown st) (Ok i)) (ap (λ y. bind y then_not) i₁)
      (negated s k was mid used before (after st (Ok i)) v h b l pack d))

  pub goes_on_wrong : (mid : List ℕ) (st : Carried) (e : Refusal) (f : Formula L.Item → Reader (Formula L.Item)) (s : List ℕ) (k : ℕ) → Onward L s k mid mid (after st (Err e)) f (after st (Err e))
  goes_on_wrong mid st e f s k was used before x d = goes_wrong s k was mid used before was mid used before st e f x d
