-- A question that is taken is valid: the limits on what is counted bound its nodes and its depth, and each claim that is kept a state.
-- Assumes nothing.
use Prim.Native.Nat.{ℕ, zero, suc, ◌≤◌, ◌<◌}
use mathlib.Core.Path.{◌≡◌, refl}
use mathlib.Core.Bool.{Bool, true, false≢true}
use mathlib.Core.List.{List, [], ◌∷◌}
use native.Mathlib.Omega.{arith}
use Rattle.card.specs.Limits.{top_state, most_shared, most_nodes, most_depth}
use Rattle.card.specs.Card.{Formula, atom, neg, and, or}
use Rattle.card.specs.Formulas.{EveryAtom, over}
use Rattle.card.specs.Valid.{size, loose, Every}
use Rattle.card.proofs.Atoms.{size_over, depth_over}
use Rattle.card.proofs.Packed.{HeldLeaf}
use Rattle.card.proofs.Held.{States}
use Rattle.late.specs.Values.{shares, most_of}
use Rattle.reading.specs.Reader.{Place}
use Rattle.reading.specs.Group.{Literal}
use Rattle.grammar.specs.Counted.{Within}
use Rattle.grammar.proofs.Fair.{every_append, Fits, formula_fits}
use Rattle.entry.specs.Said.{says}
use Rattle.asking.specs.Question.{Item, a_group, exactly_one, a_test, ItemSaid, of_group, of_terms, of_test, QuestionSaid, asks, counted_question}
use Rattle.asking.specs.Meant.{Atom, of_all, one_in, shared_at, Question, ValidAtom, ValidQuestion, leaf_for}
use Rattle.asking.specs.Asking.{KeptIn, first_d, claims_of, claims, literal_d, atom_in, question_in, question_of, QuestionAccepted}
use Rattle.asking.proofs.Answers.{accepted}

-- the shared number is tested only where there is one
abbrev Fair : Bool → Item → Type 0
Fair shared (a_group g) = Unit {0}
Fair shared (exactly_one p ts) = Unit {0}
Fair shared (a_test x) = shared ≡ true

item_fair : {shared : Bool} (p ms r : Place) (x : Item) → ItemSaid shared p ms x r → Fair shared x
item_fair p ms r _ (of_group g) = tt
item_fair p ms r _ (of_terms d b o) = tt
item_fair p ms r _ (of_test d) = refl

said_fits : {shared : Bool} {ms : Place} {g : Formula Item} (d : QuestionSaid shared ms g) → Every Within (counted_question ms g d) → Fits (Fair shared) loose most_depth most_nodes g
said_fits {shared} (asks d) w = formula_fits (Fair shared) item_fair d 0 0 w

some_value : (values v : ℕ) → shares values ≡ true → v ≤ most_of values → v < values
some_value zero v e h = absurd (false≢true e)
some_value (suc m) v e h = omega arith

module _ (n k values : ℕ) where
  first_small : (ls : List Literal) → Every (KeptIn n) (first_d k ls) → literal_d ls ≤ k
  first_small [] w = omega arith
  first_small (l ∷ ls) w = w.0

  item_valid : (x : Item) → Fair (shares values) x → Every (KeptIn n) (claims_of k (most_of values) x) → ValidAtom k values (atom_in x)
  item_valid (a_group g) f w = first_small g.literals w.1
  item_valid (exactly_one p []) f w = omega arith
  item_valid (exactly_one p (t ∷ ts)) f w = first_small t w.1
  item_valid (a_test x) f w = some_value values x.value.value f w.0

  all_valid : (g : Formula Item) → EveryAtom (Fair (shares values)) g → Every (KeptIn n) (claims k (most_of values) g) → EveryAtom (ValidAtom k values) (question_in g)
  all_valid (atom x) f w = item_valid x f w
  all_valid (neg g) f w = all_valid g f w
  all_valid (and g h) f w = let (u, v) = every_append (KeptIn n) (claims k (most_of values) g) (claims k (most_of values) h) w in (all_valid g f.0 u, all_valid h f.1 v)
  all_valid (or g h) f w = let (u, v) = every_append (KeptIn n) (claims k (most_of values) g) (claims k (most_of values) h) w in (all_valid g f.0 u, all_valid h f.1 v)

  accepted_valid : (s : List ℕ) (q : Question) → QuestionAccepted n k values s q → ValidQuestion k values q
  accepted_valid s q h =
      let g = h.shaped.shape in
      let f = said_fits h.shaped.said h.shaped.within in
      rw h.question (record {
        atoms = all_valid g f.fair h.kept;
        deep = rw (depth_over atom_in loose g) f.deep;
        large = rw (size_over atom_in g) f.large;
      })

pub taken_valid : (n k values : ℕ) (s : List ℕ) (q : Question) → question_of n k values s ≡ says q → ValidQuestion k values q
taken_valid n k values s q e = accepted_valid n k values s q ((accepted n k values s q).0 e)

-- ---- and so its leaves and nodes have room where a card's have

module _ (k values : ℕ) (top : k ≤ top_state) (most : values ≤ most_shared) where
  held_leaf : (a : Atom) → ValidAtom k values a → HeldLeaf (leaf_for a)
  held_leaf (of_all s q d) h = omega arith
  held_leaf (one_in d) h = omega arith
  held_leaf (shared_at q v) h = omega arith

  every_leaf : (q : Question) → EveryAtom (ValidAtom k values) q → EveryAtom HeldLeaf (over leaf_for q)
  every_leaf (atom a) h = held_leaf a h
  every_leaf (neg g) h = every_leaf g h
  every_leaf (and g i) h = (every_leaf g h.0, every_leaf i h.1)
  every_leaf (or g i) h = (every_leaf g h.0, every_leaf i h.1)

  pub valid_laid : (q : Question) → ValidQuestion k values q → States (over leaf_for q) × (size (over leaf_for q) ≤ most_nodes)
  valid_laid q v = (every_leaf q v.atoms, rw (size_over leaf_for q) v.large)
