-- A guard's text in the form in which the code puts it: what stands at a node gives its text from its parts' texts, in any style.
-- Assumes nothing.
use Prim.Native.Nat.{ℕ, zero, suc, ◌+◌, ◌-◌, min}
use mathlib.Core.Path.{◌≡◌, refl, sym, ◌∙◌}
use mathlib.Core.Logic.{inl, inr}
use mathlib.Core.Bool.{Bool, true, false}
use mathlib.Core.List.{List, ◌∷◌}
use native.Mathlib.Omega.{arith}
use borrow.Author.Tests.{le-leb, eq-eqb, ne_eqb, eqb-true, eqb-false}
use lib.Dec.{eqb, leb}
use lib.ListN.{get_or}
use Rattle.card.specs.Text.{when◌then◌else◌}
use Rattle.card.specs.Card.{all, any, Leaf}
use Rattle.card.specs.Valid.{middle, needs_and, needs_or}
use Rattle.card.specs.Laid.{sign_number, either, op_leaf, op_not, op_and, op_of, left_of, right_of, leaf_of, guard_at, guard_of}
use Rattle.card.proofs.Laws.{guard_at_leaf, guard_at_not, guard_at_and, guard_at_or, guard_of_none, guard_of_some}
use Rattle.phrases.specs.Phrases.{Text, ◌▸◌}
use Rattle.texts.specs.Shared.{Brackets, needed, always, has_and, has_or, opening, closing, formula_text, formula_or}
use Rattle.texts.specs.Writing.{sign_text}
use Rattle.leaf_text.specs.declared.style.Form.{Form}
use Rattle.leaf_text.specs.declared.style.Form.TheVariants.{Written, Reduced}
use Rattle.leaf_text.specs.Style.{by_form}
use Rattle.guard_text.specs.Levels.{tight_number, level_of}

-- ---- brackets

-- an `&` has brackets of its own under `!` and right of `&`, an `|` also left of `&` and as the whole guard
needs_and_law : (level : ℕ) → needs_and (level_of level) ≡ leb 2 level
needs_and_law zero = refl
needs_and_law (suc zero) = refl
needs_and_law (suc (suc v)) = sym (le-leb 2 (suc (suc v)) (omega arith))

needs_or_law : (level : ℕ) → needs_or (level_of level) ≡ leb 1 level
needs_or_law zero = refl
needs_or_law (suc zero) = refl
needs_or_law (suc (suc v)) = sym (le-leb 1 (suc (suc v)) (omega arith))

-- where all joined nodes have brackets, each has them as where it stands tight
module _ (level : ℕ) where
  has_and_law : (f : Form) → has_and (by_form needed always f) (level_of level) ≡ leb 2 (by_form level tight_number f)
  has_and_law Written = needs_and_law level
  has_and_law Reduced = refl

  has_or_law : (f : Form) → has_or (by_form needed always f) (level_of level) ≡ leb 1 (by_form level tight_number f)
  has_or_law Written = needs_or_law level
  has_or_law Reduced = refl

-- a bracket by its byte
abbrev pub bracket_if : Bool → ℕ → Text
bracket_if b x r = when b then x ∷ r else r

opens : (b : Bool) (r : List ℕ) → bracket_if b 40 r ≡ opening b r
opens true r = refl
opens false r = refl

closes : (b : Bool) (r : List ℕ) → bracket_if b 41 r ≡ closing b r
closes true r = refl
closes false r = refl

-- ---- the operator of node m, at which x stands, where node 0 is read as a leaf

module _ (m x : ℕ) {op : ℕ} (o : op ≡ (when eqb m 0 then op_leaf else op_of x)) (g : op ≡ op_leaf → ⊥) where
  pub joined_above : m ≡ 0 → ⊥
  joined_above z = g (o ∙ rw (eq-eqb m 0 z))

  pub joined_op : op ≡ op_of x
  joined_op = o ∙ rw (ne_eqb m 0 joined_above)

-- ---- and its text

module _ (form : Form) (leaf : Leaf → Text) (v : ℕ) (nodes : List ℕ) (m x : ℕ) (at : x ≡ get_or nodes m 0) where
  abbrev brackets : Brackets
  brackets = by_form needed always form

  abbrev part : ℕ → ℕ → Text
  part level i = formula_text brackets leaf (level_of level) (guard_at nodes i)

  abbrev Here : Text → Type 0
  Here f = (r : List ℕ) → f r ≡ part v m r

  text_first : m ≡ 0 → Here (leaf (leaf_of x))
  unfolding formula_text
  text_first h r = rw (guard_at_leaf nodes m x at (inr h))

  module _ {op : ℕ} (o : op ≡ op_of x) where
    text_leaf : op ≡ op_leaf → Here (leaf (leaf_of x))
    unfolding formula_text
    text_leaf e r = rw (guard_at_leaf nodes m x at (inl (sym o ∙ e)))

  module _ {op : ℕ} (o : op ≡ (when eqb m 0 then op_leaf else op_of x)) where
    pub text_at_leaf : op ≡ op_leaf → Here (leaf (leaf_of x))
    text_at_leaf e = go (eqb m 0) refl
      where
        go : (t : Bool) → eqb m 0 ≡ t → Here (leaf (leaf_of x))
        go true j = text_first (eqb-true m 0 j)
        go false j = let q : op ≡ op_of x = o ∙ rw j in text_leaf q e

  module _ {op : ℕ} (o : op ≡ op_of x) where
    module _ (h : m ≡ 0 → ⊥) {a : ℕ} (l : a ≡ min (left_of x) (m - 1)) where
      pub text_not : op ≡ op_not → Here (λ r. "!" ▸ part 2 a r)
      unfolding formula_text
      text_not e r = rw (guard_at_not nodes m x at h (sym o ∙ e), l)

      -- `&` and `|` alike: the level from which on the node has brackets is its right part's, and the left part's is one below
      module _ {w : ℕ} (k : w ≡ by_form v tight_number form) where
        abbrev joined : ℕ → ℕ → Text
        joined s b r =
            bracket_if (leb (2 - s) w) 40
            (part (2 - s - 1) a (sign_text (either all any s) ▸ part (2 - s) b (bracket_if (leb (2 - s) w) 41 r)))

        module _ {b : ℕ} (g : b ≡ min (right_of x) (m - 1)) where
          text_and : op ≡ op_and → Here (joined 0 b)
          unfolding formula_text
          text_and e r = rw (guard_at_and nodes m x at h (sym o ∙ e), has_and_law v form, k, opens, closes, l, g)

          text_or : (op ≡ op_leaf → ⊥) → (op ≡ op_not → ⊥) → (op ≡ op_and → ⊥) → Here (joined 1 b)
          unfolding formula_text
          text_or c d e r = rw (guard_at_or nodes m x at h (λ z. c (o ∙ z)) (λ z. d (o ∙ z)) (λ z. e (o ∙ z)), has_or_law v form, k, opens, closes, l, g)

          pub text_joined : {s : ℕ} → (op ≡ op_leaf → ⊥) → (op ≡ op_not → ⊥) → s ≡ (when eqb op op_and then sign_number all else sign_number any) → Here (joined s b)
          text_joined {s} c d e = go (eqb op op_and) refl
            where
              go : (t : Bool) → eqb op op_and ≡ t → Here (joined s b)
              go true j = let z : s ≡ 0 = e ∙ rw j in rw z (text_and (eqb-true op op_and j))
              go false j = let z : s ≡ 1 = e ∙ rw j in rw z (text_or c d (eqb-false op op_and j))

-- ---- a statement's guard

module _ (k : Brackets) (leaf : Leaf → Text) (nodes : List ℕ) (from m : ℕ) where
  pub test_none : m ≡ 0 → (r : List ℕ) → r ≡ formula_or k leaf (guard_of nodes from m) r
  test_none e r = rw (guard_of_none nodes from m e)

  pub test_some : (root : ℕ) → (m ≡ 0 → ⊥) → root + 1 ≡ from + m → (r : List ℕ)
      → " & " ▸ formula_text k leaf middle (guard_at nodes root) r ≡ formula_or k leaf (guard_of nodes from m) r
  test_some root h e r = rw (guard_of_some nodes from m root h e)
