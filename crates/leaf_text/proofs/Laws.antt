-- A leaf's texts in the form in which the code puts them: literals one after the other, the first byte for byte behind its bracket, and the
-- parts of a node that are read one by one. A test of the shared number is the same in both texts. Assumes nothing.
use Prim.Native.Nat.{ℕ, zero, suc, ◌+◌, ◌-◌, ◌≤◌, ◌<◌}
use mathlib.Core.Path.{◌≡◌, refl, sym, ap, ◌∙◌}
use mathlib.Core.List.{List, ◌∷◌, ◌++◌}
use native.Mathlib.Numerals.{add-one}
use native.Mathlib.Omega.{arith}
use borrow.Author.Tests.{eq-eqb, ne_eqb}
use Rattle.card.specs.Card.{everyone, others, Sign, all, any, Relation, is, isnt}
use Rattle.card.specs.Valid.{first_seat}
use Rattle.card.specs.Laid.{either, kind_part, sign_part, relation_part, state_part, one_kind, shared_kind, group_of, leaf_of}
use Rattle.card.proofs.Packed.{leaf_group, leaf_one, leaf_shared}
use Rattle.meaning.specs.Reduced.{Bound, equal_to, more_than, less_than, counter_of}
use Rattle.table.specs.declared.Bound.{Bound as BoundRow}
use Rattle.table.specs.Bounds.{bound_row, bound_of}
use Rattle.table.proofs.Laws.{of_state}
use Rattle.room.specs.Digits.{digit}
use Rattle.room.proofs.Decimal.{decimal_one}
use Rattle.phrases.specs.Phrases.{Text, ◌▸◌, num, counted}
use Rattle.texts.specs.Shared.{shared_text}
use Rattle.texts.specs.Writing.{sign_text, literal, literals, group_text}
use Rattle.texts.specs.ReducedText.{bound_text, counter_text}

-- ---- literals

-- a bracket and a literal, byte for byte
module _ (relation d i : ℕ) (hd : d < 10) (hi : i < 10) where
  abbrev Opened : Text → Type 0
  Opened f = (r : List ℕ) → f r ≡ "(" ▸ literal (either is isnt relation) d i r

  pub opened_is : relation ≡ 0 → Opened (λ r. 40 ∷ 115 ∷ digit i ∷ 61 ∷ digit d ∷ r)
  opened_is q r = rw (eq-eqb relation 0 q, decimal_one i hi, decimal_one d hd)

  pub opened_isnt : (relation ≡ 0 → ⊥) → Opened (λ r. 40 ∷ 115 ∷ digit i ∷ 33 ∷ 61 ∷ digit d ∷ r)
  opened_isnt q r = rw (ne_eqb relation 0 q, decimal_one i hi, decimal_one d hd)

-- those behind the first
module _ (s : Sign) (q : Relation) (d : ℕ) where
  abbrev pub next_literal : ℕ → Text
  next_literal i r = sign_text s ▸ literal q d (i + 1) r

  pub literals_counted : (i c : ℕ) (r : List ℕ) → counted next_literal i c r ≡ literals s q d i c r
  unfolding counted
  literals_counted i zero r = refl
  literals_counted i (suc c) r = rw (add-one, literals_counted (suc i) c r)

-- ---- a group as its literals, exactly one seat as nothing

first_seat_law : (k : ℕ) → k < 2 → first_seat (either everyone others k) ≡ k + 1
first_seat_law zero h = refl
first_seat_law (suc zero) h = refl
first_seat_law (suc (suc k)) h = absurd (omega arith)

module _ (x n : ℕ) {s q d k first : ℕ} (es : s ≡ sign_part x) (eq : q ≡ relation_part x) (ed : d ≡ state_part x) (ek : k ≡ kind_part x) (h : k < one_kind) (ef : first ≡ k + 1) where
  pub group_text_law : (r : List ℕ)
      → "(" ▸ literal (either is isnt q) d first (literals (either all any s) (either is isnt q) d first (n - first) (")" ▸ r)) ≡ group_text n (leaf_of x) r
  unfolding group_of
  group_text_law r = rw (leaf_group x (rw ek at h), ← es, ← eq, ← ed, ← ek, first_seat_law k h, ef)

pub one_text : (x n : ℕ) {k : ℕ} → k ≡ kind_part x → k ≡ one_kind → (r : List ℕ) → r ≡ group_text n (leaf_of x) r
one_text x n ek e r = rw (leaf_one x (rw ek at e))

-- ---- a leaf as its counter test

bound_text_law : (b : Bound) (r : List ℕ) → (bound_row b).sign ∷ num (bound_row b).number r ≡ bound_text b r
bound_text_law (equal_to m) r = refl
bound_text_law (more_than m) r = refl
bound_text_law (less_than m) r = refl

pub counter_text_law : (n j x : ℕ) {k d : ℕ} {b : BoundRow} → k ≡ kind_part x → k < shared_kind → d ≡ state_part x → d < 10 → b ≡ bound_row (bound_of (counter_of n j (leaf_of x))) → (r : List ℕ)
    → 40 ∷ 110 ∷ 111 ∷ 95 ∷ digit d ∷ b.sign ∷ num b.number (")" ▸ r) ≡ counter_text (counter_of n j (leaf_of x)) r
counter_text_law n j x {d = d} {b} ek h ed hd eb r =
    ap (λ (l : List ℕ). "(no_" ▸ (l ++ (b.sign ∷ num b.number (")" ▸ r)))) (sym (decimal_one d hd))
    ∙ ap (λ (y : BoundRow). "(no_" ▸ num d (y.sign ∷ num y.number (")" ▸ r))) eb
    ∙ rw (ed, of_state n j x (rw ek at h))
    (ap (λ (l : List ℕ). "(no_" ▸ num (state_part x) l) (bound_text_law (bound_of (counter_of n j (leaf_of x))) (")" ▸ r)))

-- ---- a test of the shared number, in either text

module _ (x n : ℕ) {q v k : ℕ} (eq : q ≡ relation_part x) (ev : v ≡ state_part x) (ek : k ≡ kind_part x) (h : shared_kind ≤ k) where
  pub shared_written : (r : List ℕ) → shared_text (either is isnt q) v r ≡ group_text n (leaf_of x) r
  shared_written r = rw (leaf_shared x (rw ek at h), eq, ev)

  pub shared_reduced : (j : ℕ) (r : List ℕ) → shared_text (either is isnt q) v r ≡ counter_text (counter_of n j (leaf_of x)) r
  shared_reduced j r = rw (leaf_shared x (rw ek at h), eq, ev)
