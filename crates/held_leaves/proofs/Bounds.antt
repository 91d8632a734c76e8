-- A count held against a bound of the table, by the bound's byte. Assumes nothing.
use Prim.Native.Nat.{ℕ, ◌≤◌, ◌<◌}
use mathlib.Core.Path.{◌≡◌, refl, sym, ap, ◌∙◌}
use mathlib.Core.Bool.{not}
use borrow.Author.Tests.{ne_eqb}
use native.Mathlib.Omega.{arith}
use lib.Dec.{eqb, ltb}
use Rattle.card.specs.Laid.{either, kind_part, relation_part, state_part, leaf_of, shared_kind}
use Rattle.card.specs.Card.{is, isnt}
use Rattle.card.proofs.Packed.{leaf_shared}
use Rattle.table.proofs.Laws.{of_state}
use Rattle.meaning.specs.Position.{Position}
use Rattle.meaning.specs.Seats.{literal}
use Rattle.meaning.specs.Reduced.{Bound, equal_to, more_than, less_than, counter_of, no_of, meets, passes}
use Rattle.table.specs.declared.Bound.{Bound as BoundRow}
use Rattle.table.specs.Bounds.{bound_row, bound_of}

-- a count held against a bound, by the bound's byte
held_equal : (b : Bound) (a : ℕ) → (bound_row b).sign ≡ 61 → eqb a (bound_row b).number ≡ meets b a
held_equal (equal_to m) a e = refl
held_equal (more_than m) a e = absurd (omega arith)
held_equal (less_than m) a e = absurd (omega arith)

held_more : (b : Bound) (a : ℕ) → (bound_row b).sign ≡ 62 → ltb (bound_row b).number a ≡ meets b a
held_more (equal_to m) a e = absurd (omega arith)
held_more (more_than m) a e = refl
held_more (less_than m) a e = absurd (omega arith)

held_less : (b : Bound) (a : ℕ) → ((bound_row b).sign ≡ 61 → ⊥) → ((bound_row b).sign ≡ 62 → ⊥) → ltb a (bound_row b).number ≡ meets b a
held_less (equal_to m) a e f = absurd (e refl)
held_less (more_than m) a e f = absurd (f refl)
held_less (less_than m) a e f = refl

-- the count of the state of the leaf that is packed in x, held against that leaf's bound
module _ (v : Position) (n j x : ℕ) {d a : ℕ} {b : BoundRow} (counts : kind_part x < shared_kind)
    (ed : d ≡ state_part x) (ea : a ≡ no_of v.each d) (eb : b ≡ bound_row (bound_of (counter_of n j (leaf_of x)))) where
  pub passes_equal : b.sign ≡ 61 → eqb a b.number ≡ passes v (counter_of n j (leaf_of x))
  passes_equal e = rw (eb, ea, ed, of_state n j x counts) (held_equal (bound_of (counter_of n j (leaf_of x))) (no_of v.each (state_part x)) (ap (λ (y : BoundRow). y.sign) (sym eb) ∙ e))

  pub passes_more : b.sign ≡ 62 → ltb b.number a ≡ passes v (counter_of n j (leaf_of x))
  passes_more e = rw (eb, ea, ed, of_state n j x counts) (held_more (bound_of (counter_of n j (leaf_of x))) (no_of v.each (state_part x)) (ap (λ (y : BoundRow). y.sign) (sym eb) ∙ e))

  pub passes_less : (b.sign ≡ 61 → ⊥) → (b.sign ≡ 62 → ⊥) → ltb a b.number ≡ passes v (counter_of n j (leaf_of x))
  passes_less e f =
      rw (eb, ea, ed, of_state n j x counts)
      (held_less (bound_of (counter_of n j (leaf_of x))) (no_of v.each (state_part x)) (λ h. e (ap (λ (y : BoundRow). y.sign) eb ∙ h)) (λ h. f (ap (λ (y : BoundRow). y.sign) eb ∙ h)))

-- a test of the shared number holds as it stands
pub passes_shared : (v : Position) (n j x : ℕ) → shared_kind ≤ kind_part x → literal (either is isnt (relation_part x)) (eqb v.shared (state_part x)) ≡ passes v (counter_of n j (leaf_of x))
passes_shared v n j x h = rw (leaf_shared x h)

module _ (g x : ℕ) {v q : ℕ} (ev : v ≡ state_part x) (eq : q ≡ relation_part x) where
  pub shared_is : q ≡ 0 → eqb g v ≡ literal (either is isnt (relation_part x)) (eqb g (state_part x))
  shared_is h = rw (← eq, h, ev)

  pub shared_isnt : (q ≡ 0 → ⊥) → not (eqb g v) ≡ literal (either is isnt (relation_part x)) (eqb g (state_part x))
  shared_isnt h = rw (← eq, ne_eqb q 0 h, ev)
