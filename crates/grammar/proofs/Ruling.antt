-- A judgement is found broken exactly when its rule is not kept, and with the number due to it. Assumes nothing.
use Prim.Native.Nat.{ℕ}
use mathlib.Core.Path.{◌≡◌, refl, sym, ap, ◌∙◌}
use mathlib.Core.Bool.{Bool, true, false, ◌&&◌, false≢true}
use mathlib.Core.Option.{Option, none, some}
use native.Mathlib.Omega.{arith}
use lib.Dec.{eqb, leb}
use borrow.Author.Tests.{leb-true, le-leb, eqb-true, eq-eqb}
use Rattle.card.specs.Limits.{unit}
use Rattle.card.specs.Refusals.{above_top, not_due, wrong_weight, decimal_weight}
use Rattle.card.specs.Text.{when◌then◌else◌}
use Rattle.card.specs.Weight.{Weight, Worth, units_of, allowed, weight_refusal}
use Rattle.card.proofs.Laws.{units_worth}
use Rattle.reading.specs.Guard.{is_some}
use Rattle.reading.specs.Judgements.{symmetric, Judgement, state, word, one_group, weight, sum, total_units, unless, broken}
use Rattle.grammar.specs.Rules.{Kept, Breaks, above, other, uneven, worthless, retired, unequal}
use Rattle.reading.proofs.Through.{and_true}
use Rattle.grammar.proofs.Symmetry.{symmetric_is, is_symmetric}

-- ---- weights

weight_worth : (w : Weight) → is_some (units_of w) ≡ true → (u : ℕ) × Worth w u
weight_worth w e = go (units_of w) refl e
  where
    go : (o : Option ℕ) → units_of w ≡ o → is_some o ≡ true → (u : ℕ) × Worth w u
    go none q z = absurd (false≢true z)
    go (some u) q z = (u, (units_worth w u).0 q)

worth_weight : (w : Weight) (u : ℕ) → Worth w u → is_some (units_of w) ≡ true
worth_weight w u k = ap is_some ((units_worth w u).1 k)

-- ---- each judgement

-- the refusal due to it
abbrev pub refusal_of : Judgement → ℕ
refusal_of (state most v p) = above_top
refusal_of (word due was p) = not_due
refusal_of (one_group g) = not_due
refusal_of (weight decimals w p) = weight_refusal decimals w
refusal_of (sum ws p) = wrong_weight

pub breaks : (n : ℕ) (j : Judgement) → (Kept n j → ⊥) → Breaks n (refusal_of j) j
breaks n (state most v p) h = above {most = most} {v = v} (omega arith)
breaks n (word due was p) h = other h
breaks n (one_group g) h = uneven h
breaks n (weight decimals w p) h = go (allowed decimals w) refl
  where
    go : (b : Bool) → allowed decimals w ≡ b → Breaks n (when b then wrong_weight else decimal_weight) (weight decimals w p)
    go true e = worthless e (λ u x. h (e, (u, x)))
    go false e = retired e
breaks n (sum ws p) h = unequal h

-- by whether a weight's form may stand there
abbrev by_form : Bool → ℕ
by_form b = when b then wrong_weight else decimal_weight

true≢ : {b : Bool} → b ≡ false → b ≡ true → ⊥
true≢ e h = false≢true (sym e ∙ h)

pub broken_not_kept : (n r : ℕ) (j : Judgement) → Breaks n r j → (refusal_of j ≡ r) × (Kept n j → ⊥)
broken_not_kept n r j (above h) = (refl, λ l. omega arith)
broken_not_kept n r j (other h) = (refl, h)
broken_not_kept n r j (uneven h) = (refl, h)
broken_not_kept n r j (worthless e h) = (ap by_form e, λ (_, (u, x)). h u x)
broken_not_kept n r j (retired e) = (ap by_form e, λ (a, _). true≢ e a)
broken_not_kept n r j (unequal h) = (refl, h)

-- not broken and kept; or broken, and not kept
pub data Ruled (n : ℕ) (j : Judgement) : Type 0 where
  kept : broken n j ≡ none → Kept n j → Ruled n j
  failed : broken n j ≡ some (refusal_of j) → (Kept n j → ⊥) → Ruled n j

by_test : (n : ℕ) (j : Judgement) (b : Bool) → broken n j ≡ unless b (refusal_of j) → (b ≡ true → Kept n j) → (b ≡ false → Kept n j → ⊥) → Ruled n j
by_test n j true e f g = kept e (f refl)
by_test n j false e f g = failed e (g refl)

pub ruled : (n : ℕ) (j : Judgement) → Ruled n j
ruled n (state most v p) = by_test n (state most v p) (leb v most) refl (leb-true v most) (λ e h. true≢ e (le-leb v most h))
ruled n (word due was p) = by_test n (word due was p) (eqb was due) refl (eqb-true was due) (λ e h. true≢ e (eq-eqb was due h))
ruled n (one_group g) = by_test n (one_group g) (symmetric n g.literals) refl (symmetric_is n g.literals) (λ e h. true≢ e (is_symmetric n g.literals h))
ruled n (weight decimals w p) = by_test n (weight decimals w p) (allowed decimals w && is_some (units_of w)) refl
    (λ e. let t = and_true (allowed decimals w) (is_some (units_of w)) e in (t.0, weight_worth w t.1))
    (λ e (a, (u, h)). true≢ e (rw (a, worth_weight w u h)))
ruled n (sum ws p) = by_test n (sum ws p) (eqb (total_units ws) unit) refl (eqb-true (total_units ws) unit) (λ e h. true≢ e (eq-eqb (total_units ws) unit h))
