-- Tests made in the order of their places, all with one number: they pass exactly where nothing is wrong, and they refuse exactly at the first
-- place where something is. Assumes nothing.
use Prim.Native.Nat.{ℕ, ◌<◌}
use mathlib.Core.Path.{◌≡◌, refl, sym, ap, ◌∙◌}
use mathlib.Core.Bool.{Bool, true, false, false≢true}
use mathlib.Core.Logic.{◌⊎◌, inl, inr}
use native.Mathlib.Decide.{dec_lt}
use native.Mathlib.Omega.{arith}
use Rattle.entry.specs.Said.{Said, says, refused, ◌>>◌, unless}

-- the first place where something is wrong, and nothing wrong at all
pub record First (W : ℕ → Type 0) (place : ℕ) : Type 0 where
  pub there : W place
  pub none_before : (q : ℕ) → q < place → W q → ⊥

abbrev pub None : (ℕ → Type 0) → Type 0
None W = (q : ℕ) → W q → ⊥

-- what the tests say, beside the places W where something is wrong
pub data InOrder (r : ℕ) (x : Said (Unit {0})) (W : ℕ → Type 0) : Type 0 where
  passed : x ≡ says tt → None W → InOrder r x W
  stopped : (p : ℕ) → x ≡ refused r p → First W p → InOrder r x W

pub in_order_test : (b : Bool) (r p : ℕ) → InOrder r (unless b r p) (λ q. (b ≡ false) × (q ≡ p))
in_order_test true r p = passed refl (λ q h. false≢true (sym h.0))
in_order_test false r p = stopped p refl (record { there = (refl, refl); none_before = λ q l h. omega (arith, h.1) })

module _ {r : ℕ} {U W : ℕ → Type 0} where
  -- tests behind which others stand, at later places
  pub in_order_then : {x y : Said (Unit {0})} → InOrder r x U → InOrder r y W → ((p q : ℕ) → U p → W q → p < q) → InOrder r (x >> y) (λ p. U p ⊎ W p)
  in_order_then {x} {y} (passed e n) (passed f m) later = passed (ap (λ (z : Said (Unit {0})). z >> y) e ∙ f) none
    where
      none : None (λ p. U p ⊎ W p)
      none q (inl v) = n q v
      none q (inr w) = m q w
  in_order_then {x} {y} (passed e n) (stopped p f first) later = stopped p (ap (λ (z : Said (Unit {0})). z >> y) e ∙ f) (record { there = inr first.there; none_before = none })
    where
      none : (q : ℕ) → q < p → U q ⊎ W q → ⊥
      none q l (inl v) = n q v
      none q l (inr w) = first.none_before q l w
  in_order_then {x} {y} (stopped p e first) rest later = stopped p (ap (λ (z : Said (Unit {0})). z >> y) e) (record { there = inl first.there; none_before = none })
    where
      none : (q : ℕ) → q < p → U q ⊎ W q → ⊥
      none q l (inl v) = first.none_before q l v
      none q l (inr w) = omega (arith, later p q first.there w)

  -- the same places in other words
  pub in_order_as : {x : Said (Unit {0})} → InOrder r x U → ((p : ℕ) → U p → W p) → ((p : ℕ) → W p → U p) → InOrder r x W
  in_order_as (passed e n) to of = passed e (λ q w. n q (of q w))
  in_order_as (stopped p e first) to of = stopped p e (record { there = to p first.there; none_before = λ q l w. first.none_before q l (of q w) })

module _ {r : ℕ} {x : Said (Unit {0})} {W : ℕ → Type 0} where
  pub order_passes : InOrder r x W → None W → x ≡ says tt
  order_passes (passed e n) h = e
  order_passes (stopped p e first) h = absurd (h p first.there)

  pub order_refuses : InOrder r x W → (p : ℕ) → First W p → x ≡ refused r p
  order_refuses (passed e n) p f = absurd (n p f.there)
  order_refuses (stopped q e first) p f = e ∙ ap (refused r) (same (dec_lt q p) (dec_lt p q))
    where
      same : Dec (q < p) → Dec (p < q) → q ≡ p
      same (yes l) _ = absurd (f.none_before q l first.there)
      same (no l) (yes m) = absurd (first.none_before p m f.there)
      same (no l) (no m) = omega arith
