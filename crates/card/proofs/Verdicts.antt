-- Results that are refused: two that are equal have one number and one place, and none is taken. Assumes nothing.
use Prim.Native.Nat.{ℕ}
use mathlib.Core.Path.{◌≡◌, ap}
use native.Mathlib.Omega.{arith}
use Rattle.std.specs.Prelude.{Result, Ok, Err}
use Rattle.card.specs.declared.Refusal.{Refusal}
use Rattle.card.specs.Verdict.{refusal_at, Refused, verdict_in, verdict_number, verdict_place}

module _ {A : Type 0} where
  pub refused_number : {r p s q : ℕ} → ◌≡◌ {A = Result A Refusal} (Refused s q) (Refused r p) → s ≡ r
  refused_number e = ap (λ (x : Result A Refusal). verdict_number (verdict_in x)) e

  pub refused_place : {r p s q : ℕ} → ◌≡◌ {A = Result A Refusal} (Refused s q) (Refused r p) → q ≡ p
  refused_place e = ap (λ (x : Result A Refusal). verdict_place (verdict_in x)) e

  pub refusal_is : {x y : Refusal} → ◌≡◌ {A = Result A Refusal} (Err x) (Err y) → x ≡ y
  refusal_is {x} {y} e = λ i. refusal_at (refused_number e i) (refused_place e i)

  pub ok≢refused : {B : Type 0} {a : A} {e : Refusal} → ◌≡◌ {A = Result A Refusal} (Ok a) (Err e) → B
  ok≢refused e = let z : ◌≡◌ {A = ℕ} 0 1 = cc in absurd (omega arith)

  -- two that are taken hold the same
  pub ok_is : {a b : A} → ◌≡◌ {A = Result A Refusal} (Ok a) (Ok b) → a ≡ b
  ok_is {a} e = ap (λ (x : Result A Refusal). held x) e
    where
      held : Result A Refusal → A
      held (Ok x) = x
      held (Err r) = a
