-- Tests with one number and one place between them: they pass exactly where all hold. Assumes nothing.
use Prim.Native.Nat.{ℕ}
use mathlib.Core.Path.{◌≡◌, refl, sym, ap, ◌∙◌}
use mathlib.Core.Bool.{Bool, true, false, false≢true}
use native.Mathlib.Omega.{arith}
use Rattle.entry.specs.Said.{Said, says, refused, ◌>>◌, unless}
use Rattle.entry.specs.Numbers.{only, Among}
use Rattle.entry.proofs.Stages.{says≢refused, same_number, in_span}

pub data OnePlace (r place : ℕ) (x : Said (Unit {0})) (P : Type 0) : Type 0 where
  holds : x ≡ says tt → P → OnePlace r place x P
  fails : x ≡ refused r place → (P → ⊥) → OnePlace r place x P

pub one_test : (b : Bool) (r place : ℕ) → OnePlace r place (unless b r place) (b ≡ true)
one_test true r place = holds refl refl
one_test false r place = fails refl false≢true

module _ {r place : ℕ} {P Q : Type 0} where
  pub one_then : {x y : Said (Unit {0})} → OnePlace r place x P → OnePlace r place y Q → OnePlace r place (x >> y) (P × Q)
  one_then {x} {y} (holds e p) (holds f q) = holds (ap (λ (z : Said (Unit {0})). z >> y) e ∙ f) (p, q)
  one_then {x} {y} (holds e p) (fails f n) = fails (ap (λ (z : Said (Unit {0})). z >> y) e ∙ f) (λ h. n h.1)
  one_then {x} {y} (fails e n) rest = fails (ap (λ (z : Said (Unit {0})). z >> y) e) (λ h. n h.0)

  pub one_as : {x : Said (Unit {0})} → OnePlace r place x P → (P → Q) → (Q → P) → OnePlace r place x Q
  one_as (holds e p) to of = holds e (to p)
  one_as (fails e n) to of = fails e (λ q. n (of q))

module _ {r place : ℕ} {x : Said (Unit {0})} {P : Type 0} where
  pub one_passes : OnePlace r place x P → P → x ≡ says tt
  one_passes (holds e p) h = e
  one_passes (fails e n) h = absurd (n h)

  pub one_refuses : OnePlace r place x P → (P → ⊥) → x ≡ refused r place
  one_refuses (holds e p) h = absurd (h p)
  one_refuses (fails e n) h = e

  pub one_number : OnePlace r place x P → Among (only r) x
  one_number (holds e p) = record { number = λ s q h. says≢refused (sym e ∙ h) }
  one_number (fails e n) = record { number = λ s q h. rw (← same_number (sym e ∙ h), in_span r r r (omega arith) (omega arith)) }
