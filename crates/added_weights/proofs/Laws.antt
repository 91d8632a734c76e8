-- What a branch makes of the shared number, by the number that is packed for it: 0 for nothing, and else one more than the value. Assumes nothing.
use Prim.Native.Nat.{ℕ, zero, suc, ◌-◌}
use mathlib.Core.Path.{◌≡◌, refl, ap, ◌∙◌}
use native.Mathlib.Omega.{arith}
use Rattle.card.specs.Laid.{set_of}
use Rattle.meaning.specs.Position.{set_to}

pub set_value : (g : ℕ) {set part : ℕ} → set ≡ part → (set ≡ 0 → ⊥) → set - 1 ≡ set_to g (set_of part)
set_value g {set} {part} e s = go set s ∙ ap (λ (p : ℕ). set_to g (set_of p)) e
  where
    go : (p : ℕ) → (p ≡ 0 → ⊥) → p - 1 ≡ set_to g (set_of p)
    go zero z = absurd (z refl)
    go (suc p) z = omega arith
