-- The line of the shared number: there is one only where it has values. Assumes nothing.
use Prim.Native.Nat.{ℕ, zero, suc}
use mathlib.Core.Path.{◌≡◌, refl}
use mathlib.Core.List.{List, [], ◌∷◌}
use Rattle.panel_wording.specs.PanelText.{line, shared_text}
use Rattle.panel_wording.specs.PanelIn.{shown_if}

module _ (shared g : ℕ) (r : List ℕ) where
  pub shared_none : shared ≡ 0 → r ≡ shared_text (shown_if shared g) r
  shared_none e = rw e

  pub shared_some : (shared ≡ 0 → ⊥) → line "shared" (g ∷ []) r ≡ shared_text (shown_if shared g) r
  shared_some h = go shared h
    where
      go : (s : ℕ) → (s ≡ 0 → ⊥) → line "shared" (g ∷ []) r ≡ shared_text (shown_if s g) r
      go zero z = absurd (z refl)
      go (suc most) z = refl
