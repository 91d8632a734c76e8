-- Equivalences joined. Assumes nothing.
use mathlib.Core.Logic.{◌↔◌}

module _ {A B C : Type 0} where
  infixl 5 ◌↔∙◌
  pub ◌↔∙◌ : A ↔ B → B ↔ C → A ↔ C
  f ↔∙ g = (λ a. g.0 (f.0 a), λ c. f.1 (g.1 c))

-- under the same findings
pub under : {W : Type 0} {P Q : W → Type 0} → ((w : W) → P w ↔ Q w) → ((w : W) × P w) ↔ ((w : W) × Q w)
under h = (λ z. (z.0, (h z.0).0 z.1), λ z. (z.0, (h z.0).1 z.1))
