-- The shared number's texts in the form in which the code puts them: by how many values it has, and by a relation's number. Assumes nothing.
use Prim.Native.Nat.{ℕ, zero, suc, ◌-◌}
use mathlib.Core.Path.{◌≡◌, refl}
use mathlib.Core.Bool.{Bool, true, false}
use mathlib.Core.List.{List, ◌++◌}
use native.Mathlib.Omega.{arith}
use lib.Dec.{eqb}
use Rattle.card.specs.Text.{bytes, when◌then◌else◌}
use Rattle.card.specs.Card.{is, isnt}
use Rattle.card.specs.Laid.{either, shared_of}
use Rattle.phrases.specs.Phrases.{◌▸◌, num}
use Rattle.texts.specs.Shared.{declaration, shared_text}

pub declaration_none : (values initial : ℕ) → values ≡ 0 → (r : List ℕ) → r ≡ declaration (shared_of values initial) r
declaration_none values initial e r = rw e

pub declaration_some : (values initial : ℕ) → (values ≡ 0 → ⊥) → (r : List ℕ)
    → "\nglobal g : [0.." ▸ num (values - 1) ("] init " ▸ num initial (";" ▸ r)) ≡ declaration (shared_of values initial) r
declaration_some zero initial h r = absurd (h refl)
declaration_some (suc most) initial h r = let e : suc most - 1 ≡ most = omega arith in rw e

pub shared_text_law : (relation value : ℕ) (r : List ℕ) → either (bytes "(g=") (bytes "(g!=") relation ++ num value (")" ▸ r) ≡ shared_text (either is isnt relation) value r
shared_text_law relation value r = go (eqb relation 0)
  where
    go : (t : Bool) → (when t then bytes "(g=" else bytes "(g!=") ++ num value (")" ▸ r) ≡ shared_text (when t then is else isnt) value r
    go true = refl
    go false = refl
