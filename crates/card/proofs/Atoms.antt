-- What holds of every atom of a formula, and what a formula over other atoms keeps: clause by clause. Assumes nothing.
use Prim.Native.Nat.{suc}
use mathlib.Core.Path.{◌≡◌, refl, ap}
use Rattle.card.specs.Card.{Formula, atom, neg, and, or}
use Rattle.card.specs.Valid.{size, Level, loose, middle, tight, depth}
use Rattle.card.specs.Formulas.{over, EveryAtom}

pub every_atom : {A : Type 0} {P Q : A → Type 0} → ((a : A) → P a → Q a) → (g : Formula A) → EveryAtom P g → EveryAtom Q g
every_atom f (atom a) h = f a h
every_atom f (neg g) h = every_atom f g h
every_atom f (and g i) h = (every_atom f g h.0, every_atom f i h.1)
every_atom f (or g i) h = (every_atom f g h.0, every_atom f i h.1)

-- as large and as deep
module _ {A B : Type 0} (f : A → B) where
  pub size_over : (g : Formula A) → size (over f g) ≡ size g
  size_over (atom a) = refl
  size_over (neg g) = ap suc (size_over g)
  size_over (and g h) = rw (size_over g, size_over h)
  size_over (or g h) = rw (size_over g, size_over h)

  pub depth_over : (v : Level) (g : Formula A) → depth v (over f g) ≡ depth v g
  depth_over v (atom a) = refl
  depth_over v (neg g) = ap suc (depth_over tight g)
  depth_over v (and g h) = rw (depth_over middle g, depth_over tight h)
  depth_over v (or g h) = rw (depth_over loose g, depth_over middle h)
