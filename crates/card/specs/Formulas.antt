-- A formula of `!`, `&` and `|` by its atoms: over other atoms, something that all of them are, what each of them has. Assumes nothing.
use Rattle.std.specs.Prelude.{List, ◌++◌}
use Rattle.std.proofs.Math.Option.{Option, none, some}
use Rattle.card.specs.Card.{Formula, atom, neg, and, or}

-- the same formula over other atoms
abbrev pub over : {A B : Type 0} → (A → B) → Formula A → Formula B
over f (atom a) = atom (f a)
over f (neg g) = neg (over f g)
over f (and g h) = and (over f g) (over f h)
over f (or g h) = or (over f g) (over f h)

abbrev pub over_or : {A B : Type 0} → (A → B) → Option (Formula A) → Option (Formula B)
over_or f none = none
over_or f (some g) = some (over f g)

-- of every atom
abbrev pub EveryAtom : {A : Type 0} → (A → Type 0) → Formula A → Type 0
EveryAtom P (atom a) = P a
EveryAtom P (neg g) = EveryAtom P g
EveryAtom P (and g h) = EveryAtom P g × EveryAtom P h
EveryAtom P (or g h) = EveryAtom P g × EveryAtom P h

-- what each atom has, in their order
abbrev pub each_atom : {A B : Type 0} → (A → List B) → Formula A → List B
each_atom f (atom a) = f a
each_atom f (neg g) = each_atom f g
each_atom f (and g h) = each_atom f g ++ each_atom f h
each_atom f (or g h) = each_atom f g ++ each_atom f h
