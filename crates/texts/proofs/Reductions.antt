-- Two valid cards with the same reduced text have the same reduced program: the statements of a valid card have branches, whose weights are
-- weights, and so have all their copies. Assumes nothing.
use Prim.Native.Nat.{ℕ, zero, suc, ◌≤◌}
use mathlib.Core.Path.{◌≡◌}
use mathlib.Core.List.{List, [], ◌∷◌, ◌++◌, map}
use native.Mathlib.Omega.{arith}
use lib.ListN.{length}
use Rattle.card.specs.Limits.{unit}
use Rattle.card.specs.Card.{Mode, nondeterministic, probabilistic, Branch, Statement, Card}
use Rattle.card.specs.Valid.{Every, values_of, ValidBranch, ValidStatement, ValidCard}
use Rattle.meaning.specs.Sums.{upto, flat}
use Rattle.meaning.specs.Reduced.{Outcome, Reduced, copy, copies, reduce}
use Rattle.texts.specs.ReducedText.{program_text}
use Rattle.texts.specs.Copies.{outcome_of}
use Rattle.texts.proofs.Told.{Proper, Whole, program_told}

module _ (n j k values : ℕ) where
  some_left : (bs : List Branch) → 1 ≤ length bs → 1 ≤ length (map (outcome_of n j) bs)
  some_left [] h = absurd (omega arith)
  some_left (b ∷ bs) h = omega arith

  weigh_left : (bs : List Branch) → Every (ValidBranch k values) bs → Every (λ (o : Outcome). o.units ≤ unit) (map (outcome_of n j) bs)
  weigh_left [] v = tt
  weigh_left (b ∷ bs) v = (v.0.units, weigh_left bs v.1)

module _ (n k values : ℕ) (s : Statement) (v : ValidStatement n k values s) where
  proper_copy : (m : ℕ) → Proper (copy n s m)
  unfolding copy
  proper_copy m = record { some = some_left n s.own k values s.branches v.some.0; weigh = weigh_left n s.own k values s.branches v.branches }

  proper_upto : (c : ℕ) (f : ℕ → ℕ) → Every Proper (upto c (λ i. copy n s (f i)))
  proper_upto zero f = tt
  proper_upto (suc c) f = (proper_copy (f 0), proper_upto c (λ i. f (suc i)))

  proper_copies : (mode : Mode) → Every Proper (copies mode n s)
  proper_copies nondeterministic = (proper_copy 0, tt)
  proper_copies probabilistic = proper_upto n (λ i. i)

every_join : (xs ys : List Reduced) → Every Proper xs → Every Proper ys → Every Proper (xs ++ ys)
every_join [] ys p q = q
every_join (x ∷ xs) ys p q = (p.0, every_join xs ys p.1 q)

proper_all : (mode : Mode) (n k values : ℕ) (xs : List Statement) → Every (ValidStatement n k values) xs → Every Proper (flat (map (copies mode n) xs))
proper_all mode n k values [] v = tt
proper_all mode n k values (x ∷ xs) v = every_join (copies mode n x) (flat (map (copies mode n) xs)) (proper_copies n k values x v.0 mode) (proper_all mode n k values xs v.1)

whole : (c : Card) → ValidCard c → Whole (reduce c)
unfolding reduce
whole c v = record { counts = omega arith; proper = proper_all c.mode c.n c.k (values_of c.shared) c.statements v.statements }

pub reduced_once : (c d : Card) → ValidCard c → ValidCard d → program_text (reduce c) ≡ program_text (reduce d) → reduce c ≡ reduce d
reduced_once c d v w e = program_told (reduce c) (reduce d) (whole c v) (whole d w) e
