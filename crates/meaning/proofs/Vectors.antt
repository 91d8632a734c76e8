-- The test `same` on lists of numbers is equality: both ways by induction over the two lists. With the shared number beside them so too. Assumes nothing.
use Prim.Native.Nat.{ℕ}
use mathlib.Core.Path.{◌≡◌, refl, sym, ap₂}
use mathlib.Core.Logic.{◌↔◌}
use mathlib.Core.Bool.{true, true≢false, and-eq-true_iff}
use mathlib.Core.List.{List, [], ◌∷◌}
use lib.Dec.{eqb}
use borrow.Author.Tests.{eqb-true, eq-eqb}
use Rattle.card.specs.Text.{same}
use Rattle.meaning.specs.Position.{Position, position}
use Rattle.meaning.specs.Demand.{same_position}

pub same_self : (l : List ℕ) → same l l ≡ true
same_self [] = refl
same_self (a ∷ l) = rw (eq-eqb a a refl) (same_self l)

pub same_equal : (l m : List ℕ) → same l m ≡ true → l ≡ m
same_equal [] [] e = refl
same_equal [] (b ∷ m) e = absurd (true≢false (sym e))
same_equal (a ∷ l) [] e = absurd (true≢false (sym e))
same_equal (a ∷ l) (b ∷ m) e =
    let h = (and-eq-true_iff (eqb a b) (same l m)).0 e in
    ap₂ (λ (x : ℕ) (t : List ℕ). x ∷ t) (eqb-true a b h.0) (same_equal l m h.1)

pub same_right : (l m : List ℕ) → (same l m ≡ true) ↔ (l ≡ m)
same_right l m = (same_equal l m, λ p. rw p (same_self m))

-- and so is the test of both, the list and the shared number
pub position_right : (u v : Position) → (same_position u v ≡ true) ↔ (u ≡ v)
position_right u v = (
  λ e.
      let h = (and-eq-true_iff (same u.each v.each) (eqb u.shared v.shared)).0 e in
      ap₂ position (same_equal u.each v.each h.0) (eqb-true u.shared v.shared h.1),
  λ p. rw (p, same_self v.each) (eq-eqb v.shared v.shared refl),
)
