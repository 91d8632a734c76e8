-- What a reader that came through has done: each lemma takes one step of a `do` block apart and hands what it found on, so that a
-- proof about a reader has the reader's shape. Assumes nothing.
use Prim.Native.Nat.{ℕ}
use Prim.Native.String.{String}
use mathlib.Core.Path.{◌≡◌, refl, ap, ap₂, ◌∙◌}
use mathlib.Core.Bool.{Bool, true, false, ◌&&◌, false≢true}
use mathlib.Core.List.{List, [], ◌∷◌}
use mathlib.Core.Option.{Option, none, some}
use native.Mathlib.Omega.{arith}
use lib.Dec.{eqb}
use borrow.Author.Tests.{eqb-true, eq-eqb}
use Rattle.card.specs.Text.{bytes, same, when◌then◌else◌}
use Rattle.marks_on_a_card.specs.Marks.{Mark, text, seat, process, number, decimal, outside, placed}
use Rattle.reading.specs.Reader.{Place, State, Result, ok, stop, Reader, bind, took, the, is, given, sign}

-- ---- tests

pub and_true : (a b : Bool) → a && b ≡ true → (a ≡ true) × (b ≡ true)
and_true true b e = (refl, e)
and_true false b e = absurd (false≢true e)

pub none≢some : {A B : Type 0} {a : A} → none ≡ some a → B
none≢some e = let z : ◌≡◌ {A = ℕ} 0 1 = cc in absurd (omega arith)

pub given_true : (b : Bool) (u : Unit {0}) → given b ≡ some u → b ≡ true
given_true true u e = refl
given_true false u e = none≢some e

pub same→eq : (s t : List ℕ) → same s t ≡ true → s ≡ t
same→eq [] [] e = refl
same→eq [] (b ∷ t) e = absurd (false≢true e)
same→eq (a ∷ s) [] e = absurd (false≢true e)
same→eq (a ∷ s) (b ∷ t) e =
    let (p, q) = and_true (eqb a b) (same s t) e in
    ap₂ ◌∷◌ (eqb-true a b p) (same→eq s t q)

pub same_refl : (s : List ℕ) → same s s ≡ true
same_refl [] = refl
same_refl (a ∷ s) = rw (eq-eqb a a refl) (same_refl s)

pub is→eq : (t : String) (m : Mark) → is t m ≡ true → m ≡ text (bytes t)
is→eq t (text s) e = ap text (same→eq s (bytes t) e)
is→eq t (seat i) e = absurd (false≢true e)
is→eq t (process i) e = absurd (false≢true e)
is→eq t (number v) e = absurd (false≢true e)
is→eq t (decimal v n f) e = absurd (false≢true e)
is→eq t outside e = absurd (false≢true e)

-- ---- steps

module _ {A : Type 0} where
  pub stop≢ok : {B : Type 0} {r : ℕ} {p : Place} {a : A} {s : State} → stop r p ≡ ok a s → B
  stop≢ok e = let z : ◌≡◌ {A = ℕ} 0 1 = cc in absurd (omega arith)

  pub ok_value : {a b : A} {s t : State} → ok a s ≡ ok b t → a ≡ b
  ok_value e = cc

  pub ok_state : {a b : A} {s t : State} → ok a s ≡ ok b t → s ≡ t
  ok_state e = cc

module _ {A B : Type 0} where
  pub through : (x : Result A) (f : A → Reader B) (b : B) (s : State) (C : Type 0) → ((a : A) (s₁ : State) → x ≡ ok a s₁ → f a s₁ ≡ ok b s → C)
      → bind x f ≡ ok b s → C
  through (ok a s₁) f b s C k e = k a s₁ refl e
  through (stop r p) f b s C k e = stop≢ok e

-- one of two readers came through
pub chose : {A : Type 0} (b : Bool) (p q : Reader A) (s s₁ : State) (a : A) (C : Type 0) → (b ≡ true → p s ≡ ok a s₁ → C) → (b ≡ false → q s ≡ ok a s₁ → C)
    → (when b then p else q) s ≡ ok a s₁ → C
chose true p q s s₁ a C f g e = f refl e
chose false p q s s₁ a C f g e = g refl e

-- the next mark fitted and is gone
pub the_took : {A : Type 0} (f : Mark → Option A) (s s₁ : State) (a : A) (C : Type 0)
    → ((m : Mark) (p : ℕ) → s.marks ≡ placed m p ∷ s₁.marks → f m ≡ some a → s.nodes ≡ s₁.nodes → C) → the f s ≡ ok a s₁ → C
the_took {A} f s s₁ a C k e = go s.marks refl
  where
    take : (o : Option A) (m : Mark) (p : ℕ) (ms : Place) → s.marks ≡ placed m p ∷ ms → f m ≡ o → took o (placed m p) ms s.nodes ≡ ok a s₁ → C
    take none m p ms q i e = stop≢ok e
    take (some b) m p ms q i e =
        let z = ok_state e in
        k m p (q ∙ ap (λ (x : State). placed m p ∷ x.marks) z) (i ∙ ap some (ok_value e)) (ap (λ (x : State). x.nodes) z)

    go : (l : Place) → s.marks ≡ l → C
    go [] q = stop≢ok (rw q at e)
    go (placed m p ∷ ms) q = take (f m) m p ms q refl (rw q at e)

-- a sign was there and is gone
pub sign_took : (t : String) (s s₁ : State) (u : Unit {0}) (C : Type 0)
    → ((p : ℕ) → s.marks ≡ placed (text (bytes t)) p ∷ s₁.marks → s.nodes ≡ s₁.nodes → C) → sign t s ≡ ok u s₁ → C
sign_took t s s₁ u C k = the_took (λ m. given (is t m)) s s₁ u C λ m p e i n.
    k p (e ∙ ap (λ (x : Mark). placed x p ∷ s₁.marks) (is→eq t m (given_true (is t m) u i))) n
