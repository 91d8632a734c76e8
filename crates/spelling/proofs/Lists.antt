-- Runs of bytes in front of others, two ways to split the same bytes, and what follows a beginning. Each law goes by the bytes in front.
use Prim.Native.Nat.{ℕ, ◌≤◌, ◌<◌}
use mathlib.Core.Path.{◌≡◌, refl, sym, ap, ap₂}
use mathlib.Core.Bool.{Bool, true, false}
use mathlib.Core.List.{List, [], ◌∷◌, ◌++◌, head-eq_of_cons-eq, tail-eq_of_cons-eq}
use mathlib.Core.Option.{none, some}
use native.Mathlib.Omega.{arith}
use borrow.Author.Tests.{eqb-true, eq-eqb}
use lib.Dec.{eqb}
use lib.ListN.{length, drop}
use Rattle.marks_on_a_card.specs.Bytes.{run, begins, every, after}
use Rattle.marks_on_a_card.proofs.Lists.{cases, and_left, and_right}

module _ (p : ℕ → Bool) where
  pub run_split : (s : List ℕ) → s ≡ run p s ++ drop (length (run p s)) s
  run_split [] = refl
  run_split (b ∷ s) = cases (p b) (λ e. rw e (ap (λ (t : List ℕ). b ∷ t) (run_split s))) (λ e. rw e)

  pub run_on : (b : ℕ) (s : List ℕ) → p b ≡ true → run p (b ∷ s) ≡ b ∷ run p s
  run_on b s e = rw e

  -- bytes in front that pass are part of the run
  pub run_covers : (s r : List ℕ) → every p s ≡ true → length s ≤ length (run p (s ++ r))
  run_covers [] r e = omega arith
  run_covers (b ∷ s) r e = rw (and_left (p b) (every p s) e) (omega (arith, run_covers s r (and_right (p b) (every p s) e)))

  -- and are all of it where the next byte fails
  pub run_front : (s r : List ℕ) → every p s ≡ true → begins p r ≡ false → run p (s ++ r) ≡ s
  run_front [] [] e f = refl
  run_front [] (b ∷ r) e f = rw f
  run_front (b ∷ s) r e f = rw (and_left (p b) (every p s) e, run_front s r (and_right (p b) (every p s) e) f)

  pub run_whole : (s : List ℕ) → every p s ≡ true → run p s ≡ s
  run_whole [] e = refl
  run_whole (b ∷ s) e = rw (and_left (p b) (every p s) e, run_whole s (and_right (p b) (every p s) e))

  pub begins_front : (s r : List ℕ) → every p s ≡ true → 0 < length s → begins p (s ++ r) ≡ true
  begins_front [] r e h = absurd (omega arith)
  begins_front (b ∷ s) r e h = and_left (p b) (every p s) e

pub every_wider : (p q : ℕ → Bool) → ((b : ℕ) → p b ≡ true → q b ≡ true) → (s : List ℕ) → every p s ≡ true → every q s ≡ true
every_wider p q f [] e = refl
every_wider p q f (b ∷ s) e = rw (f b (and_left (p b) (every p s) e), every_wider p q f s (and_right (p b) (every p s) e))

-- two beginnings of the same bytes, as long as each other
pub same_front : (s r t u : List ℕ) → s ++ r ≡ t ++ u → length s ≡ length t → s ≡ t
same_front [] r [] u e h = refl
same_front [] r (b ∷ t) u e h = absurd (omega arith)
same_front (a ∷ s) r [] u e h = absurd (omega arith)
same_front (a ∷ s) r (b ∷ t) u e h = ap₂ ◌∷◌ (head-eq_of_cons-eq e) (same_front s r t u (tail-eq_of_cons-eq e) (omega arith))

pub after_is : (t s r : List ℕ) → after t s ≡ some r → s ≡ t ++ r
after_is [] s r e = cc
after_is (a ∷ t) [] r e = let z : ◌≡◌ {A = ℕ} 0 1 = cc in absurd (omega arith)
after_is (a ∷ t) (b ∷ s) r e = cases (eqb a b)
    (λ q. let f : after t s ≡ some r = rw q at e in ap₂ ◌∷◌ (sym (eqb-true a b q)) (after_is t s r f))
    (λ q. let f : none ≡ some r = rw q at e in let z : ◌≡◌ {A = ℕ} 0 1 = cc in absurd (omega arith))

pub after_front : (t r : List ℕ) → after t (t ++ r) ≡ some r
after_front [] r = refl
after_front (a ∷ t) r = rw (eq-eqb a a refl) (after_front t r)
