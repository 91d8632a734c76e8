-- Places rise along the marks of a card: the place of a mark is what is left of the card's length, and less is left at each further mark.
-- And two ways to split the marks of a card are the same, or one comes first. Assumes nothing.
use Prim.Native.Nat.{ℕ, zero, suc, ◌-◌, ◌≤◌, ◌<◌}
use mathlib.Core.Path.{◌≡◌, refl, sym, ap₂}
use mathlib.Core.List.{List, [], ◌∷◌, ◌++◌, head-eq_of_cons-eq, tail-eq_of_cons-eq}
use native.Mathlib.Omega.{arith}
use lib.ListN.{length}
use Rattle.marks_on_a_card.specs.Marks.{Placed, placed, Start, blank, mark, start_at, emit, marks, marks_of, place_of}

-- from a on, each behind the one before it, and before e
abbrev pub Rises : ℕ → ℕ → List Placed → Type 0
Rises a e [] = a ≤ e
Rises a e (placed m p ∷ ms) = (a ≤ p) × (p < e) × Rises (suc p) e ms

pub rises_from : (a b e : ℕ) (ms : List Placed) → a ≤ b → Rises b e ms → Rises a e ms
rises_from a b e [] h r = omega arith
rises_from a b e (placed m p ∷ ms) h r = (omega (arith, r.0), r.1, r.2)

start_rises : (e p a : ℕ) (x : Start) (k : ℕ → List Placed) → p < a → p < e → suc p ≡ a → ((more : ℕ) → Rises a e (k more)) → Rises p e (emit p x k)
start_rises e p a (blank more) k h l q r = rises_from p a e (k more) (omega arith) (r more)
start_rises e p a (mark m more) k h l q r = (omega arith, l, rw q (r more))

rise : (e skip : ℕ) (s : List ℕ) → length s ≤ e → Rises (e - length s) e (marks e skip s)
rise e skip [] h = omega arith
rise e zero (b ∷ s) h =
    start_rises e (e - length (b ∷ s)) (e - length s) (start_at b s) (λ more. marks e more s) (omega arith) (omega arith) (omega arith)
    (λ more. rise e more s (omega arith))
rise e (suc skip) (b ∷ s) h = rises_from (e - length (b ∷ s)) (e - length s) e (marks e skip s) (omega arith) (rise e skip s (omega arith))

-- the places of a card's marks rise, and lie on the card
pub marks_rise : (s : List ℕ) → Rises 0 (length s) (marks_of s)
marks_rise s = rises_from 0 (length s - length s) (length s) (marks_of s) (omega arith) (rise (length s) 0 s (omega arith))

-- ---- the place of a part

pub rises_place : (a e : ℕ) (ms : List Placed) → Rises a e ms → a ≤ place_of e ms
rises_place a e [] r = r
rises_place a e (placed m p ∷ ms) r = r.0

pub rises_part : (a e : ℕ) (pre ms : List Placed) → Rises a e (pre ++ ms) → (b : ℕ) × (a ≤ b) × Rises b e ms
rises_part a e [] ms r = (a, omega arith, r)
rises_part a e (placed m p ∷ pre) ms r = let (b, l, q) = rises_part (suc p) e pre ms r.2 in (b, omega (arith, r.0), q)

-- what stands behind a mark has a later place
pub later_place : (a e : ℕ) (m : Placed) (pre ms : List Placed) → Rises a e (m ∷ (pre ++ ms)) → place_of e (m ∷ (pre ++ ms)) < place_of e ms
later_place a e (placed m p) pre ms r =
    let (b, l, q) = rises_part (suc p) e pre ms r.2 in
    omega (arith, rises_place b e ms q)

-- ---- two splits

pub data Order {A : Type 0} (p r q t : List A) : Type 0 where
  equal : p ≡ q → r ≡ t → Order p r q t
  before : (m : A) (w : List A) → q ≡ p ++ (m ∷ w) → r ≡ m ∷ (w ++ t) → Order p r q t
  behind : (m : A) (w : List A) → p ≡ q ++ (m ∷ w) → t ≡ m ∷ (w ++ r) → Order p r q t

pub order : {A : Type 0} (p r q t : List A) → p ++ r ≡ q ++ t → Order p r q t
order [] r [] t e = equal refl e
order [] r (m ∷ q) t e = before m q refl e
order (m ∷ p) r [] t e = behind m p refl (sym e)
order (m ∷ p) r (k ∷ q) t e = go (order p r q t (tail-eq_of_cons-eq e)) (head-eq_of_cons-eq e)
  where
    go : Order p r q t → m ≡ k → Order (m ∷ p) r (k ∷ q) t
    go (equal z w) h = equal (ap₂ ◌∷◌ h z) w
    go (before o w z x) h = before o w (ap₂ ◌∷◌ (sym h) z) x
    go (behind o w z x) h = behind o w (ap₂ ◌∷◌ h z) x
