-- A group is symmetric for exactly the number of seats that it wants. The one step that is no computing: c seats from i on and an
-- earlier one need more than c literals. Take the literal of seat i away; the other seats are still there.
use Prim.Native.Nat.{ℕ, zero, suc, ◌-◌, ◌≤◌, ◌<◌}
use mathlib.Core.Path.{◌≡◌, refl, sym, ap, ◌∙◌}
use mathlib.Core.Bool.{Bool, true, false, ◌&&◌, ◌||◌, and-false}
use mathlib.Core.List.{List, [], ◌∷◌}
use mathlib.Core.Option.{Option, none, some}
use native.Mathlib.Omega.{arith}
use borrow.Author.Tests.{eqb-true, eqb-false, eq-eqb, ne_eqb, le-leb}
use lib.Dec.{eqb, leb}
use lib.ListN.{length}
use Rattle.card.specs.Limits.{most_seats}
use Rattle.card.specs.Text.{when◌then◌else◌}
use Rattle.card.specs.Card.{Kind, everyone, others}
use Rattle.reading.specs.Guard.{is_some}
use Rattle.reading.specs.Group.{Literal}
use Rattle.reading.specs.Judgements.{has, has_from, once, kind_of, alike, symmetric, or_everyone}
use Rattle.late.specs.Late.{up_to_most, want_of, kind_by}

-- ---- tests

pub and_both : (a b : Bool) → (a && b) ≡ true → (a ≡ true) × (b ≡ true)
and_both true b h = (refl, h)
and_both false b h = let z : ◌≡◌ {A = ℕ} 0 1 = cc in absurd (omega arith)

or_right : (a b : Bool) → a ≡ false → (a || b) ≡ true → b ≡ true
or_right a b e h = rw e at h

or_first : (a b : Bool) → a ≡ true → (a || b) ≡ true
or_first a b e = rw e

or_second : (a b : Bool) → b ≡ true → (a || b) ≡ true
or_second true b e = refl
or_second false b e = e

-- ---- more seats than literals

without : ℕ → List Literal → List Literal
without i [] = []
without i (l ∷ ls) = when eqb l.seat i then ls else l ∷ without i ls

without_length : (i : ℕ) (ls : List Literal) → has i ls ≡ true → suc (length (without i ls)) ≡ length ls
unfolding without
without_length i [] h = let z : ◌≡◌ {A = ℕ} 0 1 = cc in absurd (omega arith)
without_length i (l ∷ ls) h = go (eqb l.seat i) refl (without_length i ls)
  where
    go : (b : Bool) → eqb l.seat i ≡ b → (has i ls ≡ true → suc (length (without i ls)) ≡ length ls)
        → suc (length (when b then ls else l ∷ without i ls)) ≡ suc (length ls)
    go true e less = refl
    go false e less = omega (arith, less (or_right _ _ e h))

without_has : (i j : ℕ) (ls : List Literal) → (i ≡ j → ⊥) → has j ls ≡ true → has j (without i ls) ≡ true
unfolding without
without_has i j [] n h = h
without_has i j (l ∷ ls) n h = go (eqb l.seat i) (eqb l.seat j) refl refl (without_has i j ls n)
  where
    go : (a b : Bool) → eqb l.seat i ≡ a → eqb l.seat j ≡ b → (has j ls ≡ true → has j (without i ls) ≡ true)
        → has j (when a then ls else l ∷ without i ls) ≡ true
    go true true e f there = absurd (n (sym (eqb-true l.seat i e) ∙ eqb-true l.seat j f))
    go true false e f there = or_right (eqb l.seat j) (has j ls) f h
    go false true e f there = or_first (eqb l.seat j) (has j (without i ls)) f
    go false false e f there = or_second (eqb l.seat j) (has j (without i ls)) (there (or_right (eqb l.seat j) (has j ls) f h))

without_from : (i j c : ℕ) (ls : List Literal) → i < j → has_from j c ls ≡ true → has_from j c (without i ls) ≡ true
without_from i j zero ls l h = refl
without_from i j (suc c) ls l h =
    let both = and_both _ _ h in
    rw (without_has i j ls (λ e. omega arith) both.0) (without_from i (suc j) c ls (omega arith) both.1)

pub crowded : (j i c : ℕ) (ls : List Literal) → j < i → has j ls ≡ true → has_from i c ls ≡ true → c < length ls
crowded j i zero [] l h f = let z : ◌≡◌ {A = ℕ} 0 1 = cc in absurd (omega arith)
crowded j i zero (x ∷ ls) l h f = omega arith
crowded j i (suc c) ls l h f =
    let both = and_both (has i ls) (has_from (suc i) c ls) f in
    omega (arith, without_length i ls both.0, crowded j (suc i) c (without i ls) (omega arith) (without_has i j ls (λ e. omega arith) h) (without_from i (suc i) c ls (omega arith) both.1))

-- ---- the kind of a group, by its seat 1

abbrev only : Bool → Kind → Option Kind
only b kind = when b then some kind else none

module _ (n : ℕ) (l : Literal) (ls : List Literal) where
  abbrev group : List Literal
  group = l ∷ ls

  not_others : has 1 group ≡ true → once 2 (n - 1) group ≡ false
  not_others h = go (once 2 (n - 1) group) refl
    where
      go : (b : Bool) → once 2 (n - 1) group ≡ b → b ≡ false
      go true e =
          let both = and_both (eqb (length group) (n - 1)) (has_from 2 (n - 1) group) e in
          absurd (omega (arith, eqb-true (length group) (n - 1) both.0, crowded 1 2 (n - 1) group (omega arith) h both.1))
      go false e = refl

  not_everyone : has 1 group ≡ false → once 1 n group ≡ false
  not_everyone h = go n
    where
      go : (m : ℕ) → once 1 m group ≡ false
      go zero = rw (ne_eqb (length group) 0 (λ e. omega arith))
      go (suc m) = rw h (and-false (eqb (length group) (suc m)))

  pub kind_known : kind_of n group ≡ (when has 1 group then only (once 1 n group) everyone else only (once 2 (n - 1) group) others)
  kind_known = go (has 1 group) refl
    where
      go : (b : Bool) → has 1 group ≡ b → kind_of n group ≡ (when b then only (once 1 n group) everyone else only (once 2 (n - 1) group) others)
      go true e = rw (not_others e)
      go false e = rw (not_everyone e)

-- ---- what a group wants

-- the test of a group of m seats, of which c have literals, against the number that it wants
pub wanted : (count c m n : ℕ) (b : ℕ → Bool) → 1 ≤ n → n ≤ most_seats → (count ≡ c → m ≡ n) → (m ≡ n → count ≡ c)
    → (eqb count c && b c) ≡ eqb (up_to_most m (b count)) n
wanted count c m n b least most to from = go (eqb count c) refl
  where
    nothing : eqb 0 n ≡ false
    nothing = ne_eqb 0 n (λ e. omega arith)

    right : (d : Bool) → m ≡ n → d ≡ eqb (when leb m most_seats && d then m else 0) n
    right true e = rw (le-leb m most_seats (omega arith)) (sym (eq-eqb m n e))
    right false e = rw (le-leb m most_seats (omega arith)) (sym nothing)

    either : (d : Bool) → (m ≡ n → ⊥) → false ≡ eqb (when d then m else 0) n
    either true f = sym (ne_eqb m n f)
    either false f = sym nothing

    go : (d : Bool) → eqb count c ≡ d → (d && b c) ≡ eqb (up_to_most m (b count)) n
    go true e = let s : count ≡ c = eqb-true count c e in rw s (right (b c) (to s))
    go false e = either (leb m most_seats && b count) (λ s. eqb-false count c e (from s))

some_only : (b : Bool) (kind : Kind) → is_some (only b kind) ≡ b
some_only true kind = refl
some_only false kind = refl

pub symmetric_want : (n : ℕ) (ls : List Literal) → 1 ≤ n → n ≤ most_seats → symmetric n ls ≡ eqb (want_of ls) n
symmetric_want n [] least most = sym (ne_eqb 0 n (λ e. omega arith))
symmetric_want n (l ∷ ls) least most = go (alike l ls) (has 1 g) refl
  where
    g : List Literal
    g = l ∷ ls

    by_one : (b c d : Bool) → is_some (when b then only c everyone else only d others) ≡ (when b then c else d)
    by_one true c d = some_only c everyone
    by_one false c d = some_only d others

    some_kind : (b : Bool) → has 1 g ≡ b → is_some (kind_of n g) ≡ (when b then once 1 n g else once 2 (n - 1) g)
    some_kind b e = ap is_some (kind_known n l ls) ∙ by_one (has 1 g) (once 1 n g) (once 2 (n - 1) g) ∙ ap (λ c. when c then once 1 n g else once 2 (n - 1) g) e

    go : (a b : Bool) → has 1 g ≡ b → (a && is_some (kind_of n g)) ≡ eqb (when a then (when b then up_to_most (length g) (has_from 1 (length g) g) else up_to_most (suc (length g)) (has_from 2 (length g) g)) else 0) n
    go false b e = sym (ne_eqb 0 n (λ e. omega arith))
    go true true e = some_kind true e ∙ wanted (length g) n (length g) n (λ c. has_from 1 c g) least most (λ s. s) (λ s. s)
    go true false e = some_kind false e ∙ wanted (length g) (n - 1) (suc (length g)) n (λ c. has_from 2 c g) least most (λ s. omega arith) (λ s. omega arith)

-- ---- and the kind that it has where it is symmetric

pub symmetric_kind : (n : ℕ) (l : Literal) (ls : List Literal) → symmetric n (l ∷ ls) ≡ true → kind_by (l ∷ ls) ≡ or_everyone (kind_of n (l ∷ ls))
symmetric_kind n l ls h = go (has 1 g) refl (rw (kind_known n l ls) at (and_both (alike l ls) (is_some (kind_of n g)) h).1)
  where
    g : List Literal
    g = l ∷ ls

    always : (b : Bool) (kind : Kind) → is_some (only b kind) ≡ true → kind ≡ or_everyone (only b kind)
    always true kind e = refl
    always false kind e = let z : ◌≡◌ {A = ℕ} 0 1 = cc in absurd (omega arith)

    go : (b : Bool) → has 1 g ≡ b → is_some (when has 1 g then only (once 1 n g) everyone else only (once 2 (n - 1) g) others) ≡ true
        → kind_by g ≡ or_everyone (kind_of n g)
    go true e s = rw (kind_known n l ls, e) (always (once 1 n g) everyone (rw e at s))
    go false e s = rw (kind_known n l ls, e) (always (once 2 (n - 1) g) others (rw e at s))
