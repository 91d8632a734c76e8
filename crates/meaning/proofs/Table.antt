-- The table is right: a group holds for a seat exactly where its counter test passes at the seating's counts. Over everyone by adding one
-- seat at a time; "others" is everyone without one seat, which is one seat less and one count less where that seat's state is d. An
-- exactly-one too by adding a seat: if it is d no other seat is, and else one of the others alone is. The shared number is the same on both sides.
-- Assumes nothing.
use Prim.Native.Nat.{ℕ, zero, suc, ◌+◌, ◌≤◌, ◌<◌}
use mathlib.Core.Path.{◌≡◌, refl, ap, ap₂, fun_ext, ◌∙◌}
use mathlib.Core.Bool.{Bool, true, false, not, ◌&&◌, ◌||◌}
use mathlib.Core.List.{List, [], ◌∷◌}
use mathlib.Core.Option.{Option, none, some}
use native.Mathlib.Nat.{zero-add}
use native.Mathlib.Numerals.{one-add, sub-one}
use native.Mathlib.Omega.{arith}
use borrow.Author.Tests.{ne_eqb, le-leb}
use lib.Dec.{eqb, leb-zero, leb-suc-zero, leb-suc-suc, eqb-suc-suc, eqb-suc-zero, eqb-zero-suc}
use lib.ListN.{length}
use Rattle.card.specs.Card.{Kind, everyone, others, Sign, all, any, Relation, is, isnt, Leaf, group, one, shared_is, Formula, atom, neg, and, or, Guard}
use Rattle.card.specs.Formulas.{over}
use Rattle.meaning.specs.Sums.{gate, upto}
use Rattle.meaning.specs.Formulas.{value, value_or}
use Rattle.meaning.specs.Seats.{Seating, state, without, count, counted, literal, joined, alone, any_of, holds}
use Rattle.meaning.specs.Position.{Position}
use Rattle.meaning.specs.Reduced.{table, meets, passes, counter_of, test_of}
use Rattle.meaning.specs.ByCounts.{held_or}
use Rattle.meaning.proofs.Counting.{Within, count_le, count_without, length_without, no_count}

-- ---- groups

ruleset unary = (zero-add, one-add, sub-one, eqb-suc-suc, eqb-suc-zero, eqb-zero-suc, leb-suc-suc, leb-suc-zero, leb-zero)

abbrev join : Sign → Bool → Bool → Bool
join all a b = a && b
join any a b = a || b

-- the column "everyone" does not ask for d=j: e is either
module _ (e : Bool) where
  -- of n seats c are in state d
  abbrev test : Sign → Relation → ℕ → ℕ → Bool
  test s q n c = meets (table n everyone e s q) c

  -- one more seat: b says whether its state is d
  one_more : (s : Sign) (q : Relation) (b : Bool) (c n : ℕ) → c ≤ n → join s (literal q b) (test s q n c) ≡ test s q (suc n) (gate b 1 + c)
  one_more all is true c n h = simp unary
  one_more all is false c n h = simp (unary, ne_eqb c (suc n) (omega arith))
  one_more any is true c n h = simp (unary, leb-suc-suc 0 c)
  one_more any is false c n h = simp unary
  one_more all isnt true c n h = simp unary
  one_more all isnt false c n h = simp unary
  one_more any isnt true c n h = simp unary
  one_more any isnt false c n h = simp (unary, le-leb c n h)

  none_joined : (s : Sign) (q : Relation) (d : ℕ) → joined s q d [] ≡ test s q 0 0
  none_joined all is d = refl
  none_joined any is d = refl
  none_joined all isnt d = refl
  none_joined any isnt d = refl

  joined_right : (s : Sign) (q : Relation) (d : ℕ) (x : List ℕ) → joined s q d x ≡ test s q (length x) (count d x)
  joined_right s q d [] = none_joined s q d
  joined_right s q d (a ∷ x) = first s ∙ rw (joined_right s q d x) (one_more s q (eqb a d) (count d x) (length x) (count_le d x))
    where
      first : (s : Sign) → joined s q d (a ∷ x) ≡ join s (literal q (eqb a d)) (joined s q d x)
      first all = refl
      first any = refl

  -- all seats but one: b says whether its state is d
  but_one : (s : Sign) (q : Relation) (b : Bool) (c n : ℕ) → test s q n c ≡ meets (table (suc n) others b s q) (gate b 1 + c)
  but_one all is true c n = simp unary
  but_one any is true c n = simp (unary, leb-suc-suc 1 c)
  but_one all isnt true c n = simp (unary, eqb-suc-suc c 0)
  but_one any isnt true c n = simp unary
  but_one all is false c n = simp unary
  but_one any is false c n = simp unary
  but_one all isnt false c n = simp unary
  but_one any isnt false c n = simp unary

-- ---- exactly one seat

any_same : (n : ℕ) (f g : ℕ → Bool) → ((i : ℕ) → f i ≡ g i) → any_of (upto n f) ≡ any_of (upto n g)
any_same zero f g h = refl
any_same (suc n) f g h = rw (h 0, any_same n (λ i. f (suc i)) (λ i. g (suc i)) (λ i. h (suc i)))

any_false : (n : ℕ) → any_of (upto n (λ i. false)) ≡ false
any_false zero = refl
any_false (suc n) = any_false n

and_false : (b : Bool) → (b && false) ≡ false
and_false true = refl
and_false false = refl

or_false : (b : Bool) → (b || false) ≡ b
or_false true = refl
or_false false = refl

-- a term where one seat more is there: b says whether its state is d
alone_more : (d : ℕ) (x : List ℕ) (b : Bool) (i : ℕ) → (eqb (state x i) d && (not b && joined all isnt d (without x i))) ≡ (not b && alone d x i)
alone_more d x true i = and_false (eqb (state x i) d)
alone_more d x false i = refl

pub one_by_count : (d : ℕ) (x : List ℕ) → any_of (upto (length x) (alone d x)) ≡ eqb (count d x) 1
one_by_count d [] = refl
one_by_count d (a ∷ x) =
    ap (λ c. (eqb a d && joined all isnt d x) || c) (any_same (length x) _ (λ i. not (eqb a d) && alone d x i) (alone_more d x (eqb a d)))
    ∙ go (eqb a d) (one_by_count d x)
  where
    go : (b : Bool) → any_of (upto (length x) (alone d x)) ≡ eqb (count d x) 1
        → ((b && joined all isnt d x) || any_of (upto (length x) (λ i. not b && alone d x i))) ≡ eqb (gate b 1 + count d x) 1
    go true h = rw (any_false (length x), or_false (joined all isnt d x), joined_right false all isnt d x, one-add (count d x), eqb-suc-suc (count d x) 0)
    go false h = rw (zero-add (count d x)) h

-- ---- guards

module _ (k : ℕ) (x : Seating) (w : Within k x.each) (i : ℕ) (l : i < length x.each) where
  by_count : (kind : Kind) (s : Sign) (q : Relation) (d : ℕ)
      → holds x i (group kind s q d) ≡ meets (table (length x.each) kind (eqb (state x.each i) d) s q) (count d x.each)
  by_count everyone s q d = joined_right (eqb (state x.each i) d) s q d x.each
  by_count others s q d =
      let b = eqb (state x.each i) d in
      let rest = without x.each i in
      rw (length_without x.each i l, count_without d x.each i l) (joined_right b s q d rest ∙ but_one b s q b (count d rest) (length rest))

  pub leaf_right : (a : Leaf) → holds x i a ≡ passes (counted k x) (counter_of (length x.each) (state x.each i) a)
  leaf_right (group kind s q d) = rw (no_count k x.each w d) (by_count kind s q d)
  leaf_right (one d) = rw (no_count k x.each w d) (one_by_count d x.each)
  leaf_right (shared_is q v) = refl

  pub guard_right : (g : Option Guard) → value_or (holds x i) g ≡ held_or (length x.each) (state x.each i) (counted k x) g
  guard_right g = ap (λ (p : Leaf → Bool). value_or p g) (fun_ext leaf_right)

-- the translated guard's value
pub value_over : {A B : Type 0} (p : B → Bool) (f : A → B) (g : Formula A) → value p (over f g) ≡ value (λ a. p (f a)) g
value_over p f (atom a) = refl
value_over p f (neg g) = ap not (value_over p f g)
value_over p f (and g h) = ap₂ ◌&&◌ (value_over p f g) (value_over p f h)
value_over p f (or g h) = ap₂ ◌||◌ (value_over p f g) (value_over p f h)

pub test_held : (n j : ℕ) (v : Position) (g : Option Guard) → value_or (passes v) (test_of n j g) ≡ held_or n j v g
test_held n j v none = refl
test_held n j v (some g) = value_over (passes v) (counter_of n j) g
