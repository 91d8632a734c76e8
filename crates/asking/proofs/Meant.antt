-- A question holds on a seating exactly when its translation passes at the seating's counts: each of its atoms is a leaf of a card, for which
-- the table is right. Assumes nothing.
use Prim.Native.Nat.{ℕ, zero, suc, ◌≤◌, ◌<◌}
use mathlib.Core.Path.{◌≡◌, refl, sym, ap, fun_ext, ◌∙◌}
use mathlib.Core.Bool.{Bool, true, false, not, ◌&&◌, ◌||◌, false≢true}
use mathlib.Core.Logic.{◌↔◌}
use mathlib.Core.List.{List, [], ◌∷◌}
use native.Mathlib.Omega.{arith}
use borrow.Author.Tests.{eqb-true, eq-eqb, ne_eqb}
use lib.Dec.{eqb}
use lib.ListN.{length}
use Rattle.card.specs.Card.{everyone, Sign, all, any, Relation, is, isnt, Card}
use Rattle.meaning.specs.Sums.{upto}
use Rattle.card.specs.Formulas.{over}
use Rattle.meaning.specs.Formulas.{value}
use Rattle.meaning.specs.Position.{Position, position}
use Rattle.meaning.specs.Seats.{Seating, ValidSeating, state, without, count, counted, joined, alone, any_of, holds}
use Rattle.meaning.specs.Reordered.{Reordered}
use Rattle.meaning.specs.Reduced.{table, Counter, counter, passes, counter_of}
use Rattle.meaning.specs.ByCounts.{held_at}
use Rattle.meaning.proofs.Counting.{Within}
use Rattle.meaning.proofs.Table.{one_by_count, leaf_right, value_over}
use Rattle.meaning.proofs.Reorder.{reordered_valid, reordered_counts}
use Rattle.asking.specs.Meant.{Atom, of_all, one_in, shared_at, Question, OneSeat, holds_atom, holds_on, counter_for, test_for, passes_on, leaf_for}

-- ---- as leaves of a card

table_everyone : (n : ℕ) (a b : Bool) (s : Sign) (q : Relation) → table n everyone a s q ≡ table n everyone b s q
table_everyone n a b all is = refl
table_everyone n a b any is = refl
table_everyone n a b all isnt = refl
table_everyone n a b any isnt = refl

-- whatever a seat's own state is
pub leaf_counter : (n own : ℕ) (a : Atom) → counter_of n own (leaf_for a) ≡ counter_for n a
leaf_counter n own (of_all s q d) = ap (counter d) (table_everyone n (eqb own d) false s q)
leaf_counter n own (one_in d) = refl
leaf_counter n own (shared_at q v) = refl

leaf_holds : (x : Seating) (i : ℕ) (a : Atom) → holds_atom x a ≡ holds x i (leaf_for a)
leaf_holds x i (of_all s q d) = refl
leaf_holds x i (one_in d) = refl
leaf_holds x i (shared_at q v) = refl

-- each atom, and so each question, by seats and by counts
module _ (k : ℕ) (x : Seating) (w : Within k x.each) (some : 0 < length x.each) where
  atom_right : (a : Atom) → holds_atom x a ≡ passes (counted k x) (counter_for (length x.each) a)
  atom_right a = leaf_holds x 0 a ∙ leaf_right k x w 0 some (leaf_for a) ∙ ap (passes (counted k x)) (leaf_counter (length x.each) (state x.each 0) a)

  pub question_right : (q : Question) → holds_on x q ≡ passes_on (counted k x) (test_for (length x.each) q)
  question_right q = ap (λ (p : Atom → Bool). value p q) (fun_ext atom_right) ∙ sym (value_over (passes (counted k x)) (counter_for (length x.each)) q)

-- laid as a card's leaves it is tested alike
pub held_question : (n own : ℕ) (v : Position) (q : Question) → held_at n own v (over leaf_for q) ≡ passes_on v (test_for n q)
held_question n own v q =
    value_over (λ a. passes v (counter_of n own a)) leaf_for q
    ∙ ap (λ (f : Atom → Counter). value (λ a. passes v (f a)) q) (fun_ext (leaf_counter n own)) ∙ sym (value_over (passes v) (counter_for n) q)

pub question_held : (k : ℕ) (x : Seating) → Within k x.each → 0 < length x.each → (own : ℕ) (q : Question)
    → holds_on x q ≡ held_at (length x.each) own (counted k x) (over leaf_for q)
question_held k x w some own q = question_right k x w some q ∙ sym (held_question (length x.each) own (counted k x) q)

-- ---- so equal counts have equal answers, and the same seats in another order too

pub question_by_counts : (c : Card) → 1 ≤ c.n → (x : Seating) → ValidSeating c x → (q : Question) → holds_on x q ≡ passes_on (counted c.k x) (test_for c.n q)
question_by_counts c some x ok q =
    let l : 0 < length x.each = omega (arith, ok.seats) in
    question_right c.k x ok.states l q ∙ ap (λ (n : ℕ). passes_on (counted c.k x) (test_for n q)) ok.seats

pub equal_counts : (c : Card) → 1 ≤ c.n → (x y : Seating) → ValidSeating c x → ValidSeating c y → counted c.k x ≡ counted c.k y
    → (q : Question) → holds_on x q ≡ holds_on y q
equal_counts c some x y v w e q =
    question_by_counts c some x v q ∙ ap (λ (u : Position). passes_on u (test_for c.n q)) e ∙ sym (question_by_counts c some y w q)

pub reordered_question : (c : Card) → 1 ≤ c.n → {x y : Seating} → Reordered x y → ValidSeating c x → (q : Question) → holds_on x q ≡ holds_on y q
reordered_question c some {x} {y} r v q = equal_counts c some x y v (reordered_valid c r v) (reordered_counts c.k r) q

-- ---- an exactly-one by its count

pub one_count : (d : ℕ) (x : Seating) → holds_atom x (one_in d) ≡ true ↔ (count d x.each ≡ 1)
one_count d x = ((λ e. eqb-true (count d x.each) 1 (sym (one_by_count d x.each) ∙ e)), (λ e. one_by_count d x.each ∙ eq-eqb (count d x.each) 1 e))

-- of one seat it is the single literal
pub one_alone : (d a g : ℕ) → holds_atom (position (a ∷ []) g) (one_in d) ≡ holds_atom (position (a ∷ []) g) (of_all all is d)
one_alone d a g = go (eqb a d)
  where
    go : (b : Bool) → ((b && true) || false) ≡ (b && true)
    go true = refl
    go false = refl

-- ---- and in words

and_both : (a b : Bool) → (a && b) ≡ true → (a ≡ true) × (b ≡ true)
and_both true b e = (refl, e)
and_both false b e = absurd (false≢true e)

not_true : (b : Bool) → not b ≡ true → b ≡ false
not_true true e = absurd (false≢true e)
not_true false e = refl

-- none of some seats is d
none_d : (d : ℕ) (x : List ℕ) → joined all isnt d x ≡ true → (j : ℕ) → j < length x → state x j ≡ d → ⊥
none_d d [] e j l z = omega arith
none_d d (a ∷ x) e zero l z = let (p, q) = and_both (not (eqb a d)) (joined all isnt d x) e in false≢true (sym (not_true (eqb a d) p) ∙ eq-eqb a d z)
none_d d (a ∷ x) e (suc j) l z = let (p, q) = and_both (not (eqb a d)) (joined all isnt d x) e in none_d d x q j (omega arith) z

d_none : (d : ℕ) (x : List ℕ) → ((j : ℕ) → j < length x → state x j ≡ d → ⊥) → joined all isnt d x ≡ true
d_none d [] h = refl
d_none d (a ∷ x) h = rw (ne_eqb a d (λ z. h 0 (omega arith) z)) (d_none d x (λ j l. h (suc j) (omega arith)))

but_i : (d : ℕ) (x : List ℕ) (i : ℕ) → joined all isnt d (without x i) ≡ true → (j : ℕ) → j < length x → (j ≡ i → ⊥) → state x j ≡ d → ⊥
but_i d [] i e j l n z = omega arith
but_i d (a ∷ x) zero e zero l n z = n refl
but_i d (a ∷ x) zero e (suc j) l n z = none_d d x e j (omega arith) z
but_i d (a ∷ x) (suc i) e zero l n z = let (p, q) = and_both (not (eqb a d)) (joined all isnt d (without x i)) e in false≢true (sym (not_true (eqb a d) p) ∙ eq-eqb a d z)
but_i d (a ∷ x) (suc i) e (suc j) l n z =
    let (p, q) = and_both (not (eqb a d)) (joined all isnt d (without x i)) e in but_i d x i q j (omega arith) (λ y. n (ap suc y)) z

i_but : (d : ℕ) (x : List ℕ) (i : ℕ) → ((j : ℕ) → j < length x → (j ≡ i → ⊥) → state x j ≡ d → ⊥) → joined all isnt d (without x i) ≡ true
i_but d [] i h = refl
i_but d (a ∷ x) zero h = d_none d x (λ j l. h (suc j) (omega arith) (λ y. omega arith))
i_but d (a ∷ x) (suc i) h = rw (ne_eqb a d (λ z. h 0 (omega arith) (λ y. omega arith) z)) (i_but d x i (λ j l n. h (suc j) (omega arith) (λ y. n (omega arith))))

any_there : (n : ℕ) (f : ℕ → Bool) → any_of (upto n f) ≡ true → (i : ℕ) × (i < n) × (f i ≡ true)
any_there zero f e = absurd (false≢true e)
any_there (suc n) f e = go (f 0) refl e (any_there n (λ i. f (suc i)))
  where
    go : (b : Bool) → f 0 ≡ b → (b || any_of (upto n (λ i. f (suc i)))) ≡ true
        → (any_of (upto n (λ i. f (suc i))) ≡ true → (i : ℕ) × (i < n) × (f (suc i) ≡ true))
        → (i : ℕ) × (i < suc n) × (f i ≡ true)
    go true z e h = (0, omega arith, z)
    go false z e h = let (i, l, y) = h e in (suc i, omega arith, y)

there_any : (n : ℕ) (f : ℕ → Bool) (i : ℕ) → i < n → f i ≡ true → any_of (upto n f) ≡ true
there_any zero f i l e = absurd (omega arith)
there_any (suc n) f zero l e = rw e
there_any (suc n) f (suc i) l e = go (f 0) (there_any n (λ i. f (suc i)) i (omega arith) e)
  where
    go : (b : Bool) → any_of (upto n (λ i. f (suc i))) ≡ true → (b || any_of (upto n (λ i. f (suc i)))) ≡ true
    go true h = refl
    go false h = h

pub one_in_words : (d : ℕ) (x : Seating) → holds_atom x (one_in d) ≡ true ↔ OneSeat d x
one_in_words d x = let y = x.each in (
  (λ e.
      let (i, l, z) = any_there (length y) (alone d y) e in
      let (p, q) = and_both (eqb (state y i) d) (joined all isnt d (without y i)) z in
      record { seat = i; there = l; is_d = eqb-true (state y i) d p; others_not = but_i d y i q }),
  (λ h. there_any (length y) (alone d y) h.seat h.there (rw (eq-eqb (state y h.seat) d h.is_d) (i_but d y h.seat h.others_not))),
)
