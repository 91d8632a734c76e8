-- What the code keeps of the literals and of the terms so far is what the definitions say of them, the seats that they want among it. Each step adds
-- one at the end of a list.
use Prim.Native.Nat.{ℕ, suc, ◌+◌, ◌≤◌, min}
use mathlib.Core.Path.{◌≡◌, refl, sym, ap, ◌∙◌}
use mathlib.Core.Bool.{Bool, true, false, not, ◌&&◌, ◌||◌, and-false}
use mathlib.Core.List.{List, [], ◌∷◌, ◌++◌}
use native.Mathlib.Omega.{arith}
use borrow.Author.Tests.{eqb-true, eqb-false, leb-true, leb-false, eq-eqb, ne_eqb}
use lib.Dec.{eqb, leb}
use lib.ListN.{length}
use Rattle.card.specs.Limits.{most_seats}
use Rattle.card.specs.Text.{when◌then◌else◌}
use Rattle.card.specs.Card.{Relation, is as eq, isnt as ne}
use Rattle.card.specs.Laid.{relation_number}
use Rattle.reading.specs.Group.{Literal}
use Rattle.reading.specs.Judgements.{has_from, once, same_relation}
use Rattle.late.proofs.Symmetric.{wanted}
use Rattle.asking.specs.Question.{relations, among, both}
use Rattle.asking.specs.Asking.{due_relation, each_due, is_terms, literal_d}
use Rattle.term_literals.specs.Wanted.{seats_of, want_of_terms}
use Rattle.literals_due.specs.Due.{due_number}

and_assoc : (a b c : Bool) → (a && b && c) ≡ (a && (b && c))
and_assoc true b c = refl
and_assoc false b c = refl

and_true : (a : Bool) → (a && true) ≡ a
and_true true = refl
and_true false = refl

-- ---- each literal as due

abbrev is_due : ℕ → ℕ → Literal → Bool
is_due d i l = eqb l.d d && same_relation (due_relation i l) l.relation

due_more : (d i : ℕ) (ls : List Literal) (l : Literal) → each_due d i (ls ++ (l ∷ [])) ≡ (each_due d i ls && is_due d i l)
due_more d i [] l = and_true (is_due d i l)
due_more d i (x ∷ ls) l = ap (λ b. is_due d i x && b) (due_more d i ls l) ∙ sym (and_assoc (is_due d i x) (each_due d i ls) (is_due d i l))

relation_number_law : (q : Relation) (b : Bool) → eqb (relation_number q) (when b then relation_number eq else relation_number ne) ≡ same_relation (when b then eq else ne) q
relation_number_law eq true = refl
relation_number_law eq false = refl
relation_number_law ne true = refl
relation_number_law ne false = refl

pub due_so : (due : Bool) (d i v e r q : ℕ) (ls : List Literal) (l : Literal)
    → due ≡ each_due d i ls → l.seat ≡ v → e ≡ l.d → r ≡ relation_number l.relation → q ≡ due_number i v
    → (due && (eqb e d && eqb r q)) ≡ each_due d i (ls ++ (l ∷ []))
due_so due d i v e r q ls l f seat ee re qe =
    rw (f, ee, re, qe, ← seat, relation_number_law l.relation (eqb l.seat i)) (sym (due_more d i ls l))

-- against another d
due_by_first : (d i : ℕ) (l : Literal) (ls : List Literal) → each_due d i (l ∷ ls) ≡ (each_due l.d i (l ∷ ls) && eqb l.d d)
due_by_first d i l ls = go (eqb l.d d) refl
  where
    go : (b : Bool) → eqb l.d d ≡ b → each_due d i (l ∷ ls) ≡ (each_due l.d i (l ∷ ls) && b)
    go true e = ap (λ x. each_due x i (l ∷ ls)) (sym (eqb-true l.d d e)) ∙ sym (and_true (each_due l.d i (l ∷ ls)))
    go false e = rw e (sym (and-false (each_due l.d i (l ∷ ls))))

-- ---- both relations

among_one : (q r : Relation) → among q (r ∷ []) ≡ same_relation q r
among_one eq eq = refl
among_one eq ne = refl
among_one ne eq = refl
among_one ne ne = refl

among_cons : (q r : Relation) (qs rs : List Relation) (b : Bool) → among q qs ≡ (among q rs || b) → among q (r ∷ qs) ≡ (among q (r ∷ rs) || b)
among_cons eq eq qs rs b h = refl
among_cons eq ne qs rs b h = h
among_cons ne eq qs rs b h = h
among_cons ne ne qs rs b h = refl

among_more : (q : Relation) (ls : List Literal) (x : Literal) → among q (relations (ls ++ (x ∷ []))) ≡ (among q (relations ls) || same_relation q x.relation)
among_more q [] x = among_one q x.relation
among_more q (l ∷ ls) x = among_cons q l.relation (relations (ls ++ (x ∷ []))) (relations ls) (same_relation q x.relation) (among_more q ls x)

-- the first one's relation, and another
both_more : (h x : Relation) (rs ts : List Relation) → ((q : Relation) → among q ts ≡ (among q rs || same_relation q x))
    → (both (h ∷ rs) || not (eqb (relation_number h) (relation_number x))) ≡ both (h ∷ ts)
both_more eq eq rs ts f = sym (f ne)
both_more eq ne rs ts f = sym (f ne)
both_more ne x rs ts f = other x f
  where
    last : (a b : Bool) → (a && true || b) ≡ ((a || b) && true)
    last true b = refl
    last false true = refl
    last false false = refl

    other : (x : Relation) → ((q : Relation) → among q ts ≡ (among q rs || same_relation q x)) → (both (ne ∷ rs) || not (eqb (relation_number ne) (relation_number x))) ≡ both (ne ∷ ts)
    other eq f = rw (f eq) (last (among eq rs) true)
    other ne f = rw (f eq) (last (among eq rs) false)

pub mixed_so : (mixed : Bool) (h x : Literal) (ls : List Literal) (q r : ℕ) → mixed ≡ both (relations (h ∷ ls)) → q ≡ relation_number h.relation → r ≡ relation_number x.relation
    → (mixed || not (eqb q r)) ≡ both (relations (h ∷ (ls ++ (x ∷ []))))
mixed_so mixed h x ls q r e qe re = rw (e, qe, re) (both_more h.relation x.relation (relations ls) (relations (ls ++ (x ∷ []))) (λ k. among_more k ls x))

-- ---- the seats of a term

once_seats : (n : ℕ) (ls : List Literal) → 1 ≤ n → n ≤ most_seats → once 1 n ls ≡ eqb (seats_of ls) n
once_seats n ls least most = wanted (length ls) n (length ls) n (λ c. has_from 1 c ls) least most (λ s. s) (λ s. s)

seats_few : (ls : List Literal) → seats_of ls ≤ most_seats
seats_few ls = go (leb (length ls) most_seats) refl (has_from 1 (length ls) ls)
  where
    go : (a : Bool) → leb (length ls) most_seats ≡ a → (b : Bool) → (when a && b then length ls else 0) ≤ most_seats
    go true e true = leb-true (length ls) most_seats e
    go true e false = omega arith
    go false e b = omega arith

-- ---- the terms

terms_more : (n d i j : ℕ) (ts : List (List Literal)) (t : List Literal) → j ≡ i + length ts → is_terms n d i (ts ++ (t ∷ [])) ≡ (is_terms n d i ts && (each_due d j t && once 1 n t))
terms_more n d i j [] t e = let f : j ≡ i = omega (arith, e) in rw f (and_true (each_due d i t && once 1 n t))
terms_more n d i j (x ∷ ts) t e =
    ap (λ b. each_due d i x && once 1 n x && b) (terms_more n d (suc i) j ts t (omega (arith, e)))
    ∙ sym (and_assoc (each_due d i x && once 1 n x) (is_terms n d (suc i) ts) (each_due d j t && once 1 n t))

module _ (k : ℕ) (least : 1 ≤ k) (most : k ≤ most_seats) where
  -- one term more, for k seats and this d
  pub terms_so : (all due : Bool) (d i e seats : ℕ) (ts : List (List Literal)) (l : Literal) (ls : List Literal) → all ≡ is_terms k d 1 ts → due ≡ each_due l.d i (l ∷ ls) → e ≡ l.d
      → seats ≡ seats_of (l ∷ ls) → i ≡ 1 + length ts → (all && (due && (eqb e d && eqb seats k))) ≡ is_terms k d 1 (ts ++ ((l ∷ ls) ∷ []))
  terms_so all due d i e seats ts l ls ae de ee se ie =
      rw (ae, de, ee, se, ← once_seats k (l ∷ ls) least most)
      (ap (λ b. is_terms k d 1 ts && b)
      (sym (and_assoc (each_due l.d i (l ∷ ls)) (eqb l.d d) (once 1 k (l ∷ ls))) ∙ ap (λ b. b && once 1 k (l ∷ ls)) (sym (due_by_first d i l ls)))
      ∙ sym (terms_more k d 1 i ts (l ∷ ls) ie))

-- the first
pub term_first : (due : Bool) (seats : ℕ) (l : Literal) (ls : List Literal) → due ≡ each_due l.d 1 (l ∷ ls) → seats ≡ seats_of (l ∷ ls) → 1 ≤ seats
    → due ≡ is_terms seats l.d 1 ((l ∷ ls) ∷ [])
term_first due seats l ls de se least =
    de ∙ sym (and_true (each_due l.d 1 (l ∷ ls)))
    ∙ ap (λ b. each_due l.d 1 (l ∷ ls) && b) (sym (once_seats seats (l ∷ ls) least (rw se (seats_few (l ∷ ls))) ∙ eq-eqb (seats_of (l ∷ ls)) seats (sym se)))
    ∙ sym (and_true (each_due l.d 1 (l ∷ ls) && once 1 seats (l ∷ ls)))

pub few_seats : (seats : ℕ) (ls : List Literal) → seats ≡ seats_of ls → seats ≤ most_seats
few_seats seats ls e = rw e (seats_few ls)

-- ---- what they want

module _ (all : Bool) (count seats : ℕ) (t : List Literal) (ts : List (List Literal)) (counted : count ≡ min (length (t ∷ ts)) (suc most_seats)) (se : seats ≡ seats_of t)
    (agreed : length (t ∷ ts) ≤ most_seats → 1 ≤ seats → all ≡ is_terms seats (literal_d t) 1 (t ∷ ts)) where
  abbrev m : ℕ
  m = length (t ∷ ts)

  abbrev all_want : ℕ → ℕ
  all_want w = when all && eqb count seats then w else 0

  -- another number of seats than of terms
  unlike : (count ≡ seats → ⊥) → all_want count ≡ 0
  unlike f = rw (ne_eqb count seats f, and-false all)

  few : m ≤ most_seats → (b : Bool) → eqb m seats ≡ b → all_want count ≡ (when is_terms m (literal_d t) 1 (t ∷ ts) then m else 0)
  few h true e =
      let c : count ≡ m = omega arith in
      let s : m ≡ seats = eqb-true m seats e in
      rw (c, e, and_true all)
      (ap (λ b. when b then m else 0) (agreed h (omega (arith, s)) ∙ ap (λ n. is_terms n (literal_d t) 1 (t ∷ ts)) (sym s)))
  few h false e =
      unlike (λ z. eqb-false m seats e (omega arith))
      ∙ rw (once_seats m t (omega arith) h, ← se, ne_eqb seats m (λ z. eqb-false m seats e (sym z)), and-false (each_due (literal_d t) 1 t))

  pub want_so : all_want count ≡ want_of_terms (t ∷ ts)
  want_so = go (leb m most_seats) refl
    where
      go : (b : Bool) → leb m most_seats ≡ b → all_want count ≡ (when b && is_terms m (literal_d t) 1 (t ∷ ts) then m else 0)
      go true e = few (leb-true m most_seats e) (eqb m seats) refl
      go false e = unlike (λ z. omega (arith, leb-false m most_seats e, few_seats seats t se))
