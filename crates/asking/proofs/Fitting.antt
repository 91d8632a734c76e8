-- A claim of a question fits exactly when its rule is kept. Assumes nothing.
use Prim.Native.Nat.{ℕ, suc}
use mathlib.Core.Path.{◌≡◌, refl, sym, subst}
use mathlib.Core.Bool.{true, ◌&&◌, false≢true}
use mathlib.Core.Logic.{◌↔◌}
use mathlib.Core.List.{List, [], ◌∷◌}
use native.Mathlib.Omega.{arith}
use lib.Dec.{eqb}
use borrow.Author.Tests.{leb-true, le-leb, eqb-true, eq-eqb}
use lib.ListN.{length}
use Rattle.card.specs.Card.{Relation}
use Rattle.card.specs.Valid.{Every}
use Rattle.reading.specs.Group.{Literal}
use Rattle.reading.specs.Judgements.{once, same_relation, alike}
use Rattle.reading.proofs.Through.{and_true}
use Rattle.grammar.proofs.Symmetry.{relation_same, same_relation_law, alike_all, all_alike, once_is, is_once, first_of}
use Rattle.asking.specs.Asking.{Claim, state, everyone, exactly, Everyone, due_relation, Terms, ExactlyOne, KeptIn, is_everyone, each_due, is_terms, term_d, is_exactly_one, fits}

-- ---- everyone

everyone_is : (n : ℕ) (ls : List Literal) → is_everyone n ls ≡ true → Everyone n ls
everyone_is n [] e = absurd (false≢true e)
everyone_is n (l ∷ ls) e =
    let (p, q) = and_true (alike l ls) (once 1 n (l ∷ ls)) e in
    let (r, d) = alike_all l ls p in
    record { some = omega arith; relation = l.relation; relations = (refl, r); d = l.d; ds = (refl, d); seats = once_is 1 n n (omega arith) (l ∷ ls) q }

is_everyone_law : (n : ℕ) (ls : List Literal) → Everyone n ls → is_everyone n ls ≡ true
is_everyone_law n [] s = absurd (omega (arith, s.some))
is_everyone_law n (l ∷ ls) s =
    let r = s.relations in
    let d = s.ds in
    rw (all_alike l ls (first_of (λ (x : Literal). x.relation) s.relation l ls r.0 r.1) (first_of (λ (x : Literal). x.d) s.d l ls d.0 d.1))
    (is_once 1 n n (omega arith) (l ∷ ls) s.seats)

-- ---- terms

due_each : (d i : ℕ) (ls : List Literal) → each_due d i ls ≡ true → Every (λ l. l.d ≡ d) ls × Every (λ l. l.relation ≡ due_relation i l) ls
due_each d i [] e = (tt, tt)
due_each d i (l ∷ ls) e =
    let (p, q) = and_true (eqb l.d d && same_relation (due_relation i l) l.relation) (each_due d i ls) e in
    let (a, b) = and_true (eqb l.d d) (same_relation (due_relation i l) l.relation) p in
    let (x, y) = due_each d i ls q in
    ((eqb-true l.d d a, x), (relation_same (due_relation i l) l.relation b, y))

same_as : (p q : Relation) → q ≡ p → same_relation p q ≡ true
same_as p q e = rw e (same_relation_law p)

each_due_law : (d i : ℕ) (ls : List Literal) → Every (λ l. l.d ≡ d) ls → Every (λ l. l.relation ≡ due_relation i l) ls → each_due d i ls ≡ true
each_due_law d i [] p q = refl
each_due_law d i (l ∷ ls) p q = rw (eq-eqb l.d d p.0, same_as (due_relation i l) l.relation q.0) (each_due_law d i ls p.1 q.1)

terms_are : (n d i : ℕ) (ts : List (List Literal)) → is_terms n d i ts ≡ true → Terms n d i ts
terms_are n d i [] e = tt
terms_are n d i (t ∷ ts) e =
    let (p, q) = and_true (each_due d i t && once 1 n t) (is_terms n d (suc i) ts) e in
    let (a, b) = and_true (each_due d i t) (once 1 n t) p in
    let (x, y) = due_each d i t a in
    (record { ds = x; relations = y; seats = once_is 1 n n (omega arith) t b }, terms_are n d (suc i) ts q)

are_terms : (n d i : ℕ) (ts : List (List Literal)) → Terms n d i ts → is_terms n d i ts ≡ true
are_terms n d i [] h = refl
are_terms n d i (t ∷ ts) h =
    rw (each_due_law d i t h.0.ds h.0.relations, is_once 1 n n (omega arith) t h.0.seats) (are_terms n d (suc i) ts h.1)

exactly_is : (n : ℕ) (ts : List (List Literal)) → is_exactly_one n ts ≡ true → ExactlyOne n ts
exactly_is n ts e =
    let (p, q) = and_true (eqb (length ts) n) (is_terms n (term_d ts) 1 ts) e in
    record { d = term_d ts; number = eqb-true (length ts) n p; terms = terms_are n (term_d ts) 1 ts q }

-- the d of the first literal
first_d : (n d : ℕ) (ts : List (List Literal)) → length ts ≡ n → Terms n d 1 ts → is_terms n (term_d ts) 1 ts ≡ true
first_d n d [] e h = refl
first_d n d ([] ∷ ts) e h = let z = h.0.seats.once 1 (omega arith) (omega arith) in absurd (omega arith)
first_d n d ((l ∷ t) ∷ ts) e h = subst (λ (x : ℕ). is_terms n x 1 ((l ∷ t) ∷ ts) ≡ true) (sym h.0.ds.0) (are_terms n d 1 ((l ∷ t) ∷ ts) h)

is_exactly : (n : ℕ) (ts : List (List Literal)) → ExactlyOne n ts → is_exactly_one n ts ≡ true
is_exactly n ts h = rw (eq-eqb (length ts) n h.number) (first_d n h.d ts h.number h.terms)

-- ---- each test and its rule

pub everyone_exactly : (n : ℕ) (ls : List Literal) → is_everyone n ls ≡ true ↔ Everyone n ls
everyone_exactly n ls = (everyone_is n ls, is_everyone_law n ls)

pub one_exactly : (n : ℕ) (ts : List (List Literal)) → is_exactly_one n ts ≡ true ↔ ExactlyOne n ts
one_exactly n ts = (exactly_is n ts, is_exactly n ts)

-- ---- all

pub fits_kept : (n : ℕ) (c : Claim) → fits n c ≡ true → KeptIn n c
fits_kept n (state most v p) e = leb-true v most e
fits_kept n (everyone g) e = everyone_is n g.literals e
fits_kept n (exactly p ts) e = exactly_is n ts e

pub kept_fits : (n : ℕ) (c : Claim) → KeptIn n c → fits n c ≡ true
kept_fits n (state most v p) h = le-leb v most h
kept_fits n (everyone g) h = is_everyone_law n g.literals h
kept_fits n (exactly p ts) h = is_exactly n ts h
