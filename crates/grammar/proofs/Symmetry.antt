-- A group is judged symmetric exactly when it is: as many literals as seats, each seat among them, is each seat once and no other. Each
-- seat is counted at least once, and all counts together are no more than the literals. Assumes nothing.
use Prim.Native.Nat.{ℕ, zero, suc, ◌+◌, ◌-◌, ◌≤◌, ◌<◌, max}
use mathlib.Core.Path.{◌≡◌, refl, sym, ◌∙◌}
use mathlib.Core.Logic.{◌⊎◌, inl, inr}
use mathlib.Core.Bool.{Bool, true, false, ◌&&◌, ◌||◌, false≢true}
use mathlib.Core.List.{List, [], ◌∷◌}
use mathlib.Core.Option.{none, some}
use native.Mathlib.Omega.{arith}
use native.Mathlib.Decide.{dec_le, dec_lt}
use lib.Dec.{eqb}
use borrow.Author.Tests.{eqb-true, eqb-false, eq-eqb}
use lib.ListN.{length}
use Rattle.card.specs.Text.{when◌then◌else◌}
use Rattle.card.specs.Card.{everyone, others, Relation, is, isnt}
use Rattle.card.specs.Valid.{Every}
use Rattle.reading.specs.Guard.{is_some}
use Rattle.reading.specs.Group.{Literal}
use Rattle.reading.specs.Judgements.{has, has_from, once, kind_of, same_relation, alike, symmetric}
use Rattle.grammar.specs.Rules.{times_in, OnceEach, Symmetric}
use Rattle.reading.proofs.Through.{and_true}

-- ---- one relation and one d

pub relation_same : (p q : Relation) → same_relation p q ≡ true → q ≡ p
relation_same is is e = refl
relation_same is isnt e = absurd (false≢true e)
relation_same isnt is e = absurd (false≢true e)
relation_same isnt isnt e = refl

pub same_relation_law : (p : Relation) → same_relation p p ≡ true
same_relation_law is = refl
same_relation_law isnt = refl

pub alike_all : (l : Literal) (ls : List Literal) → alike l ls ≡ true → Every (λ x. x.relation ≡ l.relation) ls × Every (λ x. x.d ≡ l.d) ls
alike_all l [] e = (tt, tt)
alike_all l (x ∷ ls) e =
    let (y, z) = and_true (same_relation l.relation x.relation && eqb l.d x.d) (alike l ls) e in
    let (v, w) = and_true (same_relation l.relation x.relation) (eqb l.d x.d) y in
    let (p, q) = alike_all l ls z in
    ((relation_same l.relation x.relation v, p), (sym (eqb-true l.d x.d w), q))

pub all_alike : (l : Literal) (ls : List Literal) → Every (λ x. x.relation ≡ l.relation) ls → Every (λ x. x.d ≡ l.d) ls → alike l ls ≡ true
all_alike l [] p q = refl
all_alike l (x ∷ ls) p q = rw (p.0, same_relation_law l.relation, eq-eqb l.d x.d (sym q.0)) (all_alike l ls p.1 q.1)

-- ---- seats

-- does v lie among the c seats from i on? 1 or 0
hits : ℕ → ℕ → ℕ → ℕ
hits i zero v = 0
hits i (suc c) v = (when eqb v i then 1 else 0) + hits (suc i) c v

-- literals that name one of them
named : ℕ → ℕ → List Literal → ℕ
named i zero ls = 0
named i (suc c) ls = times_in i ls + named (suc i) c ls

one_or_none : (v i : ℕ) (C : Type 0) → (v ≡ i → ◌≡◌ {A = ℕ} (when eqb v i then 1 else 0) 1 → C) → ((v ≡ i → ⊥) → ◌≡◌ {A = ℕ} (when eqb v i then 1 else 0) 0 → C) → C
one_or_none v i C f g = go (eqb v i) refl
  where
    go : (b : Bool) → eqb v i ≡ b → C
    go true e = f (eqb-true v i e) (rw e)
    go false e = g (eqb-false v i e) (rw e)

hits_below : (i c v : ℕ) → v < i → hits i c v ≡ 0
unfolding hits
hits_below i zero v h = refl
hits_below i (suc c) v h = one_or_none v i _ (λ e. absurd (omega arith)) (λ _ z. omega (arith, z, hits_below (suc i) c v (omega arith)))

hits_above : (i c v : ℕ) → i + c ≤ v → hits i c v ≡ 0
unfolding hits
hits_above i zero v h = refl
hits_above i (suc c) v h = one_or_none v i _ (λ e. absurd (omega arith)) (λ _ z. omega (arith, z, hits_above (suc i) c v (omega arith)))

hits_within : (i c v : ℕ) → i ≤ v → v < i + c → hits i c v ≡ 1
unfolding hits
hits_within i zero v h k = absurd (omega arith)
hits_within i (suc c) v h k = one_or_none v i _
    (λ e z. omega (arith, z, hits_below (suc i) c v (omega arith))) (λ n z. omega (arith, z, hits_within (suc i) c v (omega arith) (omega arith)))

named_more : (i c : ℕ) (x : Literal) (ls : List Literal) → named i c (x ∷ ls) ≡ hits i c x.seat + named i c ls
unfolding hits named
named_more i zero x ls = refl
named_more i (suc c) x ls = omega (arith, named_more (suc i) c x ls)

none_named : (i c : ℕ) → named i c [] ≡ 0
unfolding named
none_named i zero = refl
none_named i (suc c) = omega (arith, none_named (suc i) c)

-- with any other seat they are no more than the literals
named_most : (i c j : ℕ) (ls : List Literal) → (j < i) ⊎ (i + c ≤ j) → named i c ls + times_in j ls ≤ length ls
named_most i c j [] h = omega (arith, none_named i c)
named_most i c j (x ∷ ls) h = one_or_none x.seat j _
    (λ e z. omega (arith, named_more i c x ls, named_most i c j ls h, hit h e, z))
    (λ _ z. omega (arith, named_more i c x ls, named_most i c j ls h, most, z))
  where
    hit : (j < i) ⊎ (i + c ≤ j) → x.seat ≡ j → hits i c x.seat ≡ 0
    hit (inl l) e = hits_below i c x.seat (omega arith)
    hit (inr l) e = hits_above i c x.seat (omega arith)

    most : hits i c x.seat ≤ 1
    most = go (dec_le i x.seat) (dec_lt x.seat (i + c))
      where
        go : Dec (i ≤ x.seat) → Dec (x.seat < i + c) → hits i c x.seat ≤ 1
        go (yes a) (yes b) = omega (arith, hits_within i c x.seat a b)
        go (yes a) (no b) = omega (arith, hits_above i c x.seat (omega arith))
        go (no a) (yes b) = omega (arith, hits_below i c x.seat (omega arith))
        go (no a) (no b) = omega (arith, hits_below i c x.seat (omega arith))

or_true : (a b : Bool) → a || b ≡ true → (a ≡ true) ⊎ (b ≡ true)
or_true true b e = inl refl
or_true false b e = inr e

has_times : (i : ℕ) (ls : List Literal) → has i ls ≡ true → 1 ≤ times_in i ls
has_times i [] e = absurd (false≢true e)
has_times i (l ∷ ls) e = go (or_true (eqb l.seat i) (has i ls) e) (has_times i ls)
  where
    go : (eqb l.seat i ≡ true) ⊎ (has i ls ≡ true) → (has i ls ≡ true → 1 ≤ times_in i ls) → 1 ≤ times_in i (l ∷ ls)
    go (inl z) h = rw z (omega arith)
    go (inr z) h = omega (arith, h z)

times_has : (i : ℕ) (ls : List Literal) → 1 ≤ times_in i ls → has i ls ≡ true
times_has i [] h = absurd (omega arith)
times_has i (l ∷ ls) h = go (eqb l.seat i) h (times_has i ls)
  where
    go : (b : Bool) → 1 ≤ (when b then 1 else 0) + times_in i ls → (1 ≤ times_in i ls → has i ls ≡ true) → (b || has i ls) ≡ true
    go true h k = refl
    go false h k = k (omega arith)

-- each at least once, and together no more than there are: each once
each_once : (i c : ℕ) (ls : List Literal) → has_from i c ls ≡ true → c ≤ named i c ls
unfolding named
each_once i zero ls e = omega arith
each_once i (suc c) ls e =
    let (h, k) = and_true (has i ls) (has_from (suc i) c ls) e in
    omega (arith, has_times i ls h, each_once (suc i) c ls k)

exactly_once : (i c : ℕ) (ls : List Literal) → has_from i c ls ≡ true → named i c ls ≤ c → (j : ℕ) → i ≤ j → j < i + c → times_in j ls ≡ 1
unfolding named
exactly_once i zero ls e h j l k = absurd (omega arith)
exactly_once i (suc c) ls e h j l k =
    let (p, q) = and_true (has i ls) (has_from (suc i) c ls) e in
    go (dec_le (suc i) j) (has_times i ls p) (each_once (suc i) c ls q) (exactly_once (suc i) c ls q)
  where
    go : Dec (suc i ≤ j) → 1 ≤ times_in i ls → c ≤ named (suc i) c ls
        → (named (suc i) c ls ≤ c → (j : ℕ) → suc i ≤ j → j < suc i + c → times_in j ls ≡ 1) → times_in j ls ≡ 1
    go (yes a) p q f = f (omega arith) j a (omega arith)
    go (no a) p q f = let z : j ≡ i = omega arith in rw z (omega arith)

module _ (i c : ℕ) (ls : List Literal) where
  once_true : once i c ls ≡ true → (length ls ≡ c) × (has_from i c ls ≡ true)
  once_true e = let (p, q) = and_true (eqb (length ls) c) (has_from i c ls) e in (eqb-true (length ls) c p, q)

  once_each : once i c ls ≡ true → ((j : ℕ) → i ≤ j → j < i + c → times_in j ls ≡ 1) × ((j : ℕ) → (j < i) ⊎ (i + c ≤ j) → times_in j ls ≡ 0)
  once_each e =
      let (l, h) = once_true e in
      let n = each_once i c ls h in
      (exactly_once i c ls h (omega (arith, named_most i c (i + c) ls (inr (omega arith)))), λ j o. omega (arith, named_most i c j ls o))

-- all of them are named, and nothing else: so many literals
only_named : (i c : ℕ) (ls : List Literal) → ((j : ℕ) → (j < i) ⊎ (i + c ≤ j) → times_in j ls ≡ 0) → length ls ≡ named i c ls
only_named i c [] h = sym (none_named i c)
only_named i c (x ∷ ls) h =
    let k : (j : ℕ) → (j < i) ⊎ (i + c ≤ j) → times_in j ls ≡ 0 = λ j o. omega (arith, h j o) in
    omega (arith, only_named i c ls k, named_more i c x ls, hit (dec_le i x.seat) (dec_lt x.seat (i + c)))
  where
    itself : 1 ≤ times_in x.seat (x ∷ ls)
    itself = rw (eq-eqb x.seat x.seat refl) (omega arith)

    hit : Dec (i ≤ x.seat) → Dec (x.seat < i + c) → hits i c x.seat ≡ 1
    hit (yes a) (yes b) = hits_within i c x.seat a b
    hit (yes a) (no b) = absurd (omega (arith, itself, h x.seat (inr (omega arith))))
    hit (no a) (yes b) = absurd (omega (arith, itself, h x.seat (inl (omega arith))))
    hit (no a) (no b) = absurd (omega (arith, itself, h x.seat (inl (omega arith))))

once_named : (i c : ℕ) (ls : List Literal) → ((j : ℕ) → i ≤ j → j < i + c → times_in j ls ≡ 1) → (named i c ls ≡ c) × (has_from i c ls ≡ true)
unfolding named
once_named i zero ls h = (refl, refl)
once_named i (suc c) ls h =
    let (n, q) = once_named (suc i) c ls (λ j a b. h j (omega arith) (omega arith)) in
    let o = h i (omega arith) (omega arith) in
    (omega arith, rw (times_has i ls (omega arith)) q)

each_once_true : (i c : ℕ) (ls : List Literal) → ((j : ℕ) → i ≤ j → j < i + c → times_in j ls ≡ 1) → ((j : ℕ) → (j < i) ⊎ (i + c ≤ j) → times_in j ls ≡ 0)
    → once i c ls ≡ true
each_once_true i c ls h k =
    let (n, q) = once_named i c ls h in
    rw (eq-eqb (length ls) c (only_named i c ls k ∙ n)) q

-- ---- the kinds

-- the c seats from a on are those from a to n
module _ (a c n : ℕ) (last : a + c ≡ max a (suc n)) where
  beyond : (j : ℕ) → (j < a) ⊎ (n < j) → (j < a) ⊎ (a + c ≤ j)
  beyond j (inl l) = inl l
  beyond j (inr l) = go (dec_lt j a)
    where
      go : Dec (j < a) → (j < a) ⊎ (a + c ≤ j)
      go (yes b) = inl b
      go (no b) = inr (omega arith)

  above : (j : ℕ) → (j < a) ⊎ (a + c ≤ j) → (j < a) ⊎ (n < j)
  above j (inl l) = inl l
  above j (inr l) = inr (omega arith)

  pub once_is : (ls : List Literal) → once a c ls ≡ true → OnceEach a n ls
  once_is ls e = let (p, q) = once_each a c ls e in record { once = λ j h k. p j h (omega arith); only = λ j o. q j (beyond j o) }

  pub is_once : (ls : List Literal) → OnceEach a n ls → once a c ls ≡ true
  is_once ls o = each_once_true a c ls (λ j h k. o.once j h (omega arith)) (λ j l. o.only j (above j l))

kind_some : (a b : Bool) → is_some (when a then some everyone else (when b then some others else none)) ≡ true → (a ≡ true) ⊎ (b ≡ true)
kind_some true b e = inl refl
kind_some false true e = inr refl
kind_some false false e = absurd (false≢true e)

some_kind : (a b : Bool) → (a ≡ true) ⊎ (b ≡ true) → is_some (when a then some everyone else (when b then some others else none)) ≡ true
some_kind true b e = refl
some_kind false true e = refl
some_kind false false (inl e) = absurd (false≢true e)
some_kind false false (inr e) = absurd (false≢true e)

pub symmetric_is : (n : ℕ) (ls : List Literal) → symmetric n ls ≡ true → Symmetric n ls
symmetric_is n [] e = absurd (false≢true e)
symmetric_is n (l ∷ ls) e =
    let (p, q) = and_true (alike l ls) (is_some (kind_of n (l ∷ ls))) e in
    let (r, d) = alike_all l ls p in
    record {
      some = omega arith;
      relation = l.relation;
      relations = (refl, r);
      d = l.d;
      ds = (refl, d);
      seats = seats (kind_some (once 1 n (l ∷ ls)) (once 2 (n - 1) (l ∷ ls)) q);
    }
  where
    seats : (once 1 n (l ∷ ls) ≡ true) ⊎ (once 2 (n - 1) (l ∷ ls) ≡ true) → OnceEach 1 n (l ∷ ls) ⊎ OnceEach 2 n (l ∷ ls)
    seats (inl e) = inl (once_is 1 n n (omega arith) (l ∷ ls) e)
    seats (inr e) = inr (once_is 2 (n - 1) n (omega arith) (l ∷ ls) e)

-- all equal to one, so to the first
pub first_of : {A B : Type 0} (f : A → B) (b : B) (x : A) (xs : List A) → f x ≡ b → Every (λ y. f y ≡ b) xs → Every (λ y. f y ≡ f x) xs
first_of f b x [] e h = tt
first_of f b x (y ∷ xs) e h = (h.0 ∙ sym e, first_of f b x xs e h.1)

pub is_symmetric : (n : ℕ) (ls : List Literal) → Symmetric n ls → symmetric n ls ≡ true
is_symmetric n [] s = absurd (omega (arith, s.some))
is_symmetric n (l ∷ ls) s =
    let r = s.relations in
    let d = s.ds in
    rw (all_alike l ls (first_of (λ (x : Literal). x.relation) s.relation l ls r.0 r.1) (first_of (λ (x : Literal). x.d) s.d l ls d.0 d.1))
    (some_kind (once 1 n (l ∷ ls)) (once 2 (n - 1) (l ∷ ls)) (kind s.seats))
  where
    kind : OnceEach 1 n (l ∷ ls) ⊎ OnceEach 2 n (l ∷ ls) → (once 1 n (l ∷ ls) ≡ true) ⊎ (once 2 (n - 1) (l ∷ ls) ≡ true)
    kind (inl o) = inl (is_once 1 n n (omega arith) (l ∷ ls) o)
    kind (inr o) = inr (is_once 2 (n - 1) n (omega arith) (l ∷ ls) o)
