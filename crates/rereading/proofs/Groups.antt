-- A written group is said by the grammar, is symmetric, and is the group. Its literals stand in rising seat order, all with one relation
-- and one d, so each seat is there once. A written test of the shared number is that test.
use Prim.Native.Nat.{ℕ, zero, suc, ◌+◌, ◌-◌, ◌^◌, ◌≤◌, ◌<◌}
use mathlib.Core.Path.{◌≡◌, refl, sym, ap, ap₂, ◌∙◌}
use mathlib.Core.Bool.{Bool, true, false, ◌&&◌, ◌||◌, false≢true}
use mathlib.Core.List.{List, [], ◌∷◌}
use mathlib.Core.Option.{Option, none, some}
use native.Mathlib.Nat.{not-suc-le-zero, le_of_suc-le-suc}
use native.Mathlib.Omega.{arith}
use borrow.Author.Tests.{le-leb, eq-eqb, ne_eqb}
use lib.Dec.{eqb}
use lib.ListN.{length}
use Rattle.card.specs.Limits.{number_digits, word_digits, most_nodes}
use Rattle.card.specs.Card.{Kind, everyone, others, Sign, all, any, Relation, is, isnt, Leaf, group, one, shared_is, atom}
use Rattle.card.specs.Valid.{first_seat, Enough, ValidLeaf, Every}
use Rattle.marks_on_a_card.specs.Marks.{number, placed, marks}
use Rattle.reading.specs.Reader.{Place}
use Rattle.reading.specs.Group.{relation, Literal, literal_of, literals_of, Tested, of_seats, of_shared}
use Rattle.reading.specs.Guard.{is_some}
use Rattle.reading.specs.Shape.{Range}
use Rattle.reading.specs.Checks.{most_in}
use Rattle.reading.specs.Judgements.{Judgement, has, has_from, once, kind_of, same_relation, alike, symmetric, broken, judged_group, judged_test, group_in, leaf_in}
use Rattle.grammar.specs.Grammar.{sign_at, valued, LiteralSaid, literal as a_literal, OthersSaid, close, next, GroupSaid, conjoined, disjoined, shared_test, TestedSaid, test_seats, test_shared, GuardSaid, unary, grouped}
use Rattle.grammar.specs.Counted.{Within, counted_guard}
use Rattle.phrases.specs.Phrases.{◌▸◌, num}
use Rattle.texts.specs.Shared.{shared_text}
use Rattle.texts.specs.Writing.{literal, literals, group_text}
use Rattle.rereading.proofs.Lexed.{Apart, number_mark, seat_mark}

-- a judgement that is not broken
abbrev pub Kept : ℕ → Judgement → Type 0
Kept n j = broken n j ≡ none

-- how many values the shared number has, by the range that is declared for it
abbrev pub values_in : Option Range → ℕ
values_in none = 0
values_in (some x) = suc x.top

-- ---- literals of the seats from i on, c of them

abbrev Run : Relation → ℕ → ℕ → ℕ → List Literal → Type 0
Run q d i zero [] = Unit {0}
Run q d i zero (l ∷ ls) = ⊥
Run q d i (suc c) [] = ⊥
Run q d i (suc c) (l ∷ ls) = (l.seat ≡ i) × (l.relation ≡ q) × (l.d ≡ d) × Run q d (suc i) c ls

run_length : (q : Relation) (d i c : ℕ) (ls : List Literal) → Run q d i c ls → length ls ≡ c
run_length q d i zero [] h = refl
run_length q d i zero (l ∷ ls) h = absurd h
run_length q d i (suc c) [] h = absurd h
run_length q d i (suc c) (l ∷ ls) h = ap suc (run_length q d (suc i) c ls h.3)

same_relation_law : (q : Relation) → same_relation q q ≡ true
same_relation_law is = refl
same_relation_law isnt = refl

all_three : (a b c : Bool) → a ≡ true → b ≡ true → c ≡ true → (a && b && c) ≡ true
all_three a b c p q r = rw (p, q, r)

run_alike : (q : Relation) (d : ℕ) (l : Literal) → l.relation ≡ q → l.d ≡ d → (i c : ℕ) (ls : List Literal) → Run q d i c ls → alike l ls ≡ true
run_alike q d l r e i zero [] h = refl
run_alike q d l r e i zero (x ∷ ls) h = absurd h
run_alike q d l r e i (suc c) [] h = absurd h
run_alike q d l r e i (suc c) (x ∷ ls) h =
    all_three _ _ _ (ap₂ same_relation r h.1 ∙ same_relation_law q) (eq-eqb l.d x.d (e ∙ sym h.2)) (run_alike q d l r e (suc i) c ls h.3)

and_true : (a b : Bool) → (a && b) ≡ true → (a ≡ true) × (b ≡ true)
and_true true b e = (refl, e)
and_true false b e = absurd (false≢true e)

or_true : (a : Bool) → (a || true) ≡ true
or_true true = refl
or_true false = refl

more_has : (x : Literal) (j c : ℕ) (ls : List Literal) → has_from j c ls ≡ true → has_from j c (x ∷ ls) ≡ true
more_has x j zero ls e = refl
more_has x j (suc c) ls e =
    let (p, t) = and_true (has j ls) (has_from (suc j) c ls) e in
    rw (p, or_true (eqb x.seat j)) (more_has x (suc j) c ls t)

run_has : (q : Relation) (d i c : ℕ) (ls : List Literal) → Run q d i c ls → has_from i c ls ≡ true
run_has q d i zero ls h = refl
run_has q d i (suc c) [] h = absurd h
run_has q d i (suc c) (l ∷ ls) h = rw (eq-eqb l.seat i h.0) (more_has l (suc i) c ls (run_has q d (suc i) c ls h.3))

run_once : (q : Relation) (d i c : ℕ) (ls : List Literal) → Run q d i c ls → (n : ℕ) → n ≡ c → once i n ls ≡ true
run_once q d i c ls h n e = rw (e, eq-eqb (length ls) c (run_length q d i c ls h), run_has q d i c ls h)

kind_is : (q : Relation) (d : ℕ) (kind : Kind) (n : ℕ) (ls : List Literal) → first_seat kind ≤ n → Run q d (first_seat kind) (suc (n - first_seat kind)) ls → kind_of n ls ≡ some kind
kind_is q d everyone n ls h r = rw (run_once q d 1 (suc (n - 1)) ls r n (omega arith))
kind_is q d others n ls h r =
    rw (ne_eqb (length ls) n (λ z. omega (arith, run_length q d 2 (suc (n - 2)) ls r, z)), run_once q d 2 (suc (n - 2)) ls r (n - 1) (omega arith))

pub at_least : (s : Sign) (kind : Kind) (n : ℕ) → Enough s kind n → first_seat kind ≤ n
at_least all kind n h = h
at_least any kind n h = omega arith

-- ---- the marks, in a card that ends at place e

module _ (e : ℕ) where
  abbrev M : List ℕ → Place
  M r = marks e 0 r

  record LiteralWritten (q : Relation) (d i : ℕ) (ms rest : Place) : Type 0 where
    place : Place
    said : LiteralSaid ms (literal_of i q d place) rest

  literal_written : (q : Relation) (d i : ℕ) (r : List ℕ) → i < 10 ^ word_digits → d < 10 ^ number_digits → Apart r → LiteralWritten q d i (M (literal q d i r)) (M r)
  literal_written is d i r h l a = rw (seat_mark e i ("=" ▸ num d r) h refl, number_mark e d r l a) (record { place = _; said = a_literal })
  literal_written isnt d i r h l a = rw (seat_mark e i ("!=" ▸ num d r) h refl, number_mark e d r l a) (record { place = _; said = a_literal })

  apart : (s : Sign) (q : Relation) (d i c : ℕ) (r : List ℕ) → Apart (literals s q d i c (")" ▸ r))
  apart s q d i zero r = record { no_digit = refl; no_point = refl }
  apart all q d i (suc c) r = record { no_digit = refl; no_point = refl }
  apart any q d i (suc c) r = record { no_digit = refl; no_point = refl }

  record OthersWritten (s : Sign) (q : Relation) (d i c : ℕ) (ms rest : Place) : Type 0 where
    found : List Literal
    said : OthersSaid s ms found rest
    run : Run q d i c found

  others_written : (s : Sign) (q : Relation) (d i c : ℕ) (r : List ℕ) → i + c < 10 ^ word_digits → d < 10 ^ number_digits
      → OthersWritten s q d (suc i) c (M (literals s q d i c (")" ▸ r))) (M r)
  others_written s q d i zero r h l = record { found = []; said = close; run = tt }
  others_written all q d i (suc c) r h l =
      let w = literal_written q d (suc i) (literals all q d (suc i) c (")" ▸ r)) (omega arith) l (apart all q d (suc i) c r) in
      let o = others_written all q d (suc i) c r (omega arith) l in
      record { found = literal_of (suc i) q d w.place ∷ o.found; said = next w.said o.said; run = (refl, refl, refl, o.run) }
  others_written any q d i (suc c) r h l =
      let w = literal_written q d (suc i) (literals any q d (suc i) c (")" ▸ r)) (omega arith) l (apart any q d (suc i) c r) in
      let o = others_written any q d (suc i) c r (omega arith) l in
      record { found = literal_of (suc i) q d w.place ∷ o.found; said = next w.said o.said; run = (refl, refl, refl, o.run) }

  -- ---- the group

  pub record GroupWritten (n k : ℕ) (g : Option Range) (a : Leaf) (ms rest : Place) : Type 0 where
    pub found : Tested
    pub said : GuardSaid (TestedSaid (is_some g)) unary ms (atom found) rest
    pub means : leaf_in n found ≡ a
    pub kept : Every (Kept n) (judged_test k (most_in g) found)
    pub within : (nodes around : ℕ) → suc nodes ≤ most_nodes → Every Within (counted_guard nodes around said)

  module _ (n k : ℕ) (g : Option Range) (kind : Kind) (s : Sign) (q : Relation) (d : ℕ) (h : first_seat kind ≤ n) (v : d ≤ k) where
    -- what its literals say, wherever they stand
    symmetric_there : (p : Place) (ls : List Literal) → Run q d (suc (first_seat kind)) (n - first_seat kind) ls → symmetric n (literal_of (first_seat kind) q d p ∷ ls) ≡ true
    symmetric_there p ls r =
        let l = literal_of (first_seat kind) q d p in
        rw (run_alike q d l refl refl (suc (first_seat kind)) (n - first_seat kind) ls r, kind_is q d kind n (l ∷ ls) h (refl, refl, refl, r))

    means_there : (p : Place) (ls : List Literal) → Run q d (suc (first_seat kind)) (n - first_seat kind) ls → group_in n s (literal_of (first_seat kind) q d p ∷ ls) ≡ group kind s q d
    means_there p ls r = rw (kind_is q d kind n (literal_of (first_seat kind) q d p ∷ ls) h (refl, refl, refl, r))

    kept_there : (at p : Place) (ls : List Literal) → Run q d (suc (first_seat kind)) (n - first_seat kind) ls → Every (Kept n) (judged_group k (literals_of at s (literal_of (first_seat kind) q d p ∷ ls)))
    kept_there at p ls r = (rw (symmetric_there p ls r), (rw (le-leb d k v), tt))

    -- behind the bracket at a
    pub made : (a : ℕ) (ms rest p : Place) (ls : List Literal) → Run q d (suc (first_seat kind)) (n - first_seat kind) ls
        → GroupSaid (sign_at "(" a ∷ ms) ms (literals_of (sign_at "(" a ∷ ms) s (literal_of (first_seat kind) q d p ∷ ls)) rest → GroupWritten n k g (group kind s q d) (sign_at "(" a ∷ ms) rest
    made a ms rest p ls r w = record {
      found = of_seats (literals_of (sign_at "(" a ∷ ms) s (literal_of (first_seat kind) q d p ∷ ls));
      said = grouped (test_seats w);
      means = means_there p ls r;
      kept = kept_there (sign_at "(" a ∷ ms) p ls r;
      within = λ nodes around l. (l, tt);
    }

  -- two literals at least, joined by `|`
  some_more : (q : Relation) (d i c : ℕ) (p : Place) (l : Literal) {ms ns rest : Place} → LiteralSaid ms l ns → 0 < c → (ls : List Literal) → Run q d i c ls → OthersSaid any ns ls rest → GroupSaid p ms (literals_of p any (l ∷ ls)) rest
  some_more q d i zero p l w h ls r o = absurd (omega arith)
  some_more q d i (suc c) p l w h [] r o = absurd r
  some_more q d i (suc c) p l w h (x ∷ ls) r o = disjoined w o

  -- ---- a test of the shared number

  shared_made : (n k : ℕ) (x : Range) (q : Relation) (v : ℕ) → v ≤ x.top → (a b c d f : ℕ) (rest : Place)
      → GroupWritten n k (some x) (shared_is q v) (sign_at "(" a ∷ sign_at "g" b ∷ sign_at (relation q) c ∷ placed (number v) d ∷ sign_at ")" f ∷ rest) rest
  shared_made n k x q v h a b c d f rest = record {
    found = of_shared (record { relation = q; value = valued v (placed (number v) d ∷ sign_at ")" f ∷ rest) });
    said = grouped (test_shared shared_test);
    means = refl;
    kept = (rw (le-leb v x.top h), tt);
    within = λ nodes around l. (l, tt);
  }

  shared_written : (n k : ℕ) (x : Range) (q : Relation) (v : ℕ) (r : List ℕ) → v ≤ x.top → v < 10 ^ number_digits → GroupWritten n k (some x) (shared_is q v) (M (shared_text q v r)) (M r)
  shared_written n k x is v r h l = rw (number_mark e v (")" ▸ r) l (record { no_digit = refl; no_point = refl })) (shared_made n k x is v h _ _ _ _ _ (M r))
  shared_written n k x isnt v r h l = rw (number_mark e v (")" ▸ r) l (record { no_digit = refl; no_point = refl })) (shared_made n k x isnt v h _ _ _ _ _ (M r))

  pub group_written : (n k : ℕ) (g : Option Range) → n < 10 ^ word_digits → k < 10 ^ number_digits → values_in g < 10 ^ number_digits → (a : Leaf) (r : List ℕ) → ValidLeaf n k (values_in g) a
      → GroupWritten n k g a (M (group_text n a r)) (M r)
  group_written n k g small_n small-k small-g (group kind all q d) r v =
      let w = literal_written q d (first_seat kind) (literals all q d (first_seat kind) (n - first_seat kind) (")" ▸ r)) (omega arith) (omega arith) (apart all q d (first_seat kind) (n - first_seat kind) r) in
      let o = others_written all q d (first_seat kind) (n - first_seat kind) r (omega arith) (omega arith) in
      made n k g kind all q d v.0 v.1 _ _ _ w.place o.found o.run (conjoined w.said o.said)
  group_written n k g small_n small-k small-g (group kind any q d) r v =
      let l : first_seat kind ≤ n = omega arith in
      let w = literal_written q d (first_seat kind) (literals any q d (first_seat kind) (n - first_seat kind) (")" ▸ r)) (omega arith) (omega arith) (apart any q d (first_seat kind) (n - first_seat kind) r) in
      let o = others_written any q d (first_seat kind) (n - first_seat kind) r (omega arith) (omega arith) in
      made n k g kind any q d l v.1 _ _ _ w.place o.found o.run (some_more q d (suc (first_seat kind)) (n - first_seat kind) _ _ w.said (omega arith) o.found o.run o.said)
  group_written n k g small_n small-k small-g (one d) r v = absurd v
  group_written n k none small_n small-k small-g (shared_is q v) r h = absurd (not-suc-le-zero h)
  group_written n k (some x) small_n small-k small-g (shared_is q v) r h = shared_written n k x q v r (le_of_suc-le-suc h) (omega arith)
