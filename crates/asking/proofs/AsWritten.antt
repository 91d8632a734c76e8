-- As it is written, an accepted question says what is taken from it. One literal settles literals that are joined: a false one by `&`, a true one
-- by `|`; and where each seat is named once, the literals have such a one exactly when the seats in their order have. Assumes nothing.
use Prim.Native.Nat.{ℕ, zero, suc, ◌+◌, ◌-◌, ◌≤◌, ◌<◌}
use mathlib.Core.Path.{◌≡◌, refl, sym, ap, ap₂, fun_ext, ◌∙◌}
use mathlib.Core.Bool.{Bool, true, false, not, ◌&&◌, ◌||◌, false≢true}
use mathlib.Core.Logic.{inl, inr}
use mathlib.Core.List.{List, [], ◌∷◌}
use native.Mathlib.Omega.{arith}
use native.Mathlib.Decide.{dec_le}
use lib.Dec.{eqb, eqb-suc-suc, eqb-suc-zero, eqb-zero-suc}
use borrow.Author.Tests.{eqb-true, eq-eqb}
use lib.ListN.{length}
use Rattle.card.specs.Text.{when◌then◌else◌}
use Rattle.card.specs.Card.{Sign, all, any, Relation, is, isnt, Formula, atom, neg, and, or}
use Rattle.card.specs.Valid.{Every}
use Rattle.late.specs.Values.{most_of}
use Rattle.reading.specs.Group.{Literal}
use Rattle.grammar.specs.Rules.{times_in, OnceEach}
use Rattle.grammar.specs.Verdicts.{In, first, later}
use Rattle.grammar.proofs.Fair.{every_append}
use Rattle.meaning.specs.Sums.{upto}
use Rattle.meaning.specs.Formulas.{value}
use Rattle.meaning.specs.Seats.{Seating, state, without, literal, joined, alone, any_of}
use Rattle.asking.specs.Question.{Item, a_group, exactly_one, a_test}
use Rattle.asking.specs.Meant.{one_in, Question, holds_atom, holds_on}
use Rattle.asking.specs.Asking.{claims_of, claims, Everyone, Term, Terms, ExactlyOne, KeptIn, first_relation, literal_d, term_d, atom_in, question_in, QuestionAccepted}
use Rattle.asking.specs.AsWritten.{literal_holds, together, item_holds}

-- ---- one that settles the whole

abbrev decisive : Sign → Bool
decisive all = false
decisive any = true

and_none : (b : Bool) → (b && false) ≡ false
and_none true = refl
and_none false = refl

or_some : (b : Bool) → (b || true) ≡ true
or_some true = refl
or_some false = refl

module _ {A : Type 0} (f : A → Bool) where
  settled : (s : Sign) (l : List A) → together s f l ≡ decisive s → (a : A) × In a l × (f a ≡ decisive s)
  settled all [] e = absurd (false≢true (sym e))
  settled any [] e = absurd (false≢true e)
  settled all (a ∷ l) e = go (f a) refl e (settled all l)
    where
      go : (b : Bool) → f a ≡ b → (b && together all f l) ≡ false → (together all f l ≡ false → (c : A) × In c l × (f c ≡ false))
          → (c : A) × In c (a ∷ l) × (f c ≡ false)
      go true z e h = let (c, i, y) = h e in (c, later i, y)
      go false z e h = (a, first, z)
  settled any (a ∷ l) e = go (f a) refl e (settled any l)
    where
      go : (b : Bool) → f a ≡ b → (b || together any f l) ≡ true → (together any f l ≡ true → (c : A) × In c l × (f c ≡ true))
          → (c : A) × In c (a ∷ l) × (f c ≡ true)
      go true z e h = (a, first, z)
      go false z e h = let (c, i, y) = h e in (c, later i, y)

  settles : (s : Sign) (l : List A) (a : A) → In a l → f a ≡ decisive s → together s f l ≡ decisive s
  settles all [] a i e = elim i [ ]
  settles any [] a i e = elim i [ ]
  settles all (_ ∷ l) a first e = rw e
  settles any (_ ∷ l) a first e = rw e
  settles all (b ∷ l) a (later i) e = rw (settles all l a i e) (and_none (f b))
  settles any (b ∷ l) a (later i) e = rw (settles any l a i e) (or_some (f b))

both_ways : (v a b : Bool) → (a ≡ v → b ≡ v) → (b ≡ v → a ≡ v) → a ≡ b
both_ways true true true f g = refl
both_ways true true false f g = sym (f refl)
both_ways true false true f g = g refl
both_ways true false false f g = refl
both_ways false true true f g = refl
both_ways false true false f g = g refl
both_ways false false true f g = sym (f refl)
both_ways false false false f g = refl

-- ---- what is in a list

of_every : {A : Type 0} (P : A → Type 0) (l : List A) → Every P l → (a : A) → In a l → P a
of_every P [] h a i = elim i [ ]
of_every P (_ ∷ l) h a first = h.0
of_every P (b ∷ l) h a (later i) = of_every P l h.1 a i

upto_in : {A : Type 0} (n : ℕ) (f : ℕ → A) (i : ℕ) → i < n → In (f i) (upto n f)
upto_in zero f i l = absurd (omega arith)
upto_in (suc n) f zero l = first
upto_in (suc n) f (suc i) l = later (upto_in n (λ i. f (suc i)) i (omega arith))

in_upto : {A : Type 0} (n : ℕ) (f : ℕ → A) (a : A) → In a (upto n f) → (i : ℕ) × (i < n) × (a ≡ f i)
in_upto zero f a i = elim i [ ]
in_upto (suc n) f _ first = (0, omega arith, refl)
in_upto (suc n) f a (later h) = let (i, l, e) = in_upto n (λ i. f (suc i)) a h in (suc i, omega arith, e)

-- the seats that literals name
named_in : (i : ℕ) (ls : List Literal) → 1 ≤ times_in i ls → (l : Literal) × In l ls × (l.seat ≡ i)
named_in i [] h = absurd (omega arith)
named_in i (l ∷ ls) h = go (eqb l.seat i) refl h (named_in i ls)
  where
    go : (b : Bool) → eqb l.seat i ≡ b → 1 ≤ (when b then 1 else 0) + times_in i ls
        → (1 ≤ times_in i ls → (m : Literal) × In m ls × (m.seat ≡ i)) → (m : Literal) × In m (l ∷ ls) × (m.seat ≡ i)
    go true e h k = (l, first, eqb-true l.seat i e)
    go false e h k = let (m, j, z) = k (omega arith) in (m, later j, z)

in_named : (l : Literal) (ls : List Literal) → In l ls → 1 ≤ times_in l.seat ls
in_named l [] i = elim i [ ]
in_named l (_ ∷ ls) first = rw (eq-eqb l.seat l.seat refl) (omega arith)
in_named l (m ∷ ls) (later i) = omega (arith, in_named l ls i)

seat_due : (n : ℕ) (ls : List Literal) → OnceEach 1 n ls → (l : Literal) → In l ls → (1 ≤ l.seat) × (l.seat ≤ n)
seat_due n ls o l i = (low (dec_le 1 l.seat), high (dec_le l.seat n))
  where
    low : Dec (1 ≤ l.seat) → 1 ≤ l.seat
    low (yes a) = a
    low (no a) = absurd (omega (arith, in_named l ls i, o.only l.seat (inl (omega arith))))

    high : Dec (l.seat ≤ n) → l.seat ≤ n
    high (yes a) = a
    high (no a) = absurd (omega (arith, in_named l ls i, o.only l.seat (inr (omega arith))))

-- ---- literals that name each seat once, and the seats in their order

-- joined: f 0, …, f (n - 1)
abbrev in_order_of : Sign → ℕ → (ℕ → Bool) → Bool
in_order_of s n f = together s (λ (b : Bool). b) (upto n f)

module _ (n : ℕ) (x : Seating) (ls : List Literal) (o : OnceEach 1 n ls) (f : ℕ → Bool) where
  in_order : ((l : Literal) → In l ls → 1 ≤ l.seat → literal_holds x l ≡ f (l.seat - 1)) → (s : Sign) → together s (literal_holds x) ls ≡ in_order_of s n f
  in_order h s = both_ways (decisive s) (together s (literal_holds x) ls) (in_order_of s n f) there back
    where
      there : together s (literal_holds x) ls ≡ decisive s → in_order_of s n f ≡ decisive s
      there e =
          let (l, i, z) = settled (literal_holds x) s ls e in
          let (a, b) = seat_due n ls o l i in
          settles (λ (b : Bool). b) s (upto n f) (f (l.seat - 1)) (upto_in n f (l.seat - 1) (omega arith)) (sym (h l i a) ∙ z)

      back : in_order_of s n f ≡ decisive s → together s (literal_holds x) ls ≡ decisive s
      back e =
          let (b, i, z) = settled (λ (b : Bool). b) s (upto n f) e in
          let (j, k, y) = in_upto n f b i in
          let (l, m, w) = named_in (suc j) ls (omega (arith, o.once (suc j) (omega arith) (omega arith))) in
          let u : l.seat - 1 ≡ j = omega arith in
          settles (literal_holds x) s ls l m (h l m (omega arith) ∙ ap f u ∙ sym y ∙ z)

same_literal : (x : Seating) (l : Literal) (q : Relation) (d : ℕ) → l.relation ≡ q → l.d ≡ d → literal_holds x l ≡ literal q (eqb (state x.each (l.seat - 1)) d)
same_literal x l q d p e =
    ap (λ (r : Relation). literal r (eqb (state x.each (l.seat - 1)) l.d)) p ∙ ap (λ (v : ℕ). literal q (eqb (state x.each (l.seat - 1)) v)) e

-- the literal of one relation and d, of seat i
abbrev of_seat : Relation → ℕ → List ℕ → ℕ → Bool
of_seat q d x i = literal q (eqb (state x i) d)

joined_order : (s : Sign) (q : Relation) (d : ℕ) (x : List ℕ) → in_order_of s (length x) (of_seat q d x) ≡ joined s q d x
joined_order all q d [] = refl
joined_order any q d [] = refl
joined_order all q d (a ∷ x) = ap (λ (b : Bool). literal q (eqb a d) && b) (joined_order all q d x)
joined_order any q d (a ∷ x) = ap (λ (b : Bool). literal q (eqb a d) || b) (joined_order any q d x)

-- ---- a group

group_holds : (n : ℕ) (x : Seating) → length x.each ≡ n → (s : Sign) (ls : List Literal) → Everyone n ls
    → together s (literal_holds x) ls ≡ joined s (first_relation ls) (literal_d ls) x.each
group_holds n x e s [] h = absurd (omega (arith, h.some))
group_holds n x e s (l ∷ ls) h =
    in_order n x (l ∷ ls) h.seats (of_seat l.relation l.d x.each) each s ∙ ap (λ (m : ℕ). in_order_of s m (of_seat l.relation l.d x.each)) (sym e)
    ∙ joined_order s l.relation l.d x.each
  where
    each : (m : Literal) → In m (l ∷ ls) → 1 ≤ m.seat → literal_holds x m ≡ of_seat l.relation l.d x.each (m.seat - 1)
    each m i a =
        same_literal x m l.relation l.d
        (of_every (λ (y : Literal). y.relation ≡ h.relation) (l ∷ ls) h.relations m i ∙ sym h.relations.0)
        (of_every (λ (y : Literal). y.d ≡ h.d) (l ∷ ls) h.ds m i ∙ sym h.ds.0)

-- ---- an exactly-one

-- the relation due to seat j in term i, both from 0
abbrev due_at : ℕ → ℕ → Relation
due_at i j = when eqb j i then is else isnt

abbrev in_term : ℕ → List ℕ → ℕ → ℕ → Bool
in_term d x i j = literal (due_at i j) (eqb (state x j) d)

and_swap : (a b c : Bool) → (a && (b && c)) ≡ (b && (a && c))
and_swap true b c = refl
and_swap false true c = refl
and_swap false false c = refl

alone_order : (d : ℕ) (x : List ℕ) (i : ℕ) → i < length x → in_order_of all (length x) (in_term d x i) ≡ alone d x i
alone_order d [] i l = absurd (omega arith)
alone_order d (a ∷ x) zero l =
    ap (λ (f : ℕ → Bool). eqb a d && in_order_of all (length x) f)
    (fun_ext (λ j. ap (λ (b : Bool). literal (when b then is else isnt) (eqb (state x j) d)) (eqb-suc-zero j)))
    ∙ ap (λ (b : Bool). eqb a d && b) (joined_order all isnt d x)
alone_order d (a ∷ x) (suc i) l =
    ap (λ (b : Bool). literal (when b then is else isnt) (eqb a d) && in_order_of all (length x) (λ j. in_term d (a ∷ x) (suc i) (suc j))) (eqb-zero-suc i)
    ∙ ap (λ (f : ℕ → Bool). not (eqb a d) && in_order_of all (length x) f)
    (fun_ext (λ j. ap (λ (b : Bool). literal (when b then is else isnt) (eqb (state x j) d)) (eqb-suc-suc j i)))
    ∙ ap (λ (b : Bool). not (eqb a d) && b) (alone_order d x i (omega arith))
    ∙ and_swap (not (eqb a d)) (eqb (state x i) d) (joined all isnt d (without x i))

seat_from_0 : (a i : ℕ) → 1 ≤ a → eqb a (suc i) ≡ eqb (a - 1) i
seat_from_0 zero i h = absurd (omega arith)
seat_from_0 (suc a) i h = let z : suc a - 1 ≡ a = omega arith in rw z (eqb-suc-suc a i)

module _ (n d : ℕ) (x : Seating) (seats : length x.each ≡ n) where
  term_holds : (i : ℕ) → i < n → (t : List Literal) → Term n d (suc i) t → together all (literal_holds x) t ≡ alone d x.each i
  term_holds i l t h =
      in_order n x t h.seats (in_term d x.each i) each all ∙ ap (λ (m : ℕ). in_order_of all m (in_term d x.each i)) (sym seats)
      ∙ alone_order d x.each i (omega (arith, seats))
    where
      each : (m : Literal) → In m t → 1 ≤ m.seat → literal_holds x m ≡ in_term d x.each i (m.seat - 1)
      each m j a =
          same_literal x m (due_at i (m.seat - 1)) d
          (of_every (λ (y : Literal). y.relation ≡ (when eqb y.seat (suc i) then is else isnt)) t h.relations m j
          ∙ ap (λ (b : Bool). when b then is else isnt) (seat_from_0 m.seat i a))
          (of_every (λ (y : Literal). y.d ≡ d) t h.ds m j)

  terms_hold : (i : ℕ) (ts : List (List Literal)) → i + length ts ≡ n → Terms n d (suc i) ts → (f : ℕ → Bool) → ((j : ℕ) → f j ≡ alone d x.each (i + j))
      → together any (together all (literal_holds x)) ts ≡ any_of (upto (length ts) f)
  terms_hold i [] l h f k = refl
  terms_hold i (t ∷ ts) l h f k =
      let z : i + 0 ≡ i = omega arith in
      ap₂ ◌||◌ (term_holds i (omega arith) t h.0 ∙ sym (k 0 ∙ ap (alone d x.each) z))
      (terms_hold (suc i) ts (omega arith) h.1 (λ j. f (suc j)) (λ j. k (suc j) ∙ ap (alone d x.each) (moved j)))
    where
      moved : (j : ℕ) → i + suc j ≡ suc i + j
      moved j = omega arith

  all_terms : (ts : List (List Literal)) → length ts ≡ n → Terms n d 1 ts → together any (together all (literal_holds x)) ts ≡ holds_atom x (one_in d)
  all_terms ts e h =
      terms_hold 0 ts (omega arith) h (alone d x.each) (λ j. ap (alone d x.each) (none_more j)) ∙ ap (λ (m : ℕ). any_of (upto m (alone d x.each))) (e ∙ sym seats)
    where
      none_more : (j : ℕ) → j ≡ 0 + j
      none_more j = omega arith

one_holds : (n : ℕ) (x : Seating) → length x.each ≡ n → (ts : List (List Literal)) → ExactlyOne n ts
    → together any (together all (literal_holds x)) ts ≡ holds_atom x (one_in (term_d ts))
one_holds n x e [] h = let z : 0 ≡ length x.each = omega (arith, h.number) in ap (λ (m : ℕ). any_of (upto m (alone 0 x.each))) z
one_holds n x e ([] ∷ ts) h =
    let m : 1 ≤ n = omega (arith, h.number) in
    let z = h.terms.0.seats.once 1 (omega arith) m in absurd (omega arith)
one_holds n x e ((l ∷ t) ∷ ts) h =
    all_terms n h.d x e ((l ∷ t) ∷ ts) h.number h.terms ∙ ap (λ (v : ℕ). holds_atom x (one_in v)) (sym h.terms.0.ds.0)

-- ---- a question

module _ (n k m : ℕ) (x : Seating) (seats : length x.each ≡ n) where
  item_holds_law : (i : Item) → Every (KeptIn n) (claims_of k m i) → item_holds x i ≡ holds_atom x (atom_in i)
  item_holds_law (a_group g) h = group_holds n x seats g.sign g.literals h.0
  item_holds_law (exactly_one p ts) h = one_holds n x seats ts h.0
  item_holds_law (a_test t) h = refl

  shape_holds : (g : Formula Item) → Every (KeptIn n) (claims k m g) → value (item_holds x) g ≡ holds_on x (question_in g)
  shape_holds (atom i) w = item_holds_law i w
  shape_holds (neg g) w = ap not (shape_holds g w)
  shape_holds (and g h) w = let (p, q) = every_append (KeptIn n) (claims k m g) (claims k m h) w in ap₂ ◌&&◌ (shape_holds g p) (shape_holds h q)
  shape_holds (or g h) w = let (p, q) = every_append (KeptIn n) (claims k m g) (claims k m h) w in ap₂ ◌||◌ (shape_holds g p) (shape_holds h q)

pub as_written : (n k values : ℕ) (s : List ℕ) (q : Question) (a : QuestionAccepted n k values s q) (x : Seating) → length x.each ≡ n
    → value (item_holds x) a.shaped.shape ≡ holds_on x q
as_written n k values s q a x e = shape_holds n k (most_of values) x e a.shaped.shape a.kept ∙ ap (holds_on x) (sym a.question)
