-- What the look ahead sees: how the marks of a group, a term or an expression settle it. Assumes nothing.
use Prim.Native.Nat.{zero}
use mathlib.Core.Path.{◌≡◌, refl, sym, ap, ◌∙◌}
use mathlib.Core.Bool.{Bool, false, false≢true}
use mathlib.Core.List.{List, [], ◌∷◌, ◌++◌, append_assoc, head?}
use native.Mathlib.Omega.{arith}
use lib.ListN.{length}
use Rattle.card.specs.Card.{Sign, all, any, Relation, Formula}
use Rattle.marks_on_a_card.specs.Marks.{text, seat, process, number, decimal, outside, placed}
use Rattle.reading.specs.Reader.{Place, at, next_is}
use Rattle.reading.specs.Guard.{seat_next, test_next}
use Rattle.reading.specs.Group.{joint, relation, Literal, literal_of, Literals, literals_of, group}
use Rattle.grammar.specs.Grammar.{sign_at, LiteralSaid, literal, JoinedSaid, OthersSaid, close, next, GroupSaid, conjoined, disjoined, shared_test, Part, FormulaSaid, grouped, negated, bracketed, single, further}
use Rattle.grammar.proofs.Steady.{SameHead, seat_head}
use Rattle.grammar.proofs.Follows.{group_reads, and_false}
use Rattle.asking.specs.Question.{Item, relations, both, mixed, mixed_read, mixed_next, twice_next, TermSaid, a_term, ItemSaid, of_group, of_terms, of_test, NoneStarts, twice}

-- ---- without a seat word there is no term

pub no_seat_not_mixed : (ms : Place) → seat_next ms ≡ false → mixed_next ms ≡ false
unfolding mixed_next
no_seat_not_mixed [] e = refl
no_seat_not_mixed (placed (text s) p ∷ ms) e = refl
no_seat_not_mixed (placed (seat i) p ∷ ms) e = absurd (false≢true (sym e))
no_seat_not_mixed (placed (process i) p ∷ ms) e = refl
no_seat_not_mixed (placed (number v) p ∷ ms) e = refl
no_seat_not_mixed (placed (decimal v n f) p ∷ ms) e = refl
no_seat_not_mixed (placed outside p ∷ ms) e = refl

-- ---- literals before other marks

pub record Moved {A : Type 0} (S : Place → A → Place → Type 0) (f : A → List Relation) (ms : Place) (x : A) (r : Place) : Type 0 where
  pub pre : Place
  pub split : ms ≡ pre ++ r
  pub head : (t : Place) → SameHead (pre ++ t) ms
  pub again : (t : Place) → (y : A) × S (pre ++ t) y t × (f y ≡ f x)

abbrev relation_in : Literal → List Relation
relation_in l = l.relation ∷ []

literal_moves : {ms r : Place} {l : Literal} → LiteralSaid ms l r → Moved LiteralSaid relation_in ms l r
literal_moves (literal {i} {d} {a} {b} {c} {q} {r}) = record {
  pre = placed (seat i) a ∷ sign_at (relation q) b ∷ placed (number d) c ∷ [];
  split = refl;
  head = λ t. refl;
  again = λ t. (literal_of i q d (placed (number d) c ∷ t), literal, refl);
}

cons_head : {x y : Relation} {xs ys : List Relation} → ◌≡◌ {A = List Relation} (x ∷ []) (y ∷ []) → xs ≡ ys → ◌≡◌ {A = List Relation} (x ∷ xs) (y ∷ ys)
cons_head e z = let w = ap head? e in cc

pub others_move : {s : Sign} {ms r : Place} {ls : List Literal} → OthersSaid s ms ls r → Moved (OthersSaid s) relations ms ls r
others_move (close {a} {r}) = record { pre = sign_at ")" a ∷ []; split = refl; head = λ t. refl; again = λ t. ([], close, refl) }
others_move {s} (next {a} {ms} {ns} {r} {l} {ls} d o) =
    let u = literal_moves d in
    let v = others_move o in
    record {
      pre = sign_at (joint s) a ∷ (u.pre ++ v.pre);
      split = ap (λ x. sign_at (joint s) a ∷ x) (u.split ∙ ap (λ x. u.pre ++ x) v.split ∙ sym (append_assoc u.pre v.pre r));
      head = λ t. refl;
      again = λ t.
          let (l₁, d₁, e₁) = u.again (v.pre ++ t) in
          let (ls₁, o₁, e₂) = v.again t in
          (l₁ ∷ ls₁, rw (append_assoc u.pre v.pre t) (next d₁ o₁), cons_head e₁ e₂);
    }

-- ---- groups and terms

pub record GroupMoved (ms : Place) (x : Literals) (r : Place) : Type 0 where
  pub pre : Place
  pub split : ms ≡ pre ++ r
  pub head : (t : Place) → SameHead (pre ++ t) ms
  pub again : (t o : Place) → (y : Literals) × GroupSaid o (pre ++ t) y t × (mixed y ≡ mixed x)

nil≢some : {B : Type 0} {q : Relation} {qs : List Relation} → [] ≡ q ∷ qs → B
nil≢some e = let z = ap (λ x. length x) e in absurd (omega arith)

pub group_moves : {p ms r : Place} {x : Literals} → GroupSaid p ms x r → GroupMoved ms x r
group_moves (conjoined {ms} {ns} {r} {l} {ls} d o) =
    let u = literal_moves d in
    let v = others_move o in
    record {
      pre = u.pre ++ v.pre;
      split = u.split ∙ ap (λ x. u.pre ++ x) v.split ∙ sym (append_assoc u.pre v.pre r);
      head = λ t. rw (append_assoc u.pre v.pre t) (u.head (v.pre ++ t));
      again = λ t p.
          let (l₁, d₁, e₁) = u.again (v.pre ++ t) in
          let (ls₁, o₁, e₂) = v.again t in
          (literals_of p all (l₁ ∷ ls₁), rw (append_assoc u.pre v.pre t) (conjoined d₁ o₁), ap both (cons_head e₁ e₂));
    }
group_moves (disjoined {ms} {ns} {r} {l} {k} {ls} d o) =
    let u = literal_moves d in
    let v = others_move o in
    record {
      pre = u.pre ++ v.pre;
      split = u.split ∙ ap (λ x. u.pre ++ x) v.split ∙ sym (append_assoc u.pre v.pre r);
      head = λ t. rw (append_assoc u.pre v.pre t) (u.head (v.pre ++ t));
      again = λ t p.
          let (l₁, d₁, e₁) = u.again (v.pre ++ t) in
          let (ls₁, o₁, e₂) = v.again t in
          rw (append_assoc u.pre v.pre t) (go p (u.pre ++ (v.pre ++ t)) (v.pre ++ t) t l₁ d₁ ls₁ o₁ e₂);
    }
  where
    go : (p ms q t : Place) (l₁ : Literal) → LiteralSaid ms l₁ q → (ls₁ : List Literal) → OthersSaid any q ls₁ t → relations ls₁ ≡ relations (k ∷ ls)
        → (y : Literals) × GroupSaid p ms y t × (mixed y ≡ false)
    go p ms q t l₁ d₁ [] o₁ e = nil≢some e
    go p ms q t l₁ d₁ (k₁ ∷ ls₁) o₁ e = (literals_of p any (l₁ ∷ k₁ ∷ ls₁), disjoined d₁ o₁, refl)

-- the look ahead sees what the group says
pub mixed_said : {p ms r : Place} {x : Literals} → GroupSaid p ms x r → mixed_next ms ≡ mixed x
unfolding mixed_next
mixed_said {ms = ms} {r} d =
    let m = group_moves d in
    let (y, d₁, e) = m.again r [] in
    ap (λ z. mixed_read (group [] (at z zero))) m.split ∙ ap mixed_read (group_reads d₁ zero) ∙ e

pub mixed_moved : {p ms r : Place} {x : Literals} (d : GroupSaid p ms x r) (t : Place) → mixed_next ((group_moves d).pre ++ t) ≡ mixed x
mixed_moved d t = let (y, d₁, e) = (group_moves d).again t [] in mixed_said d₁ ∙ e

-- ---- what is said settles what is seen

-- the marks ms up to r settle it
pub record Settles (ms r : Place) : Type 0 where
  pub pre : Place
  pub split : ms ≡ pre ++ r
  pub head : (t : Place) → SameHead (pre ++ t) ms
  pub twice : (t : Place) → twice_next (pre ++ t) ≡ twice_next ms

-- behind a bracket
pub record Follows (ms r : Place) : Type 0 where
  pub pre : Place
  pub split : ms ≡ pre ++ r
  pub head : (t : Place) → SameHead (pre ++ t) ms
  pub mixed : (t : Place) → mixed_next (pre ++ t) ≡ mixed_next ms

pub term_settles : {ms r : Place} {ls : List Literal} → TermSaid ms ls r → Settles ms r
term_settles (a_term {a} {ms} {ns} {r} {l} {ls} d o) =
    let g : GroupSaid [] ms (literals_of [] all (l ∷ ls)) r = conjoined d o in
    let m = group_moves g in
    record {
      pre = sign_at "(" a ∷ m.pre;
      split = ap (λ x. sign_at "(" a ∷ x) m.split;
      head = λ t. refl;
      twice = λ t. mixed_moved g t ∙ sym (mixed_said g);
    }

pub term_seen : {ms r : Place} {ls : List Literal} → TermSaid ms ls r → twice_next ms ≡ both (relations ls)
term_seen (a_term {a} {ms} {ns} {r} {l} {ls} d o) = let g : GroupSaid [] ms (literals_of [] all (l ∷ ls)) r = conjoined d o in mixed_said g

pub joined_suffix : {s : Sign} {ms r : Place} {xs : List (List Literal)} → JoinedSaid TermSaid s ms xs r → (pre : Place) × (ms ≡ pre ++ r)
joined_suffix (close {a} {r}) = (sign_at ")" a ∷ [], refl)
joined_suffix {s} (next {a} {ms} {ns} {r} d o) =
    let u = term_settles d in
    let (w, e) = joined_suffix o in
    (sign_at (joint s) a ∷ (u.pre ++ w), ap (λ x. sign_at (joint s) a ∷ x) (u.split ∙ ap (λ x. u.pre ++ x) e ∙ sym (append_assoc u.pre w r)))

pub bracket_no_seat : {ms r : Place} {ls : List Literal} → TermSaid ms ls r → seat_next ms ≡ false
bracket_no_seat (a_term d o) = refl

pub bracket_no_number : {ms r : Place} {ls : List Literal} → TermSaid ms ls r → next_is "g" ms ≡ false
bracket_no_number (a_term d o) = refl

pub same_not_mixed : (x y : Place) → SameHead x y → seat_next y ≡ false → mixed_next x ≡ mixed_next y
same_not_mixed x y h e = no_seat_not_mixed x (seat_head x y h ∙ e) ∙ sym (no_seat_not_mixed y e)

pub item_follows : {shared : Bool} {p ms r : Place} {x : Item} → ItemSaid shared p ms x r → Follows ms r
item_follows (of_group g) =
    let m = group_moves g in
    record { pre = m.pre; split = m.split; head = m.head; mixed = λ t. mixed_moved g t ∙ sym (mixed_said g) }
item_follows (of_terms {ms = ms} {ns} {r} d b o) =
    let u = term_settles d in
    let (w, e) = joined_suffix o in
    let h : (t : Place) → SameHead ((u.pre ++ w) ++ t) ms = λ t. rw (append_assoc u.pre w t) (u.head (w ++ t)) in
    record {
      pre = u.pre ++ w;
      split = u.split ∙ ap (λ x. u.pre ++ x) e ∙ sym (append_assoc u.pre w r);
      head = h;
      mixed = λ t. same_not_mixed ((u.pre ++ w) ++ t) ms (h t) (bracket_no_seat d);
    }
item_follows (of_test (shared_test {v} {a} {b} {c} {d} {q} {r})) = record {
  pre = sign_at "g" a ∷ sign_at (relation q) b ∷ placed (number v) c ∷ sign_at ")" d ∷ [];
  split = refl;
  head = λ t. refl;
  mixed = λ t. same_not_mixed (sign_at "g" a ∷ sign_at (relation q) b ∷ placed (number v) c ∷ sign_at ")" d ∷ t) (sign_at "g" a ∷ sign_at (relation q) b ∷ placed (number v) c ∷ sign_at ")" d ∷ r) refl refl;
}

-- an expression begins with a bracket or a `!`
pub formula_no_test : {shared : Bool} {v : Part} {ms r : Place} {g : Formula Item} → FormulaSaid NoneStarts (ItemSaid shared) v ms g r → test_next shared ms ≡ false
formula_no_test {shared} (grouped x) = and_false shared
formula_no_test {shared} (negated u) = and_false shared
formula_no_test {shared} (bracketed f u) = and_false shared
formula_no_test (single u) = formula_no_test u
formula_no_test (further us u) = formula_no_test us

pub no_test_no_seat : (shared : Bool) (ms : Place) → test_next shared ms ≡ false → seat_next ms ≡ false
no_test_no_seat shared [] e = refl
no_test_no_seat shared (placed (text s) p ∷ ms) e = refl
no_test_no_seat shared (placed (seat i) p ∷ ms) e = absurd (false≢true (sym e))
no_test_no_seat shared (placed (process i) p ∷ ms) e = refl
no_test_no_seat shared (placed (number v) p ∷ ms) e = refl
no_test_no_seat shared (placed (decimal v n f) p ∷ ms) e = refl
no_test_no_seat shared (placed outside p ∷ ms) e = refl

formula_no_seat : {shared : Bool} {v : Part} {ms r : Place} {g : Formula Item} → FormulaSaid NoneStarts (ItemSaid shared) v ms g r → seat_next ms ≡ false
formula_no_seat {shared} {ms = ms} d = no_test_no_seat shared ms (formula_no_test d)

pub formula_settles : {shared : Bool} {v : Part} {ms r : Place} {g : Formula Item} → FormulaSaid NoneStarts (ItemSaid shared) v ms g r → Settles ms r
formula_settles (grouped {a} {ms} {r} x) =
    let m = item_follows x in
    record { pre = sign_at "(" a ∷ m.pre; split = ap (λ x. sign_at "(" a ∷ x) m.split; head = λ t. refl; twice = m.mixed }
formula_settles (negated {a} {ms} {r} u) =
    let m = formula_settles u in
    record { pre = sign_at "!" a ∷ m.pre; split = ap (λ x. sign_at "!" a ∷ x) m.split; head = λ t. refl; twice = λ t. refl }
formula_settles (bracketed {a} {b} {ms} {r} f u) =
    let m = formula_settles u in
    let shut = sign_at ")" b ∷ [] in
    record {
      pre = sign_at "(" a ∷ (m.pre ++ shut);
      split = ap (λ x. sign_at "(" a ∷ x) (m.split ∙ sym (append_assoc m.pre shut r));
      head = λ t. refl;
      twice = λ t. same_not_mixed ((m.pre ++ shut) ++ t) ms (rw (append_assoc m.pre shut t) (m.head (shut ++ t))) (formula_no_seat u);
    }
formula_settles (single u) = formula_settles u
formula_settles (further {s} {a} {ms} {ns} {r} us u) =
    let m = formula_settles us in
    let n = formula_settles u in
    let w = sign_at (joint s) a ∷ n.pre in
    record {
      pre = m.pre ++ w;
      split = m.split ∙ ap (λ x. m.pre ++ (sign_at (joint s) a ∷ x)) n.split ∙ sym (append_assoc m.pre w r);
      head = λ t. rw (append_assoc m.pre w t) (m.head (w ++ t));
      twice = λ t. rw (append_assoc m.pre w t) (m.twice (w ++ t));
    }
