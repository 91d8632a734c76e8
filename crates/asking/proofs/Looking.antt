-- A question's groups, exactly-ones and tests of the shared number keep what `Leaves` asks of a language of formulas. Assumes nothing.
use Prim.Native.Nat.{ℕ, zero, suc}
use mathlib.Core.Path.{◌≡◌, refl, sym, ap, ◌∙◌, subst}
use mathlib.Core.Logic.{inl, inr, ◌↔◌}
use mathlib.Core.Bool.{Bool, true, false, ◌&&◌, ◌||◌, false≢true}
use mathlib.Core.List.{List, [], ◌∷◌, ◌++◌, append_assoc, append_cancel_right, append-nil, head?}
use native.Mathlib.Omega.{arith}
use lib.ListN.{length, length-append}
use Rattle.card.specs.Limits.{most_nodes}
use Rattle.card.specs.Refusals.{out_of_shape, past_limit}
use Rattle.card.specs.Text.{bytes, same, when◌then◌else◌}
use Rattle.card.specs.Card.{all, any, Relation, is as eq, isnt as ne, Formula, atom, and, or}
use Rattle.marks_on_a_card.specs.Marks.{Mark, text, seat, number, Placed, placed}
use Rattle.reading.specs.Reader.{Place, State, at, Result, ok, stop, Reader, ◌>>=◌, return, is, next_is, if_next, sign, here}
use Rattle.reading.specs.Guard.{seat_next, test_next, if_seat, Read, chain, conjunction, unary_by, grouped as read_grouped}
use Rattle.reading.specs.Group.{joint, Literal, Literals, literals_of, literal as read_literal, joined, group, shared_test as read_shared_test}
use Rattle.grammar.specs.Verdicts.{first, later}
use Rattle.grammar.specs.Grammar.{sign_at, LiteralSaid, literal, OthersSaid, close, next, GroupSaid, conjoined, disjoined, Part, unary, joined_by, FormulaSaid, grouped, single}
use Rattle.reading.proofs.Through.{and_true, ok_state, through, chose, is→eq, none≢some}
use Rattle.reading.proofs.Rising.{Order, equal, before, behind, order}
use Rattle.grammar.proofs.Steady.{Lang, ◌then◌, ◌either◌, Mark₁, Saying, SameHead, Alike, head_append, next_head, some_eq, free, Cause, unfit, excess, Steady, Always, ok≢stop, stop_number, stop_place, stopped, chose_stop, steady_as, steady_under, steady_choose, steady_like, steady_bind, steady_sign, steady_return, steady_last}
use Rattle.grammar.proofs.Follows.{literal_reads, others_reads, group_reads, and_false}
use Rattle.grammar.proofs.Exact.{one_sign, a_sign, literal_t, joined_here, joined_here_t, group_t, seat_still, test_still, shared_test_t, GuardL, GroupsL, ClosedL, FreeL, closing, Leaves, chain_t, conjunction_t, expression_t}
use Rattle.asking.specs.Question.{Item, a_group, exactly_one, a_test, relations, among, both, Occurs, mixed, mixed_read, mixed_next, twice_next, item_next, term, exactly, item, TermSaid, a_term, ItemSaid, of_group, of_terms, of_test, NoneStarts, Sight, words, mixed_words, twice, other, seen, sight}
use Rattle.asking.proofs.Seen.{group_moves, mixed_said, term_settles, term_seen, same_not_mixed, no_seat_not_mixed, no_test_no_seat, formula_no_test, formula_settles}

-- ---- what is read and what is seen

-- a look at nothing
abbrev blind : Place → Unit {0}
blind ms = tt

group_ok : (p ms : Place) (n : ℕ) (x : Literals) (s : State) → group p (at ms n) ≡ ok x s → (o : Place) → Saying (GroupSaid o) ms s.marks
group_ok p ms n x s e o =
    let w = (group_t {look = blind} p p).passes (at ms n) s x tt e in
    rw w.split (w.said s.marks o)

-- where no group can be read, none is seen
stops_not_mixed : (p ms : Place) (n i : ℕ) (r : Place) → group p (at ms n) ≡ stop i r → mixed_next ms ≡ false
unfolding mixed_next
stops_not_mixed p ms n i r e = go (group [] (at ms zero)) refl
  where
    go : (x : Result Literals) → group [] (at ms zero) ≡ x → mixed_read x ≡ false
    go (ok x s) e₁ = let (y, d) = group_ok [] ms zero x s e₁ p in ok≢stop (sym (group_reads d n) ∙ e)
    go (stop j q) e₁ = refl

pub group_stopped : (p ms : Place) (n i : ℕ) (r : Place) → group p (at ms n) ≡ stop i r → (pre : Place) → ms ≡ pre ++ r → (y : Place) → SameHead r y
    → mixed_next (pre ++ y) ≡ mixed_next ms
group_stopped p ms n i r e pre z y h =
    let w = (group_t {look = blind} p p).stops (at ms n) i r tt e in
    let q : w.pre ≡ pre = append_cancel_right w.pre pre r (sym w.split ∙ z) in
    stops_not_mixed p (pre ++ y) n i y (rw q at (w.same y (h, λ _ _. refl))) ∙ sym (stops_not_mixed p ms n i r e)

-- a group that is seen to be mixed is there
mixed_there : (ms : Place) → mixed_next ms ≡ true → (x : Literals) × (r : Place) × GroupSaid [] ms x r × (mixed x ≡ true)
unfolding mixed_next
mixed_there ms e = go (group [] (at ms zero)) refl e
  where
    go : (x : Result Literals) → group [] (at ms zero) ≡ x → mixed_read x ≡ true → (x : Literals) × (r : Place) × GroupSaid [] ms x r × (mixed x ≡ true)
    go (ok x s) e₁ e = let (y, d) = group_ok [] ms zero x s e₁ [] in (y, s.marks, d, sym (mixed_said d) ∙ ap mixed_read e₁ ∙ e)
    go (stop j q) e₁ e = absurd (false≢true e)

-- it is a term
pub twice_there : (ms : Place) → twice_next ms ≡ true → (ls : List Literal) × (r : Place) × TermSaid ms ls r × (both (relations ls) ≡ true)
twice_there [] e = absurd (false≢true e)
twice_there (placed m a ∷ ms) e = go (is "(" m) refl e
  where
    all_of : (x : Literals) (r : Place) → GroupSaid [] ms x r → mixed x ≡ true → (ls : List Literal) × TermSaid (sign_at "(" a ∷ ms) ls r × (both (relations ls) ≡ true)
    all_of _ r (conjoined {l = l} {ls} d o) e = (l ∷ ls, a_term d o, e)
    all_of _ r (disjoined d o) e = absurd (false≢true e)

    go : (b : Bool) → is "(" m ≡ b → (b && mixed_next ms) ≡ true → (ls : List Literal) × (r : Place) × TermSaid (placed m a ∷ ms) ls r × (both (relations ls) ≡ true)
    go true z e =
        let (x, r, d, f) = mixed_there ms e in
        let (ls, t, b) = all_of x r d f in
        rw (is→eq "(" m z) (ls, r, t, b)
    go false z e = absurd (false≢true e)

among_occurs : (q : Relation) (ls : List Literal) → among q (relations ls) ≡ true → Occurs q ls
among_occurs q [] e = absurd (false≢true e)
among_occurs q (l ∷ ls) e = go q l.relation refl e (among_occurs q ls)
  where
    go : (q p : Relation) → l.relation ≡ p → among q (p ∷ relations ls) ≡ true → (among q (relations ls) ≡ true → Occurs q ls) → Occurs q (l ∷ ls)
    go eq eq z e h = (l, first, z)
    go eq ne z e h = let (m, i, y) = h e in (m, later i, y)
    go ne eq z e h = let (m, i, y) = h e in (m, later i, y)
    go ne ne z e h = (l, first, z)

among_itself : (q : Relation) (qs : List Relation) → among q (q ∷ qs) ≡ true
among_itself eq qs = refl
among_itself ne qs = refl

among_later : (q p : Relation) (qs : List Relation) → among q qs ≡ true → among q (p ∷ qs) ≡ true
among_later eq eq qs e = refl
among_later eq ne qs e = e
among_later ne eq qs e = e
among_later ne ne qs e = refl

occurs_among : (q : Relation) (ls : List Literal) → Occurs q ls → among q (relations ls) ≡ true
occurs_among q [] (l, i, e) = elim i [ ]
occurs_among q (_ ∷ ls) (l, first, e) = ap (λ (p : Relation). among q (p ∷ relations ls)) e ∙ among_itself q (relations ls)
occurs_among q (l ∷ ls) (m, later i, e) = among_later q l.relation (relations ls) (occurs_among q ls (m, i, e))

both_occur : (ls : List Literal) → both (relations ls) ≡ true → (q : Relation) → Occurs q ls
both_occur ls e eq = among_occurs eq ls (and_true (among eq (relations ls)) (among ne (relations ls)) e).0
both_occur ls e ne = among_occurs ne ls (and_true (among eq (relations ls)) (among ne (relations ls)) e).1

occur_both : (ls : List Literal) → ((q : Relation) → Occurs q ls) → both (relations ls) ≡ true
occur_both ls h = rw (occurs_among eq ls (h eq), occurs_among ne ls (h ne))

-- an exactly-one starts behind a bracket exactly where a term stands in which each relation occurs
pub starts_exactly : (ms : Place) → twice_next ms ≡ true ↔ ((ls : List Literal) × (r : Place) × TermSaid ms ls r × ((q : Relation) → Occurs q ls))
starts_exactly ms = (
  (λ e. let (ls, r, d, b) = twice_there ms e in (ls, r, d, both_occur ls b)),
  (λ (ls, r, d, h). term_seen d ∙ occur_both ls h),
)

-- ---- terms

term_said : (ms r : Place) → (Mark₁ "(" then Saying LiteralSaid then Saying (OthersSaid all)) ms r → Saying TermSaid ms r
term_said ms r (q, m, (q₁, (l, d), (ls, o))) = let (p, e) = one_sign "(" ms q m in rw e (l ∷ ls, a_term d o)

pub term_reads : {ms r : Place} {ls : List Literal} → TermSaid ms ls r → (n : ℕ) → term (at ms n) ≡ ok ls (at r n)
term_reads (a_term {ns = ns} d o) n = rw (literal_reads d n, others_reads o (length ns) (omega arith) n)

module _ {Look : Type 0} {look : Place → Look} where
  pub term_t : Steady look Always free (Saying TermSaid) term term
  term_t = steady_as term_said
      (steady_bind (steady_sign "(") λ _ _ _. steady_bind literal_t λ l l₁ _. steady_last (joined_here_t LiteralSaid read_literal literal_t all) λ ls ls₁ _. steady_return (l ∷ ls) (l₁ ∷ ls₁))

abbrev MixedL : Lang
MixedL ms r = (ls : List Literal) × TermSaid ms ls r × (both (relations ls) ≡ true)

abbrev mixed_word : Place
mixed_word =
    sign_at "(" 0 ∷ placed (seat 1) 0 ∷ sign_at "=" 0 ∷ placed (number 0) 0 ∷ sign_at "&" 0 ∷ placed (seat 1) 0 ∷ sign_at "!=" 0 ∷ placed (number 0) 0 ∷ sign_at ")" 0 ∷ []

mixed_word_law : (t : Place) → MixedL (mixed_word ++ t) t
mixed_word_law t = (_, a_term (literal {q = eq}) (next (literal {q = ne}) close), refl)

-- what a term that was read leaves seen
term_stays : (s s₁ : State) (ls : List Literal) → term s ≡ ok ls s₁ → (pre : Place) → s.marks ≡ pre ++ s₁.marks → (t : Place)
    → twice_next (pre ++ t) ≡ twice_next s.marks
term_stays s s₁ ls e pre z t =
    let w = (term_t {look = blind}).passes s s₁ ls tt e in
    let q : w.pre ≡ pre = append_cancel_right w.pre pre s₁.marks (sym w.split ∙ z) in
    let (_, d) = w.said s₁.marks in
    let m = term_settles d in
    let q₁ : m.pre ≡ pre = append_cancel_right m.pre pre s₁.marks (sym m.split ∙ ap (λ x. x ++ s₁.marks) q) in
    subst (λ x. twice_next (x ++ t) ≡ twice_next s.marks) q₁ (m.twice t ∙ ap (λ x. twice_next (x ++ s₁.marks)) q ∙ ap twice_next (sym z))

module _ {Look : Type 0} {look : Place → Look} where
  mixed_t : Steady look (λ ms. twice_next ms ≡ true) free MixedL term term
  mixed_t = record {
    passes = λ s s₁ ls y e.
        let w = (term_t {look = look}).passes s s₁ ls tt e in
        record {
          pre = w.pre;
          split = w.split;
          said = λ t. let (l, d) = w.said t in (l, d, sym (term_seen d) ∙ term_stays s s₁ ls e w.pre w.split t ∙ y);
          same = w.same;
        };
    stops = λ s n r y e. let (ls, q, d, b) = twice_there s.marks y in ok≢stop (sym (term_reads d s.nodes) ∙ e);
    word = (mixed_word, mixed_word_law);
    sample = [];
  }

  exactly_t : (shared : Bool) (p p₁ : Place) → Steady look (λ ms. twice_next ms ≡ true) free (λ ms r. (o : Place) → Saying (ItemSaid shared o) ms r) (exactly p) (exactly p₁)
  exactly_t shared p p₁ = steady_as (λ ms r (q, (t, d, b), (ts, o)) p. (exactly_one p (t ∷ ts), of_terms d b o))
      (steady_bind mixed_t λ t t₁ _. steady_last (joined_here_t TermSaid term term_t any) λ ts ts₁ _. steady_return (exactly_one p (t ∷ ts)) (exactly_one p₁ (t₁ ∷ ts₁)))

-- ---- a group or an exactly-one, behind its bracket

pub or_left : (a b : Bool) → a ≡ true → (a || b) ≡ true
or_left a b e = rw e

pub or_right : (a b : Bool) → b ≡ true → (a || b) ≡ true
or_right true b e = refl
or_right false b e = e

or_else : (a b : Bool) → (a || b) ≡ true → a ≡ false → b ≡ true
or_else true b e z = absurd (false≢true (sym z))
or_else false b e z = e

or_none : (a b : Bool) → (a || b) ≡ false → (a ≡ false) × (b ≡ false)
or_none true b e = absurd (false≢true (sym e))
or_none false b e = (refl, e)

left_of : (a b : Bool) → (a || b) ≡ true → b ≡ false → a ≡ true
left_of true b e z = refl
left_of false b e z = absurd (false≢true (sym z ∙ e))

pub none_or : (a b : Bool) → a ≡ false → b ≡ false → (a || b) ≡ false
none_or a b e z = rw (e, z)

module _ {A Look : Type 0} {look : Place → Look} {P : Place → Type 0} {L : Lang} (F : Place → Reader A) (x : (q q₁ : Place) → Steady look P free L (F q) (F q₁)) where
  steady_placed : (m : Placed) → Steady look P free L (λ s. F (m ∷ s.marks) s) (λ s. F (m ∷ s.marks) s)
  steady_placed m = record {
    passes = λ s s₁ a y e.
        let w = (x (m ∷ s.marks) (m ∷ s.marks)).passes s s₁ a y e in
        record {
          pre = w.pre;
          split = w.split;
          said = w.said;
          same = λ u h.
              let v = (x (m ∷ s.marks) (m ∷ (w.pre ++ u))).passes s s₁ a y e in
              let q : v.pre ≡ w.pre = append_cancel_right v.pre w.pre s₁.marks (sym v.split ∙ w.split) in
              let (b, e₁, _) = v.same u h in
              (b, subst (λ z. F (m ∷ (w.pre ++ u)) (at (z ++ u) s.nodes) ≡ ok b (at u s₁.nodes)) q e₁, tt);
        };
    stops = λ s n r y e.
        let w = (x (m ∷ s.marks) (m ∷ s.marks)).stops s n r y e in
        record {
          pre = w.pre;
          split = w.split;
          cause = w.cause;
          same = λ u h.
              let v = (x (m ∷ s.marks) (m ∷ (w.pre ++ u))).stops s n r y e in
              let q : v.pre ≡ w.pre = append_cancel_right v.pre w.pre r (sym v.split ∙ w.split) in
              subst (λ z. F (m ∷ (w.pre ++ u)) (at (z ++ u) s.nodes) ≡ stop n u) q (v.same u h);
        };
    word = (x [] []).word;
    sample = (x [] []).sample;
  }

abbrev ItemL : Bool → Lang
ItemL shared = GroupsL NoneStarts (ItemSaid shared)

abbrev read_group : Place → Reader Item
read_group p = group p >>= λ x. return (a_group x)

abbrev read_test : Reader Item
read_test = read_shared_test >>= λ x. return (a_test x)

-- a group or an exactly-one
abbrev read_seats : Place → Reader Item
read_seats p = if_seat (read_group p) (exactly p)

-- `g` starts neither
no_seats : (ms : Place) → next_is "g" ms ≡ true → (seat_next ms ≡ false) × (twice_next ms ≡ false)
no_seats [] e = (refl, refl)
no_seats (placed m p ∷ ms) e = let z = is→eq "g" m e in rw z (refl, refl)

-- what starts an item is a seat word, `g` where a number is shared, or an exactly-one
number_shared : (shared : Bool) (ms : Place) → item_next shared ms ≡ true → next_is "g" ms ≡ true → shared ≡ true
number_shared true ms e z = refl
number_shared false ms e z = let (a, b) = no_seats ms z in absurd (false≢true (sym (none_or (test_next false ms) (twice_next ms) (rw a) b) ∙ e))

test_seat : (shared : Bool) (ms : Place) → next_is "g" ms ≡ false → test_next shared ms ≡ seat_next ms
test_seat shared ms z = rw z (go (seat_next ms))
  where
    go : (b : Bool) → (b || (shared && false)) ≡ b
    go true = refl
    go false = and_false shared

seats_start : (shared : Bool) (ms : Place) → item_next shared ms ≡ true → next_is "g" ms ≡ false → (seat_next ms || twice_next ms) ≡ true
seats_start shared ms e z = ap (λ (b : Bool). b || twice_next ms) (sym (test_seat shared ms z)) ∙ e

-- at the bracket m
placed_same : (m : Placed) (s : State) → item (m ∷ s.marks) s ≡ if_next "g" read_test (λ s. read_seats (m ∷ s.marks) s) s
placed_same m s = go (next_is "g" s.marks)
  where
    go : (b : Bool) → (when b then read_test else read_seats (m ∷ s.marks)) s ≡ (when b then read_test else (λ s. read_seats (m ∷ s.marks) s)) s
    go true = refl
    go false = refl

either_item : (shared : Bool) (ms r : Place) → (ItemL shared either ItemL shared) ms r → ItemL shared ms r
either_item shared ms r (inl l) = l
either_item shared ms r (inr l) = l

module _ {Look : Type 0} {look : Place → Look} where
  group_leaf_t : (shared : Bool) (m : Placed) → Steady look Always free (ItemL shared) (λ s. read_group (m ∷ s.marks) s) (λ s. read_group (m ∷ s.marks) s)
  group_leaf_t shared = steady_placed read_group λ q q₁.
      steady_as (λ ms r f o. let (x, d) = f o in (a_group x, of_group d)) (steady_last (group_t q q₁) λ x x₁ _. steady_return (a_group x) (a_group x₁))

  exactly_leaf_t : (shared : Bool) (m : Placed) → Steady look (λ ms. twice_next ms ≡ true) free (ItemL shared) (λ s. exactly (m ∷ s.marks) s) (λ s. exactly (m ∷ s.marks) s)
  exactly_leaf_t shared = steady_placed exactly (exactly_t shared)

  seats_t : (shared : Bool) (m : Placed) → Steady look (λ ms. (seat_next ms || twice_next ms) ≡ true) free (ItemL shared) (λ s. read_seats (m ∷ s.marks) s) (λ s. read_seats (m ∷ s.marks) s)
  seats_t shared m = record {
    passes = λ s s₁ a y. chose (seat_next s.marks) _ _ s s₁ a _
        (λ z e.
        let w = (group_leaf_t shared m).passes s s₁ a tt e in
        record { pre = w.pre; split = w.split; said = w.said; same = λ u h. let v = w.same u h in (v.0, rw (seat_still true s.marks w.pre s₁.marks u z w.split h) v.1, tt) })
        (λ z e.
        let w = (exactly_leaf_t shared m).passes s s₁ a (or_else (seat_next s.marks) (twice_next s.marks) y z) e in
        record { pre = w.pre; split = w.split; said = w.said; same = λ u h. let v = w.same u h in (v.0, rw (seat_still false s.marks w.pre s₁.marks u z w.split h) v.1, tt) });
    stops = λ s n r y. chose_stop (seat_next s.marks) _ _ s n r _
        (λ z e.
        let w = (group_leaf_t shared m).stops s n r tt e in
        record { pre = w.pre; split = w.split; cause = w.cause; same = λ u h. rw (seat_still true s.marks w.pre r u z w.split h.0) (w.same u h) })
        (λ z e.
        let w = (exactly_leaf_t shared m).stops s n r (or_else (seat_next s.marks) (twice_next s.marks) y z) e in
        record { pre = w.pre; split = w.split; cause = w.cause; same = λ u h. rw (seat_still false s.marks w.pre r u z w.split h.0) (w.same u h) });
    word = (group_leaf_t shared m).word;
    sample = (group_leaf_t shared m).sample;
  }

  test_leaf_t : (shared : Bool) → shared ≡ true → Steady look Always free (ItemL shared) read_test read_test
  test_leaf_t shared e = rw e (steady_as (λ ms r (x, d) o. (a_test x, of_test d)) (steady_last shared_test_t λ x x₁ _. steady_return (a_test x) (a_test x₁)))

  tests_t : (shared : Bool) → Steady look (λ ms. (item_next shared ms ≡ true) × (next_is "g" ms ≡ true)) free (ItemL shared) read_test read_test
  tests_t shared = record {
    passes = λ s s₁ a y. (test_leaf_t shared (number_shared shared s.marks y.0 y.1)).passes s s₁ a tt;
    stops = λ s n r y. (test_leaf_t shared (number_shared shared s.marks y.0 y.1)).stops s n r tt;
    word = (group_leaf_t shared (sign_at "(" 0)).word;
    sample = (group_leaf_t shared (sign_at "(" 0)).sample;
  }

  pub item_t : (shared : Bool) (m : Placed) → Steady look (λ ms. item_next shared ms ≡ true) free (ItemL shared) (λ s. item (m ∷ s.marks) s) (λ s. item (m ∷ s.marks) s)
  item_t shared m = steady_like (λ s. item (m ∷ s.marks) s) (λ s. item (m ∷ s.marks) s) (placed_same m) (placed_same m)
      (steady_as (either_item shared) (steady_choose "g" (tests_t shared) (steady_under (λ ms h. seats_start shared ms h.0 h.1) (seats_t shared m))))

-- an exactly-one that was begun stays one
exactly_stays : (s s₂ : State) (t : List Literal) → term s ≡ ok t s₂ → (pre₂ r : Place) → s₂.marks ≡ pre₂ ++ r → (pre : Place) → s.marks ≡ pre ++ r
    → (y : Place) → twice_next (pre ++ y) ≡ twice_next s.marks
exactly_stays s s₂ t e pre₂ r z₂ pre z y =
    let w = (term_t {look = blind}).passes s s₂ t tt e in
    let q : w.pre ++ pre₂ ≡ pre = append_cancel_right (w.pre ++ pre₂) pre r (append_assoc w.pre pre₂ r ∙ ap (λ x. w.pre ++ x) (sym z₂) ∙ sym w.split ∙ z) in
    let i = term_stays s s₂ t e w.pre w.split (pre₂ ++ y) in
    subst (λ x. twice_next (x ++ y) ≡ twice_next s.marks) q (ap twice_next (append_assoc w.pre pre₂ y) ∙ i)

exactly_ends : (p : Place) (s s₁ : State) (a : Item) → exactly p s ≡ ok a s₁ → (pre : Place) → s.marks ≡ pre ++ s₁.marks → (y : Place)
    → twice_next (pre ++ y) ≡ twice_next s.marks
exactly_ends p s s₁ a e pre z y = through (term s) (λ t. here >>= λ q. joined term (joint any) (length q) >>= λ ts. return (exactly_one p (t ∷ ts))) a s₁ _ (λ t s₂ e₁ e₂.
    through (joined_here term any s₂) (λ ts. return (exactly_one p (t ∷ ts))) a s₁ _ (λ ts s₃ e₃ e₄.
    let w = (joined_here_t {look = blind} TermSaid term term_t any).passes s₂ s₃ ts tt e₃ in
    let q : s₃ ≡ s₁ = ok_state e₄ in
    exactly_stays s s₂ t e₁ w.pre s₁.marks (w.split ∙ ap (λ (x : State). w.pre ++ x.marks) q) pre z y) e₂) e

exactly_halts : (p : Place) (s : State) (n : ℕ) (r : Place) → twice_next s.marks ≡ true → exactly p s ≡ stop n r → (pre : Place) → s.marks ≡ pre ++ r
    → (y : Place) → twice_next (pre ++ y) ≡ twice_next s.marks
exactly_halts p s n r k e pre z y = stopped (term s) (λ t. here >>= λ q. joined term (joint any) (length q) >>= λ ts. return (exactly_one p (t ∷ ts))) n r _
    (λ e₁. let (ls, q, d, b) = twice_there s.marks k in ok≢stop (sym (term_reads d s.nodes) ∙ e₁))
    (λ t s₂ e₁ e₂. stopped (joined_here term any s₂) (λ ts. return (exactly_one p (t ∷ ts))) n r _
    (λ e₃. let w = (joined_here_t {look = blind} TermSaid term term_t any).stops s₂ n r tt e₃ in exactly_stays s s₂ t e₁ w.pre r w.split pre z y)
    (λ ts s₃ e₃ e₄. ok≢stop e₄) e₂) e

-- ---- what an expression that stopped leaves seen

not_bracket : (ms : Place) → next_is "(" ms ≡ false → twice_next ms ≡ false
not_bracket [] e = refl
not_bracket (placed m p ∷ ms) e = rw e

sight_mixed : (shared : Bool) (x y : Place) → sight shared x ≡ sight shared y → mixed_next x ≡ mixed_next y
sight_mixed shared x y e = ask x ∙ ap is_mixed e ∙ sym (ask y)
  where
    is_mixed : Sight → Bool
    is_mixed words = false
    is_mixed mixed_words = true
    is_mixed twice = false
    is_mixed other = false

    cases : (a b c : Bool) → (a ≡ false → b ≡ false) → b ≡ is_mixed (seen a b c)
    cases true true c h = refl
    cases true false c h = refl
    cases false true true h = h refl
    cases false true false h = h refl
    cases false false true h = refl
    cases false false false h = refl

    ask : (x : Place) → mixed_next x ≡ is_mixed (sight shared x)
    ask x = cases (test_next shared x) (mixed_next x) (twice_next x) (λ z. no_seat_not_mixed x (no_test_no_seat shared x z))

pub sight_starts : (shared : Bool) (x y : Place) → sight shared x ≡ sight shared y → item_next shared x ≡ item_next shared y
sight_starts shared x y e = ask x ∙ ap is_leaf e ∙ sym (ask y)
  where
    is_leaf : Sight → Bool
    is_leaf words = true
    is_leaf mixed_words = true
    is_leaf twice = true
    is_leaf other = false

    cases : (a b c : Bool) → (a || c) ≡ is_leaf (seen a b c)
    cases true true c = refl
    cases true false c = refl
    cases false b true = refl
    cases false b false = refl

    ask : (x : Place) → item_next shared x ≡ is_leaf (sight shared x)
    ask x = cases (test_next shared x) (mixed_next x) (twice_next x)

-- where it stops, whatever follows the mark there, the bracket before it is seen to start the same
pub record Sees {A : Type 0} (shared : Bool) (u : Reader A) : Type 0 where
  pub sees : (s : State) (n : ℕ) (r : Place) → u s ≡ stop n r → (pre : Place) → s.marks ≡ pre ++ r → (y : Place) → Alike (sight shared) n r y
      → twice_next (pre ++ y) ≡ twice_next s.marks

abbrev AskL : Bool → Part → Lang
AskL shared v = GuardL NoneStarts (ItemSaid shared) v

abbrev ask_unary : Bool → ℕ → Read Item
ask_unary shared d = unary_by (item_next shared) item d

abbrev plain_word : Place
plain_word = placed (seat 1) 0 ∷ sign_at "=" 0 ∷ placed (number 0) 0 ∷ sign_at ")" 0 ∷ []

-- a bracket is never out of shape
bracket_fits : (shared : Bool) (d k a : ℕ) → ask_unary shared d (at (sign_at "(" a ∷ plain_word) k) ≡ stop out_of_shape (sign_at "(" a ∷ plain_word) → ⊥
bracket_fits shared zero zero a e = let z : past_limit ≡ out_of_shape = stop_number {A = Formula Item} e in omega arith
bracket_fits shared zero (suc k) a e = ok≢stop e
bracket_fits shared (suc d) zero a e = let z : past_limit ≡ out_of_shape = stop_number {A = Formula Item} e in omega arith
bracket_fits shared (suc d) (suc k) a e = ok≢stop e

behind_bracket : (shared : Bool) (d a : ℕ) (ms : Place) (n : ℕ) → item_next shared ms ≡ true → ask_unary shared d (at (sign_at "(" a ∷ ms) n) ≡ read_grouped item (sign_at "(" a ∷ ms) (at ms n)
behind_bracket shared zero a ms n e = rw e
behind_bracket shared (suc d) a ms n e = rw e

cons_mark : {m o : Placed} {x y : Place} → m ∷ x ≡ o ∷ y → (m ≡ o) × (x ≡ y)
cons_mark e = (cc, cc)

module _ (shared : Bool) (d : ℕ) (x : Steady (sight shared) Always free (AskL shared unary) (ask_unary shared d) (ask_unary shared d)) where
  -- at the bracket itself
  sees_here : (a : ℕ) (t : Place) (k n : ℕ) → ask_unary shared d (at (sign_at "(" a ∷ t) k) ≡ stop n (sign_at "(" a ∷ t) → (y : Place) → Alike (sight shared) n (sign_at "(" a ∷ t) y
      → twice_next y ≡ mixed_next t
  sees_here a t k n e [] h = none≢some (sym h.0)
  sees_here a t k n e (o ∷ y) h =
      let z : sign_at "(" a ≡ o = some_eq h.0 in
      let w = x.stops (at (sign_at "(" a ∷ t) k) n (sign_at "(" a ∷ t) tt e in
      rw (← z) (go w.pre (append_cancel_right w.pre [] (sign_at "(" a ∷ t) (sym w.split)) w.same w.cause)
    where
      go : (pre : Place) → pre ≡ [] → ((u : Place) → Alike (sight shared) n (sign_at "(" a ∷ t) u → ask_unary shared d (at (pre ++ u) k) ≡ stop n u)
          → Cause (sight shared) (AskL shared unary) pre n (sign_at "(" a ∷ t) → mixed_next y ≡ mixed_next t
      go pre q f (excess e₁ m u post z j l) = sight_mixed shared y t (sym (h.1 e₁ refl))
      go pre q f (unfit e₁ post l) =
          let same : ask_unary shared d (at (pre ++ (sign_at "(" a ∷ plain_word)) k) ≡ stop n (sign_at "(" a ∷ plain_word) = f (sign_at "(" a ∷ plain_word) (refl, λ z. absurd (omega arith)) in
          absurd (bracket_fits shared d k a (rw (q, e₁) at same))

  -- behind it
  sees_behind : (a : ℕ) (t : Place) (k n : ℕ) (r : Place) → ask_unary shared d (at (sign_at "(" a ∷ t) k) ≡ stop n r → (pre : Place) → t ≡ pre ++ r → (y : Place) → SameHead r y
      → mixed_next (pre ++ y) ≡ mixed_next t
  sees_behind a t k n r e pre z y h = go (seat_next t) refl
    where
      in_group : (k : ℕ) → seat_next t ≡ true → read_grouped item (sign_at "(" a ∷ t) (at t k) ≡ stop n r → mixed_next (pre ++ y) ≡ mixed_next t
      in_group zero q e =
          let i : sign_at "(" a ∷ t ≡ r = stop_place {A = Formula Item} e in
          let j = ap length i in
          let l = ap length z ∙ length-append pre r in
          absurd (omega arith)
      in_group (suc k) q e = stopped (item (sign_at "(" a ∷ t) (at t k)) (λ x. return (atom x)) n r _
          (chose_stop (next_is "g" t) read_test (read_seats (sign_at "(" a ∷ t)) (at t k) n r _
          (λ q₁ _. absurd (false≢true (sym (no_seats t q₁).0 ∙ q)))
          (λ _. chose_stop (seat_next t) (read_group (sign_at "(" a ∷ t)) (exactly (sign_at "(" a ∷ t)) (at t k) n r _
          (λ _ e₁. stopped (group (sign_at "(" a ∷ t) (at t k)) (λ x. return (a_group x)) n r _
          (λ e₂. group_stopped (sign_at "(" a ∷ t) t k n r e₂ pre z y h) (λ g s e₂ e₃. ok≢stop e₃) e₁)
          (λ q₁ _. absurd (false≢true (sym q₁ ∙ q)))))
          (λ g s e₂ e₃. ok≢stop e₃) e

      go : (b : Bool) → seat_next t ≡ b → mixed_next (pre ++ y) ≡ mixed_next t
      go true q = in_group k q (sym (behind_bracket shared d a t k (or_left (test_next shared t) (twice_next t) (or_left (seat_next t) (shared && next_is "g" t) q))) ∙ e)
      go false q = same_not_mixed (pre ++ y) t (sym (ap head? z ∙ head_append pre r y h)) q

  unary_sees : Sees shared (ask_unary shared d)
  unary_sees = record { sees = λ s n r e pre z y h. marks s.marks s.nodes n r e pre z y h }
    where
      bracket : (m : Mark) (a : ℕ) (t : Place) (k n : ℕ) (r : Place) → m ≡ text (bytes "(") → ask_unary shared d (at (placed m a ∷ t) k) ≡ stop n r → (pre : Place)
          → placed m a ∷ t ≡ pre ++ r → (y : Place) → Alike (sight shared) n r y → twice_next (pre ++ y) ≡ twice_next (placed m a ∷ t)
      bracket m a t k n r c e [] z y h = rw c (sees_here a t k n (rw (← z, c) at e) y (rw (← z, c) at h))
      bracket m a t k n r c e (o ∷ pre) z y h =
          let (i, j) = cons_mark z in
          rw (← i, c) (sees_behind a t k n r (rw c at e) pre j y h.0)

      marks : (ms : Place) (k n : ℕ) (r : Place) → ask_unary shared d (at ms k) ≡ stop n r → (pre : Place) → ms ≡ pre ++ r → (y : Place) → Alike (sight shared) n r y
          → twice_next (pre ++ y) ≡ twice_next ms
      marks ms k n r e pre z y h = go (next_is "(" ms) refl
        where
          heads : SameHead (pre ++ y) ms
          heads = sym (ap head? z ∙ head_append pre r y h.0)

          split : (ms : Place) → next_is "(" ms ≡ true → ask_unary shared d (at ms k) ≡ stop n r → ms ≡ pre ++ r → twice_next (pre ++ y) ≡ twice_next ms
          split [] q e z = absurd (false≢true q)
          split (placed m a ∷ t) q e z = bracket m a t k n r (is→eq "(" m q) e pre z y h

          go : (b : Bool) → next_is "(" ms ≡ b → twice_next (pre ++ y) ≡ twice_next ms
          go true q = split ms q e z
          go false q = not_bracket (pre ++ y) (next_head "(" (pre ++ y) ms heads ∙ q) ∙ sym (not_bracket ms q)

-- before what stops at some mark behind
module _ {A : Type 0} {shared : Bool} {v : Part} {u : Read Item} (f : Formula Item → Reader A) (x : Steady (sight shared) Always free (AskL shared v) u u) (k : Sees shared u)
    (ends : (g : Formula Item) (s : State) (n : ℕ) (r : Place) → f g s ≡ stop n r → (pre : Place) × (s.marks ≡ pre ++ r)) where
  sees_then : Sees shared (u >>= f)
  sees_then = record { sees = λ s n r e pre z y h. stopped (u s) f n r _ (λ e₁. k.sees s n r e₁ pre z y h) (λ g s₂ e₁ e₂. later s n r g s₂ e₁ (ends g s₂ n r e₂) pre z y) e }
    where
      later : (s : State) (n : ℕ) (r : Place) (g : Formula Item) (s₂ : State) → u s ≡ ok g s₂ → (pre₂ : Place) × (s₂.marks ≡ pre₂ ++ r)
          → (pre : Place) → s.marks ≡ pre ++ r
          → (y : Place) → twice_next (pre ++ y) ≡ twice_next s.marks
      later s n r g s₂ e (pre₂, z₂) pre z y =
          let w = x.passes s s₂ g tt e in
          let (_, d) = w.said s₂.marks in
          let m = formula_settles d in
          let q₁ : m.pre ≡ w.pre = append_cancel_right m.pre w.pre s₂.marks (sym m.split) in
          let q : m.pre ++ pre₂ ≡ pre = append_cancel_right (m.pre ++ pre₂) pre r
          (append_assoc m.pre pre₂ r ∙ ap (λ x. x ++ (pre₂ ++ r)) q₁ ∙ ap (λ x. w.pre ++ x) (sym z₂) ∙ sym w.split ∙ z) in
          subst (λ x. twice_next (x ++ y) ≡ twice_next s.marks) q (ap twice_next (append_assoc m.pre pre₂ y) ∙ m.twice (pre₂ ++ y) ∙ ap twice_next (sym w.split))

steady_ends : {A : Type 0} (shared : Bool) {L : Lang} (p : Reader A) → Steady (sight shared) Always free L p p → (s : State) (n : ℕ) (r : Place) → p s ≡ stop n r
    → (pre : Place) × (s.marks ≡ pre ++ r)
steady_ends shared p x s n r e = let w = x.stops s n r tt e in (w.pre, w.split)

closing_sees : (shared : Bool) (d : ℕ) → Steady (sight shared) Always free (AskL shared unary) (ask_unary shared d) (ask_unary shared d) → Sees shared (closing (ask_unary shared d))
closing_sees shared d x =
    let u = ask_unary shared d in
    let c = conjunction_t NoneStarts (ItemSaid shared) u x in
    let e = expression_t NoneStarts (ItemSaid shared) u x in
    sees_then (λ g. sign ")" >>= λ _. return g) e
    (sees_then (chain "|" or (conjunction u) most_nodes) c
    (sees_then (chain "&" and u most_nodes) x (unary_sees shared d x)
    (λ g. steady_ends shared (chain "&" and u most_nodes g) (chain_t all and (AskL shared unary) u x most_nodes g g)))
    (λ g. steady_ends shared (chain "|" or (conjunction u) most_nodes g) (chain_t any or (AskL shared (joined_by all)) (conjunction u) c most_nodes g g)))
    (λ g. steady_ends shared (sign ")" >>= λ _. return g) (steady_last (steady_sign ")") λ _ _ _. steady_return g g))

-- ---- a beginning that can be completed

closed_formula : {shared : Bool} (ms r : Place) → ClosedL NoneStarts (ItemSaid shared) ms r → (b : ℕ) × (g : Formula Item) × FormulaSaid NoneStarts (ItemSaid shared) (joined_by any) ms g (sign_at ")" b ∷ r)
closed_formula ms r (q, (g, d), c) = let (b, e) = one_sign ")" q r c in (b, g, rw e at d)

-- expressions of the same marks before any rest are seen alike
closed_settled : (shared : Bool) (pre : Place) → ((t : Place) → ClosedL NoneStarts (ItemSaid shared) (pre ++ t) t) → (r t : Place) → twice_next (pre ++ t) ≡ twice_next (pre ++ r)
closed_settled shared pre f r t =
    let (b, g, d) = closed_formula (pre ++ r) r (f r) in
    let m = formula_settles d in
    let shut = sign_at ")" b ∷ [] in
    let q : m.pre ++ shut ≡ pre = append_cancel_right (m.pre ++ shut) pre r (append_assoc m.pre shut r ∙ sym m.split) in
    subst (λ x. twice_next (x ++ t) ≡ twice_next (pre ++ r)) q (ap twice_next (append_assoc m.pre shut t) ∙ m.twice (shut ++ t))

closed_no_test : (shared : Bool) (ms r : Place) → ClosedL NoneStarts (ItemSaid shared) ms r → test_next shared ms ≡ false
closed_no_test shared ms r (q, (g, d), c) = formula_no_test d

settled : (shared : Bool) (pre r : Place) → item_next shared (pre ++ r) ≡ false → ((t : Place) → ClosedL NoneStarts (ItemSaid shared) (pre ++ t) t) → (t : Place) → item_next shared (pre ++ t) ≡ false
settled shared pre r y f t =
    let (a, b) = or_none (test_next shared (pre ++ r)) (twice_next (pre ++ r)) y in
    none_or (test_next shared (pre ++ t)) (twice_next (pre ++ t)) (closed_no_test shared (pre ++ t) t (f t)) (closed_settled shared pre f r t ∙ b)

-- the marks up to the end of the first term, as an exactly-one of that term alone
abbrev Completion : Bool → Place → Type 0
Completion shared pre = (last : Place) × ((t : Place) → (ItemL shared either FreeL NoneStarts (ItemSaid shared)) (pre ++ (last ++ t)) t)

term_again : {ms r : Place} {ls : List Literal} (d : TermSaid ms ls r) → both (relations ls) ≡ true → (t : Place)
    → (ks : List Literal) × TermSaid ((term_settles d).pre ++ t) ks t × (both (relations ks) ≡ true)
term_again (a_term {a} {ms} {ns} {r} {l} {ls} d o) b t =
    let g : GroupSaid [] ms (literals_of [] all (l ∷ ls)) r = conjoined d o in
    let (y, e, f) = (group_moves g).again t [] in
    let m = term_settles (a_term {a = a} d o) in
    let q : sign_at "(" a ∷ (group_moves g).pre ≡ m.pre =
    append_cancel_right (sign_at "(" a ∷ (group_moves g).pre) m.pre r (sym (ap (λ x. sign_at "(" a ∷ x) (group_moves g).split) ∙ m.split) in
    subst (λ x. (ks : List Literal) × TermSaid (x ++ t) ks t × (both (relations ks) ≡ true)) q (go ((group_moves g).pre ++ t) y e (f ∙ b))
  where
    go : (ns : Place) (y : Literals) → GroupSaid [] ns y t → mixed y ≡ true → (ks : List Literal) × TermSaid (sign_at "(" a ∷ ns) ks t × (both (relations ks) ≡ true)
    go ns _ (conjoined {l = l} {ls} d o) e = (l ∷ ls, a_term d o, e)
    go ns _ (disjoined d o) e = absurd (false≢true e)

complete_term : (shared : Bool) (pre r post : Place) → twice_next (pre ++ r) ≡ false → twice_next (pre ++ post) ≡ true → Completion shared pre
complete_term shared pre r post y k =
    let (ls, q, d, b) = twice_there (pre ++ post) k in
    let m = term_settles d in
    go ls q d b (order m.pre q pre post (sym m.split))
  where
    seen_true : (ls : List Literal) (q : Place) (d : TermSaid (pre ++ post) ls q) (w : Place) → pre ≡ (term_settles d).pre ++ w → ⊥
    seen_true ls q d w e =
        let m = term_settles d in
        let z : twice_next (pre ++ r) ≡ true = ap (λ x. twice_next (x ++ r)) e ∙ ap twice_next (append_assoc m.pre w r) ∙ m.twice (w ++ r) ∙ k in
        false≢true (sym y ∙ z)

    go : (ls : List Literal) (q : Place) (d : TermSaid (pre ++ post) ls q) → both (relations ls) ≡ true → Order (term_settles d).pre q pre post
        → Completion shared pre
    go ls q d b (equal e z) = absurd (seen_true ls q d [] (sym e ∙ sym (append-nil (term_settles d).pre)))
    go ls q d b (before m w e z) = absurd (seen_true ls q d (m ∷ w) e)
    go ls q d b (behind m w e z) = (
      (m ∷ w) ++ (sign_at ")" 0 ∷ []),
      λ t. inl (λ o.
          let (ks, d₁, b₁) = term_again d b (sign_at ")" 0 ∷ t) in
          let i : (term_settles d).pre ++ (sign_at ")" 0 ∷ t) ≡ pre ++ (((m ∷ w) ++ (sign_at ")" 0 ∷ [])) ++ t) =
          ap (λ x. x ++ (sign_at ")" 0 ∷ t)) e ∙ append_assoc pre (m ∷ w) (sign_at ")" 0 ∷ t) ∙ ap (λ x. pre ++ x) (sym (append_assoc (m ∷ w) (sign_at ")" 0 ∷ []) t)) in
          (exactly_one o (ks ∷ []), subst (λ x. ItemSaid shared o x (exactly_one o (ks ∷ [])) t) i (of_terms d₁ b₁ close))),
    )

completes : (shared : Bool) (pre r post : Place) → item_next shared (pre ++ r) ≡ false → ((t : Place) → ClosedL NoneStarts (ItemSaid shared) (pre ++ (post ++ t)) t) → Completion shared pre
completes shared pre r post y f = go (twice_next (pre ++ (post ++ []))) refl
  where
    whole : (t : Place) → ClosedL NoneStarts (ItemSaid shared) ((pre ++ post) ++ t) t
    whole t = rw (append_assoc pre post t) (f t)

    go : (b : Bool) → twice_next (pre ++ (post ++ [])) ≡ b → Completion shared pre
    go true k = complete_term shared pre r (post ++ []) (or_none (test_next shared (pre ++ r)) (twice_next (pre ++ r)) y).1 k
    go false k = (post, λ t. inr (sym (ap twice_next (append_assoc pre post t)) ∙ closed_settled shared (pre ++ post) whole [] t ∙ ap twice_next (append_assoc pre post []) ∙ k, f t))

-- ---- all together

plain_group : (shared : Bool) (t o : Place) → Saying (ItemSaid shared o) (plain_word ++ t) t
plain_group shared t o = (_, of_group (conjoined (literal {q = eq}) close))

abbrev mixed_group : Place
mixed_group = placed (seat 1) 0 ∷ sign_at "=" 0 ∷ placed (number 0) 0 ∷ sign_at "&" 0 ∷ placed (seat 1) 0 ∷ sign_at "!=" 0 ∷ placed (number 0) 0 ∷ sign_at ")" 0 ∷ []

a_word : (shared : Bool) (ms : Place) → item_next shared ms ≡ true → (w : Place) × ((t : Place) → sight shared ms ≡ sight shared (w ++ t)) × ((t : Place) → ItemL shared (w ++ t) t)
unfolding mixed_next
a_word shared ms y = go (test_next shared ms) (mixed_next ms) (twice_next ms) refl refl refl
  where
    go : (a b c : Bool) → test_next shared ms ≡ a → mixed_next ms ≡ b → twice_next ms ≡ c
        → (w : Place) × ((t : Place) → sight shared ms ≡ sight shared (w ++ t)) × ((t : Place) → ItemL shared (w ++ t) t)
    go true true c e z i = (mixed_group, (λ t. rw (e, z)), λ t o. (_, of_group (conjoined (literal {q = eq}) (next (literal {q = ne}) close))))
    go true false c e z i = (plain_word, (λ t. rw (e, z)), plain_group shared)
    go false b true e z i = (
      mixed_word ++ (sign_at ")" 0 ∷ []),
      (λ t. rw (e, i) (sym (ap (λ (d : Bool). seen d (mixed_next (mixed_word ++ (sign_at ")" 0 ∷ t))) true) (and_false shared)))),
      λ t o. (_, of_terms (a_term (literal {q = eq}) (next (literal {q = ne}) close)) refl close),
    )
    go false b false e z i = absurd (false≢true (sym (none_or (test_next shared ms) (twice_next ms) e i) ∙ y))

abbrev closed_word : Place
closed_word = sign_at "(" 0 ∷ (plain_word ++ (sign_at ")" 0 ∷ []))

shut_word : (shared : Bool) (t : Place) → item_next shared (closed_word ++ t) ≡ false
unfolding mixed_next
shut_word shared t = none_or (shared && false) false (and_false shared) refl

alike_word : (shared : Bool) (ms : Place) → item_next shared ms ≡ false → (t : Place) → sight shared ms ≡ sight shared (closed_word ++ t)
unfolding mixed_next
alike_word shared ms y t =
    let (a, b) = or_none (test_next shared ms) (twice_next ms) y in
    rw (a, b) (sym (ap (λ (d : Bool). seen d (mixed_next (closed_word ++ t)) false) (and_false shared)))

-- a test, a group or an exactly-one that ended, or stopped, stays one
module _ (shared : Bool) (m : Placed) (s : State) where
  item_ends : (s₁ : State) (a : Item) → item_next shared s.marks ≡ true → item (m ∷ s.marks) s ≡ ok a s₁ → (pre : Place) → s.marks ≡ pre ++ s₁.marks
      → (y : Place) → SameHead s₁.marks y → item_next shared (pre ++ y) ≡ true
  item_ends s₁ a y e pre z u h = chose (next_is "g" s.marks) read_test (read_seats (m ∷ s.marks)) s s₁ a _
      (λ q e. still (left_of (test_next shared s.marks) (twice_next s.marks) y (no_seats s.marks q).1))
      (λ q. chose (seat_next s.marks) (read_group (m ∷ s.marks)) (exactly (m ∷ s.marks)) s s₁ a _
      (λ q₁ e. still (or_left (seat_next s.marks) (shared && next_is "g" s.marks) q₁))
      (λ q₁ e. or_right (test_next shared (pre ++ u)) (twice_next (pre ++ u))
      (exactly_ends (m ∷ s.marks) s s₁ a e pre z u ∙ or_else (seat_next s.marks) (twice_next s.marks) (seats_start shared s.marks y q) q₁))) e
    where
      still : test_next shared s.marks ≡ true → item_next shared (pre ++ u) ≡ true
      still k = or_left (test_next shared (pre ++ u)) (twice_next (pre ++ u)) (test_still shared true s.marks pre s₁.marks u k z h)

  item_halts : (n : ℕ) (r : Place) → item_next shared s.marks ≡ true → item (m ∷ s.marks) s ≡ stop n r → (pre : Place) → s.marks ≡ pre ++ r → (y : Place) → SameHead r y
      → item_next shared (pre ++ y) ≡ true
  item_halts n r y e pre z u h = chose_stop (next_is "g" s.marks) read_test (read_seats (m ∷ s.marks)) s n r _
      (λ q e. still (left_of (test_next shared s.marks) (twice_next s.marks) y (no_seats s.marks q).1))
      (λ q. chose_stop (seat_next s.marks) (read_group (m ∷ s.marks)) (exactly (m ∷ s.marks)) s n r _
      (λ q₁ e. still (or_left (seat_next s.marks) (shared && next_is "g" s.marks) q₁))
      (λ q₁ e.
      let k = or_else (seat_next s.marks) (twice_next s.marks) (seats_start shared s.marks y q) q₁ in
      or_right (test_next shared (pre ++ u)) (twice_next (pre ++ u)) (exactly_halts (m ∷ s.marks) s n r k e pre z u ∙ k))) e
    where
      still : test_next shared s.marks ≡ true → item_next shared (pre ++ u) ≡ true
      still k = or_left (test_next shared (pre ++ u)) (twice_next (pre ++ u)) (test_still shared true s.marks pre r u k z h)

pub question_items : (shared : Bool) → Leaves (sight shared) (item_next shared) NoneStarts (ItemSaid shared) item
question_items shared = record {
  decided = sight_starts shared;
  allows = λ ms e. (or_none (test_next shared ms) (twice_next ms) e).1;
  steady = item_t shared;
  group_ends = λ m s s₁ a y e pre z u h. item_ends shared m s s₁ a y e pre z u h;
  group_halts = λ m s n r y e pre z u h. item_halts shared m s n r y e pre z u h.0;
  word = a_word shared;
  sample = plain_word;
  sampled = refl;
  closed = closed_word;
  closes = λ t. (sign_at ")" 0 ∷ t, (_, single {s = any} (single {s = all} (grouped (of_group (conjoined (literal {q = eq}) close))))), a_sign ")" 0 t);
  shut = shut_word shared;
  alike = alike_word shared;
  settled = settled shared;
  halts = λ d x s n r y e pre z u h.
      let (a, b) = or_none (test_next shared s.marks) (twice_next s.marks) y in
      none_or (test_next shared (pre ++ u)) (twice_next (pre ++ u)) (test_still shared false s.marks pre r u a z h.0) ((closing_sees shared d x).sees s n r e pre z u h ∙ b);
  completes = completes shared;
}
