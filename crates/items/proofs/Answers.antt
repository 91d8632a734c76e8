-- A group that was read is an item of a card's language and, as one of everyone, of a question's; an exactly-one is one of a question's; a test
-- of the shared number is one of both, where such a number is declared; and where none of these starts no item does. Assumes nothing.
use Prim.Native.Nat.{ℕ, zero, suc, ◌+◌, ◌-◌}
use mathlib.Core.Path.{◌≡◌, refl, sym, ap, ap₂, ◌∙◌}
use mathlib.Core.Bool.{Bool, true, false, ◌&&◌, ◌||◌}
use mathlib.Core.List.{List, [], ◌∷◌}
use native.Mathlib.Omega.{arith}
use borrow.Author.Tests.{eq-eqb, ne_eqb}
use lib.Dec.{eqb, leb}
use lib.ListN.{length}
use Rattle.card.specs.Refusals.{above_top}
use Rattle.card.specs.Text.{when◌then◌else◌}
use Rattle.card.specs.Card.{Kind, everyone, others, Formula, atom, neg, and, or}
use Rattle.card.specs.Laid.{kind_number, shared_kind}
use Rattle.marks_on_a_card.specs.Marks.{placed, seat, place_of}
use Rattle.marks_on_a_card.specs.Kinds.{k_seat, kind}
use Rattle.marks.specs.Step.{step_at, marks_at}
use Rattle.marks.specs.declared.Step.{Step}
use Rattle.marks.proofs.Next.{Meet, over, met, meet}
use Rattle.marks_on_a_card.proofs.KindLaws.{kind_is}
use Rattle.reading.specs.Reader.{Place, State, at, Result, ok, stop, Reader, bind, return, next_is}
use Rattle.reading.specs.Guard.{seat_next, test_next}
use Rattle.reading.specs.Group.{Literal, Literals, group, SharedTest, Tested, of_seats, of_shared, shared_test}
use Rattle.reading.specs.Judgements.{state, one_group, has, unless, first_state, judged_group, judged_guard}
use Rattle.grammar.specs.Grammar.{sign_at}
use Rattle.grammar.proofs.Follows.{and_false}
use Rattle.late.specs.Values.{shares, most_of}
use Rattle.items.specs.KeptItems.{wanted_by, bound_by}
use Rattle.group.specs.declared.Grouped.{Grouped}
use Rattle.late.specs.Late.{Late, want_of, kind_by, blamed, grouped, judge_all}
use Rattle.group.specs.GroupRead.{ReadGroup, GroupRead}
use Rattle.group.proofs.Signs.{Known}
use Rattle.group.proofs.Ahead.{seat_next_law, next_is_law}
use Rattle.late.proofs.Settling.{judge_append}
use Rattle.group.proofs.Groups.{seat_marks, Answers, inside}
use Rattle.asking.specs.Question.{Item, a_group, exactly_one, a_test, twice_next, item_next, exactly as exactly_of}
use Rattle.asking.specs.Asking.{state as claimed, everyone as everyone_of, first_d, claims_of}
use Rattle.items.specs.OneRead.{ReadOne, OneRead}
use Rattle.term_literals.specs.Wanted.{want_of_terms}
use Rattle.items.specs.Language.{Language, cards, judged_of, want_of_all, claim_all, questions, language_by, language_of}
use Rattle.languages.specs.declared.Language.{Language as Spoken}
use Rattle.std.specs.Prelude.{Option, Some, None, Result as Answer, Ok, Err, IsOkAnd, MatchResult}
use Rattle.group.specs.GroupRead.{Inside, InPart}
use Rattle.items.specs.GroupsAsked.{unwanted, of_all}
use Rattle.items.specs.SharedRead.{ReadTest, TestRead}
use Rattle.items.specs.Items.{ReadItem, ItemRead, ItemIf, ItemAt}

-- whether an item starts
pub item_if : (L : Language) (o : ℕ) (s : List ℕ) (n : ℕ) (p : Place) (r : Option (Answer Grouped ℕ)) (a b : Bool) → a ≡ b → ItemIf L o s n p b r → ItemIf L o s n p a r
item_if L o s n p r a b e h = rw e h

judged_group_law : (e k : ℕ) (a : Literals) (d : ℕ) (m : Place) (before : Late) → first_state k a.literals ≡ state k d m ∷ []
    → judge_all e (judged_group k a) before ≡ blamed (unless (leb d k) above_top) (place_of e m) (grouped (want_of a.literals) (place_of e a.place) before)
unfolding judge_all
judged_group_law e k a d m before h = ap (λ js. judge_all e (one_group a ∷ js) before) h

same_late : (d k i j m n p r : ℕ) (before : Late) → i ≡ j → m ≡ n → p ≡ r
    → blamed (unless (leb d k) above_top) i (grouped m p before) ≡ blamed (unless (leb d k) above_top) j (grouped n r before)
same_late d k i j m n p r before e f h = rw (e, f, h)

same_one : (c d k i j m n p : ℕ) (before : Late) → c ≡ d → i ≡ j → m ≡ n
    → blamed (unless (leb c k) above_top) i (grouped m p before) ≡ blamed (unless (leb d k) above_top) j (grouped n p before)
same_one c d k i j m n p before e f h = rw (e, f, h)

-- what an item's kind decides
by_kind : (m d k i want p kind : ℕ) (x : Late) → eqb kind shared_kind ≡ false
    → blamed (unless (leb d k) above_top) i (grouped want p x) ≡ blamed (unless (leb d (bound_by m kind k)) above_top) i (wanted_by kind want p x)
by_kind m d k i want p kind x e = rw e

as_shared_law : (m d k i j want p kind v : ℕ) (x : Late) → kind ≡ shared_kind → d ≡ v → i ≡ j
    → blamed (unless (leb v m) above_top) i x ≡ blamed (unless (leb d (bound_by m kind k)) above_top) j (wanted_by kind want p x)
as_shared_law m d k i j want p kind v x e f h = rw (e, f, h)

group_kind : (kind : Kind) → eqb (kind_number kind) shared_kind ≡ false
group_kind everyone = refl
group_kind others = refl

plain : (o : ℕ) (s : List ℕ) (n : ℕ) (p : Place) (a : Literals) (b : State) (r : Grouped) → ReadGroup o s n p a b r → eqb r.kind shared_kind ≡ false
plain o s n p a b r h = ap (λ k. eqb k shared_kind) h.kind ∙ group_kind (kind_by a.literals)

abbrev as_seats : Literals → Reader Tested
as_seats x = return (of_seats x)

group_item : (v o : ℕ) (s : List ℕ) (n : ℕ) (p : Place) (y : Result Literals) (r : Answer Grouped ℕ) → GroupRead o s n p y r → ItemRead (cards v) o s n p (bind y as_seats) r
group_item v o s n p (ok a b) (Ok r) h = record {
  rest = h.rest;
  left = h.left;
  past = h.past;
  node = h.node;
  judged = λ k x.
      judged_group_law (o + length s) k a r.d h.numeral x (h.states k)
      ∙ same_late r.d k (place_of (o + length s) h.numeral) (o + r.first) (want_of a.literals) r.want (place_of (o + length s) a.place) (place_of (o + length s) p) x
      h.first (sym h.want) (ap (place_of (o + length s)) h.bracket)
      ∙ by_kind (most_of v) r.d k (o + r.first) r.want (place_of (o + length s) p) r.kind x (plain o s n p a b r h);
}
group_item v o s n p (ok a b) (Err e) h = h
group_item v o s n p (stop m q) (Ok r) h = h
group_item v o s n p (stop m q) (Err e) h = h

-- what is judged of a card's guard, as its list of judgements
pub card_judged : (v k e : ℕ) (g : Formula Tested) (x : Late) → judged_of (cards v) k e g x ≡ judge_all e (judged_guard k (most_of v) g) x
card_judged v k e (atom a) x = refl
card_judged v k e (neg g) x = card_judged v k e g x
card_judged v k e (and g h) x =
    let gs = judged_guard k (most_of v) g in
    let hs = judged_guard k (most_of v) h in
    ap (judged_of (cards v) k e h) (card_judged v k e g x) ∙ card_judged v k e h (judge_all e gs x) ∙ sym (judge_append e gs hs x)
card_judged v k e (or g h) x =
    let gs = judged_guard k (most_of v) g in
    let hs = judged_guard k (most_of v) h in
    ap (judged_of (cards v) k e h) (card_judged v k e g x) ∙ card_judged v k e h (judge_all e gs x) ∙ sym (judge_append e gs hs x)

-- ---- a test of the shared number, in either language

abbrev as_shared : SharedTest → Reader Tested
as_shared x = return (of_shared x)

abbrev as_test : SharedTest → Reader Item
as_test x = return (a_test x)

module _ (v o : ℕ) (s : List ℕ) (n : ℕ) (p : Place) where
  test_judged : (x : SharedTest) (b : State) (r : Grouped) → ReadTest o s n x b r → (k : ℕ) (y : Late)
      → blamed (unless (leb x.value.value (most_of v)) above_top) (place_of (o + length s) x.value.place) y
      ≡ blamed (unless (leb r.d (bound_by (most_of v) r.kind k)) above_top) (o + r.first) (wanted_by r.kind r.want (place_of (o + length s) p) y)
  test_judged x b r h k y =
      as_shared_law (most_of v) r.d k (place_of (o + length s) x.value.place) (o + r.first) r.want (place_of (o + length s) p) r.kind x.value.value y
      h.kind h.d h.first

  test_item : (y : Result SharedTest) (r : Answer Grouped ℕ) → TestRead o s n y r → ItemRead (cards v) o s n p (bind y as_shared) r
  unfolding judge_all
  test_item (ok x b) (Ok r) h = record { rest = h.rest; left = h.left; past = h.past; node = h.node; judged = test_judged x b r h }
  test_item (ok x b) (Err e) h = h
  test_item (stop m q) (Ok r) h = h
  test_item (stop m q) (Err e) h = h

  test_asked : (y : Result SharedTest) (r : Answer Grouped ℕ) → TestRead o s n y r → ItemRead (questions v) o s n p (bind y as_test) r
  unfolding claim_all
  test_asked (ok x b) (Ok r) h = record { rest = h.rest; left = h.left; past = h.past; node = h.node; judged = test_judged x b r h }
  test_asked (ok x b) (Err e) h = h
  test_asked (stop m q) (Ok r) h = h
  test_asked (stop m q) (Err e) h = h

test_inside : (s : List ℕ) (y : Result SharedTest) (r : Answer Grouped ℕ) → TestRead 0 s 0 y r → InPart s r
test_inside s (ok x b) (Ok r) h = record { next = h.next_within; first = h.first_within }
test_inside s (ok x b) (Err e) h = absurd h
test_inside s (stop m q) (Ok r) h = absurd h
test_inside s (stop m q) (Err e) h = h.within

-- ---- a question's items

has_kind : (ls : List Literal) → eqb (kind_number (kind_by ls)) 0 ≡ has 1 ls
has_kind ls = go (has 1 ls)
  where
    go : (b : Bool) → eqb (kind_number (when b then everyone else others)) 0 ≡ b
    go true = refl
    go false = refl

first_claim : (k d : ℕ) (m : Place) (ls : List Literal) → first_state k ls ≡ state k d m ∷ [] → first_d k ls ≡ claimed k d m ∷ []
first_claim k d m [] e = let z : ◌≡◌ {A = ℕ} 0 1 = cc in absurd (omega arith)
first_claim k d m (l ∷ ls) e =
    let y : l.d ≡ d = cc in
    let z : l.place ≡ m = cc in
    rw (y, z)

claimed_group : (e k m₁ : ℕ) (a : Literals) (d : ℕ) (m : Place) (before : Late) → first_state k a.literals ≡ state k d m ∷ []
    → claim_all e (claims_of k m₁ (a_group a)) before ≡ blamed (unless (leb d k) above_top) (place_of e m) (grouped (want_of_all a.literals) (place_of e a.place) before)
unfolding claim_all
claimed_group e k m₁ a d m before h = ap (λ js. claim_all e (everyone_of a ∷ js) before) (first_claim k d m a.literals h)

abbrev as_group : Literals → Reader Item
as_group x = return (a_group x)

-- a group in a question
abbrev pub all_of : Answer Grouped ℕ → Answer Grouped ℕ
all_of (Ok r) = Ok (of_all r)
all_of (Err e) = Err e

pub mapped : (g r : Answer Grouped ℕ) → MatchResult g (λ x. IsOkAnd r (λ y. y ≡ of_all x)) (λ e. r ≡ Err e) → r ≡ all_of g
mapped (Ok x) (Ok y) h = ap Ok h
mapped (Ok x) (Err e) h = absurd h
mapped (Err e) r h = h

module _ (v o : ℕ) (s : List ℕ) (n : ℕ) (p : Place) where
  -- whatever number of seats is told
  wanting : (a : Literals) (b : State) (r : Grouped) → ReadGroup o s n p a b r → (m : ℕ) → want_of_all a.literals ≡ m → (k : ℕ) (x : Late)
      → (questions v).judged k (o + length s) (a_group a) x
      ≡ blamed (unless (leb r.d (bound_by (most_of v) r.kind k)) above_top) (o + r.first) (wanted_by r.kind m (place_of (o + length s) p) x)
  wanting a b r h m w k x =
      claimed_group (o + length s) k (most_of v) a r.d h.numeral x (h.states k)
      ∙ same_late r.d k (place_of (o + length s) h.numeral) (o + r.first) (want_of_all a.literals) m (place_of (o + length s) a.place) (place_of (o + length s) p) x
      h.first w (ap (place_of (o + length s)) h.bracket)
      ∙ by_kind (most_of v) r.d k (o + r.first) m (place_of (o + length s) p) r.kind x (plain o s n p a b r h)

  group_asked : (y : Result Literals) (r : Answer Grouped ℕ) → GroupRead o s n p y r → ItemRead (questions v) o s n p (bind y as_group) (all_of r)
  group_asked (ok a b) (Ok r) h = go (eqb r.kind 0) (ap (λ k. eqb k 0) h.kind ∙ has_kind a.literals)
    where
      go : (c : Bool) → c ≡ has 1 a.literals → ReadItem (questions v) o s n p (a_group a) b (when c then r else unwanted r)
      go true e = record { rest = h.rest; left = h.left; past = h.past; node = h.node; judged = wanting a b r h r.want (rw (← e) (sym h.want)) }
      go false e = record { rest = h.rest; left = h.left; past = h.past; node = h.node; judged = wanting a b r h 0 (rw (← e) refl) }
  group_asked (ok a b) (Err e) h = h
  group_asked (stop m q) (Ok r) h = h
  group_asked (stop m q) (Err e) h = h

  one_judged : (x : Item) (b : State) (r : Grouped) (h : ReadOne o s n p x b r) (k : ℕ) (y : Late)
      → (questions v).judged k (o + length s) (exactly_one p ((h.head ∷ h.more) ∷ h.later)) y
      ≡ blamed (unless (leb r.d (bound_by (most_of v) r.kind k)) above_top) (o + r.first) (wanted_by r.kind r.want (place_of (o + length s) p) y)
  unfolding claim_all
  one_judged x b r h k y =
      same_one h.head.d r.d k (place_of (o + length s) h.head.place) (o + r.first) (want_of_terms ((h.head ∷ h.more) ∷ h.later)) r.want (place_of (o + length s) p) y
      (sym h.d) h.first (sym h.want)
      ∙ by_kind (most_of v) r.d k (o + r.first) r.want (place_of (o + length s) p) r.kind y (ap (λ k. eqb k shared_kind) h.kind)

  one_asked : (y : Result Item) (r : Answer Grouped ℕ) → OneRead o s n p y r → ItemRead (questions v) o s n p y r
  one_asked (ok x b) (Ok r) h = rw h.item (record {
    rest = h.rest;
    left = h.left;
    past = h.past;
    node = h.node;
    judged = one_judged x b r h;
  })
  one_asked (ok x b) (Err e) h = h
  one_asked (stop m q) (Ok r) h = h
  one_asked (stop m q) (Err e) h = h

one_inside : (s : List ℕ) (y : Result Item) (r : Answer Grouped ℕ) → OneRead 0 s 0 [] y r → InPart s r
one_inside s (ok x b) (Ok r) h = record { next = h.next_within; first = h.first_within }
one_inside s (ok x b) (Err e) h = absurd h
one_inside s (stop m q) (Ok r) h = absurd h
one_inside s (stop m q) (Err e) h = h.within

of_all_inside : (s : List ℕ) (r : Answer Grouped ℕ) → InPart s r → InPart s (all_of r)
of_all_inside s (Ok r) h = go (eqb r.kind 0)
  where
    go : (b : Bool) → Inside s (when b then r else unwanted r)
    go true = h
    go false = record { next = h.next; first = h.first }
of_all_inside s (Err e) h = h

-- ---- as the code finds them

number_known : Known "g"
number_known = record { above = omega arith; alone = refl; same = refl }

-- by how many values the shared number has
shares_some : (v : ℕ) → (v ≡ 0 → ⊥) → shares v ≡ true
shares_some zero h = absurd (h refl)
shares_some (suc m) h = refl

shares_none : (v : ℕ) → v ≡ 0 → shares v ≡ false
shares_none zero h = refl
shares_none (suc m) h = absurd (omega arith)

-- what starts, from what each kind of item asks
starts_seat : (shared a b c : Bool) → a ≡ true → ((a || (shared && b)) ≡ true) × (((a || (shared && b)) || c) ≡ true)
starts_seat shared a b c e = rw e (refl, refl)

starts_test : (shared a b c : Bool) → shared ≡ true → a ≡ false → b ≡ true → ((a || (shared && b)) ≡ true) × (((a || (shared && b)) || c) ≡ true)
starts_test shared a b c d e f = rw (d, e, f) (refl, refl)

starts_none : (shared a b c : Bool) → a ≡ false → (shared && b) ≡ false → ((a || (shared && b)) ≡ false) × (((a || (shared && b)) || c) ≡ c)
starts_none shared a b c e f = rw (e, f) (refl, refl)

module _ (v : ℕ) (s : List ℕ) (w : Step) (step : w ≡ step_at s 0) where
  kind_there : (step_at s 0).mark.kind ≡ w.mark.kind
  kind_there = ap (λ (u : Step). u.mark.kind) (sym step)

  seat_as : (o : ℕ) → seat_next (marks_at o s 0) ≡ eqb w.mark.kind k_seat
  seat_as o = seat_next_law o s (step_at s 0) (marks_at o s 0) (meet o s 0) ∙ ap (λ k. eqb k k_seat) kind_there

  number_as : (o : ℕ) → next_is "g" (marks_at o s 0) ≡ eqb w.mark.kind (kind "g")
  number_as o = next_is_law o s "g" number_known (step_at s 0) (marks_at o s 0) (meet o s 0) ∙ ap (λ k. eqb k (kind "g")) kind_there

  -- ---- a seat word

  module _ (h : w.mark.kind ≡ k_seat) (g : Answer Grouped ℕ) (answers : Answers s w.next.at w.mark.value g) where
    seat_there : (o : ℕ) → seat_next (marks_at o s 0) ≡ true
    seat_there o = seat_as o ∙ eq-eqb w.mark.kind k_seat h

    no_number : (o : ℕ) → next_is "g" (marks_at o s 0) ≡ false
    no_number o = number_as o ∙ ne_eqb w.mark.kind (kind "g") (λ z. omega arith)

    reads : (o n : ℕ) (p : Place) → GroupRead o s n p (group p (at (marks_at o s 0) n)) g
    reads o n p = rw begins (answers o n (o + w.mark.place) p)
      where
        begins : marks_at o s 0 ≡ placed (seat w.mark.value) (o + w.mark.place) ∷ marks_at o s w.next.at
        begins = rw step (seat_marks o s (step_at s 0) (marks_at o s 0) (meet o s 0) (kind_there ∙ h))

    within : InPart s g
    within = inside s w.next.at w.mark.value g answers

    starting : (o : ℕ) → (test_next (shares v) (marks_at o s 0) ≡ true) × (item_next (shares v) (marks_at o s 0) ≡ true)
    starting o = starts_seat (shares v) (seat_next (marks_at o s 0)) (next_is "g" (marks_at o s 0)) (twice_next (marks_at o s 0)) (seat_there o)

    pub card_group : ItemAt (cards v) s (Some g)
    card_group = record {
      read = λ o n p. item_if (cards v) o s n p (Some g) (test_next (shares v) (marks_at o s 0)) true (starting o).0
          (rw (no_number o) (group_item v o s n p (group p (at (marks_at o s 0) n)) g (reads o n p)));
      inside = within;
    }

    pub question_group : ItemAt (questions v) s (Some (all_of g))
    question_group = record {
      read = λ o n p. item_if (questions v) o s n p (Some (all_of g)) (item_next (shares v) (marks_at o s 0)) true (starting o).1
          (rw (no_number o, seat_there o) (group_asked v o s n p (group p (at (marks_at o s 0) n)) g (reads o n p)));
      inside = of_all_inside s g within;
    }

  module _ (other : w.mark.kind ≡ k_seat → ⊥) where
    no_seat : (o : ℕ) → seat_next (marks_at o s 0) ≡ false
    no_seat o = seat_as o ∙ ne_eqb w.mark.kind k_seat other

    -- ---- the name of the shared number

    module _ (h : w.mark.kind ≡ kind "g") where
      number_there : (o : ℕ) → next_is "g" (marks_at o s 0) ≡ true
      number_there o = number_as o ∙ eq-eqb w.mark.kind (kind "g") h

      begins : (o : ℕ) → (x : ℕ) × (marks_at o s 0 ≡ sign_at "g" x ∷ marks_at o s w.next.at)
      begins o = rw step (go (step_at s 0) (marks_at o s 0) (meet o s 0) (kind_there ∙ h))
        where
          go : (x : Step) (ms : Place) → Meet o s x ms → x.mark.kind ≡ kind "g" → (a : ℕ) × (ms ≡ sign_at "g" a ∷ marks_at o s x.next.at)
          go x ms over e = absurd (omega arith)
          go x ms (met m p next small l k) e = (o + p, ap (λ z. placed z (o + p) ∷ marks_at o s next) (kind_is "g" (kind "g") (omega arith) refl m e))

      no_twice : (o : ℕ) → twice_next (marks_at o s 0) ≡ false
      no_twice o = let (x, e) = begins o in rw e refl

      module _ (some : v ≡ 0 → ⊥) (g : Answer Grouped ℕ) (answers : (o n x : ℕ) → TestRead o s n (shared_test (at (sign_at "g" x ∷ marks_at o s w.next.at) n)) g) where
        tests : (o n : ℕ) → TestRead o s n (shared_test (at (marks_at o s 0) n)) g
        tests o n = let (x, e) = begins o in rw e (answers o n x)

        within_test : InPart s g
        within_test = test_inside s (shared_test (at (marks_at 0 s 0) 0)) g (tests 0 0)

        starting_test : (o : ℕ) → (test_next (shares v) (marks_at o s 0) ≡ true) × (item_next (shares v) (marks_at o s 0) ≡ true)
        starting_test o = starts_test (shares v) (seat_next (marks_at o s 0)) (next_is "g" (marks_at o s 0)) (twice_next (marks_at o s 0)) (shares_some v some) (no_seat o) (number_there o)

        card_test : ItemAt (cards v) s (Some g)
        card_test = record {
          read = λ o n p. item_if (cards v) o s n p (Some g) (test_next (shares v) (marks_at o s 0)) true (starting_test o).0
              (rw (number_there o) (test_item v o s n p (shared_test (at (marks_at o s 0) n)) g (tests o n)));
          inside = within_test;
        }

        question_test : ItemAt (questions v) s (Some g)
        question_test = record {
          read = λ o n p. item_if (questions v) o s n p (Some g) (item_next (shares v) (marks_at o s 0)) true (starting_test o).1
              (rw (number_there o) (test_asked v o s n p (shared_test (at (marks_at o s 0) n)) g (tests o n)));
          inside = within_test;
        }

        pub either_test : (asks : Bool) → ItemAt (language_by asks v) s (Some g)
        either_test false = card_test
        either_test true = question_test

      pub undeclared : v ≡ 0 → (asks : Bool) → ItemAt (language_by asks v) s None
      undeclared z asks = go asks
        where
          none_starts : (o : ℕ) → (test_next (shares v) (marks_at o s 0) ≡ false) × (item_next (shares v) (marks_at o s 0) ≡ twice_next (marks_at o s 0))
          none_starts o = starts_none (shares v) (seat_next (marks_at o s 0)) (next_is "g" (marks_at o s 0)) (twice_next (marks_at o s 0)) (no_seat o) (ap (λ b. b && next_is "g" (marks_at o s 0)) (shares_none v z))

          go : (asks : Bool) → ItemAt (language_by asks v) s None
          go false = record { read = λ o n p. item_if (cards v) o s n p None (test_next (shares v) (marks_at o s 0)) false (none_starts o).0 tt; inside = tt }
          go true = record {
            read = λ o n p. item_if (questions v) o s n p None (item_next (shares v) (marks_at o s 0)) false ((none_starts o).1 ∙ no_twice o) tt;
            inside = tt;
          }

    -- ---- neither

    module _ (h : w.mark.kind ≡ kind "g" → ⊥) where
      number_nowhere : (o : ℕ) → (shares v && next_is "g" (marks_at o s 0)) ≡ false
      number_nowhere o = ap (λ b. shares v && b) (no_name o) ∙ and_false (shares v)
        where
          no_name : (o : ℕ) → next_is "g" (marks_at o s 0) ≡ false
          no_name o = number_as o ∙ ne_eqb w.mark.kind (kind "g") h

      neither : (o : ℕ) → (test_next (shares v) (marks_at o s 0) ≡ false) × (item_next (shares v) (marks_at o s 0) ≡ twice_next (marks_at o s 0))
      neither o = starts_none (shares v) (seat_next (marks_at o s 0)) (next_is "g" (marks_at o s 0)) (twice_next (marks_at o s 0)) (no_seat o) (number_nowhere o)

      pub card_nothing : ItemAt (cards v) s None
      card_nothing = record { read = λ o n p. item_if (cards v) o s n p None (test_next (shares v) (marks_at o s 0)) false (neither o).0 tt; inside = tt }

      module _ (t : Bool) (looks : (o : ℕ) → t ≡ twice_next (marks_at o s 0)) where
        pub question_one : t ≡ true → (g : Answer Grouped ℕ) → ((o n : ℕ) (p : Place) → OneRead o s n p (exactly_of p (at (marks_at o s 0) n)) g) → ItemAt (questions v) s (Some g)
        question_one e g answers = record {
          read = λ o n p. item_if (questions v) o s n p (Some g) (item_next (shares v) (marks_at o s 0)) true ((neither o).1 ∙ sym (looks o) ∙ e)
              (rw (number_as o ∙ ne_eqb w.mark.kind (kind "g") h, no_seat o) (one_asked v o s n p (exactly_of p (at (marks_at o s 0) n)) g (answers o n p)));
          inside = one_inside s (exactly_of [] (at (marks_at 0 s 0) 0)) g (answers 0 0 []);
        }

        pub question_nothing : t ≡ false → ItemAt (questions v) s None
        question_nothing e = record {
          read = λ o n p. item_if (questions v) o s n p None (item_next (shares v) (marks_at o s 0)) false ((neither o).1 ∙ sym (looks o) ∙ e) tt;
          inside = tt;
        }

-- ---- in the language that is told

module _ {s : List ℕ} {g : Option (Answer Grouped ℕ)} (l : Spoken) where
  pub of_card : l.question ≡ false → ItemAt (cards l.values) s g → ItemAt (language_of l) s g
  of_card e h = rw e h

  pub of_question : l.question ≡ true → ItemAt (questions l.values) s g → ItemAt (language_of l) s g
  of_question e h = rw e h

-- the most that the shared number may be
pub most_told : (l : Spoken) → (language_of l).most ≡ l.values - 1
most_told l = go l.question l.values
  where
    go : (b : Bool) (v : ℕ) → (language_by b v).most ≡ v - 1
    go false zero = refl
    go false (suc m) = omega arith
    go true zero = refl
    go true (suc m) = omega arith

-- a card's language, and a question's on it
module _ (l : Spoken) {v : ℕ} where
  pub card_language : (l.question ≡ false) × (l.values ≡ v) → language_of l ≡ cards v
  card_language t = ap₂ language_by t.0 t.1

  pub question_language : (l.question ≡ true) × (l.values ≡ v) → language_of l ≡ questions v
  question_language t = ap₂ language_by t.0 t.1
