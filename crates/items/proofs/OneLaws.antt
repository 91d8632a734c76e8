-- An exactly-one, term by term: terms joined by `|` (Joined of group), with what the code keeps of those so far; and the look ahead, which
-- is a look at the first term.
use Prim.Native.Nat.{ℕ, suc, ◌≤◌, ◌<◌, min}
use mathlib.Core.Path.{◌≡◌, refl, sym, ap, ◌∙◌}
use mathlib.Core.Bool.{Bool, true, false, ◌&&◌}
use mathlib.Core.List.{List, [], ◌∷◌, ◌++◌}
use native.Mathlib.Omega.{arith}
use lib.Dec.{eqb}
use lib.ListN.{length, length-append}
use Rattle.card.specs.Limits.{most_seats, numbers}
use Rattle.card.specs.Text.{when◌then◌else◌}
use Rattle.card.specs.Card.{any, one}
use Rattle.card.specs.Laid.{one_kind, leaf_number}
use Rattle.card.proofs.Packed.{packed_one}
use Rattle.marks_on_a_card.specs.Kinds.{kind}
use Rattle.marks.specs.Step.{step_at, marks_at}
use Rattle.marks.specs.declared.Step.{Step}
use Rattle.marks.proofs.Next.{meet}
use Rattle.reading.specs.Reader.{Place, State, at, Result, ok, stop, Reader, bind, return}
use Rattle.reading.specs.Group.{Literal, joint, joined}
use Rattle.grammar.proofs.Steady.{ok≢stop}
use Rattle.group.specs.declared.Grouped.{Grouped}
use Rattle.std.specs.Prelude.{Result as Answer, Ok, Err}
use Rattle.seats_seen.specs.SeatsSeen.{one_more}
use Rattle.group.proofs.Ahead.{next_within, next_past}
use Rattle.seats_seen.proofs.Seats.{one_counted}
use Rattle.group.proofs.Joined.{Joining, one_stops, one_read, not_closed, closed}
use Rattle.group.proofs.Groups.{joint_known, found_as, stops_as, read_wrong, next_fewer}
use Rattle.group.proofs.Literals.{stops_here}
use Rattle.asking.specs.Question.{Item, exactly_one, relations, both, twice_next, term, exactly, TermSaid}
use Rattle.asking.specs.Asking.{is_terms}
use Rattle.asking.proofs.Seen.{term_seen}
use Rattle.asking.proofs.Looking.{twice_there, term_reads, term_t}
use Rattle.term_literals.specs.declared.TermFound.{TermFound}
use Rattle.term_literals.specs.TermRead.{ReadTerm, TermOf, TermRead}
use Rattle.items.specs.OneRead.{ReadOne, OneRead}
use Rattle.term_literals.proofs.TermLists.{few_seats, term_first, terms_so, want_so}
use Rattle.term_literals.proofs.TermLaws.{Terms}

-- ---- the look ahead

abbrev mixed_term : Result (List Literal) → Bool
mixed_term (ok ls s) = both (relations ls)
mixed_term (stop m q) = false

abbrev literals_in : Result (List Literal) → List Literal
literals_in (ok ls s) = ls
literals_in (stop m q) = []

-- a look at nothing
abbrev blind : Place → Unit {0}
blind ms = tt

seen_read : (ms pre r : Place) (n : ℕ) (ls said : List Literal) (s : State) → ms ≡ pre ++ r → TermSaid (pre ++ r) said r → term (at ms n) ≡ ok ls s → twice_next ms ≡ both (relations ls)
seen_read ms pre r n ls said s e d f =
    ap twice_next e ∙ term_seen d
    ∙ ap (λ x. both (relations (literals_in x))) (sym (term_reads d n) ∙ ap (λ m. term (at m n)) (sym e) ∙ f)

seen_stopped : (ms : Place) (n m : ℕ) (q : Place) → term (at ms n) ≡ stop m q → twice_next ms ≡ false
seen_stopped ms n m q e = go (twice_next ms) refl
  where
    go : (b : Bool) → twice_next ms ≡ b → b ≡ false
    go true f = let (ls, r, d, b) = twice_there ms f in ok≢stop (sym (term_reads d n) ∙ e)
    go false f = refl

twice_term : (ms : Place) (n : ℕ) → twice_next ms ≡ mixed_term (term (at ms n))
twice_term ms n = go (term (at ms n)) refl
  where
    go : (x : Result (List Literal)) → term (at ms n) ≡ x → twice_next ms ≡ mixed_term x
    go (ok ls s) e =
        let w = (term_t {look = blind}).passes (at ms n) s ls tt e in
        seen_read ms w.pre s.marks n ls (w.said s.marks).0 s w.split (w.said s.marks).1 e
    go (stop m q) e = seen_stopped ms n m q e

abbrev mixed_in : Answer TermFound ℕ → Bool
mixed_in (Ok t) = t.mixed
mixed_in (Err r) = false

pub looks_twice : (s : List ℕ) (t : Answer TermFound ℕ) → Terms s 0 1 t → (o : ℕ) → mixed_in t ≡ twice_next (marks_at o s 0)
looks_twice s t h o = go (term (at (marks_at o s 0) 0)) t (h o 0) ∙ sym (twice_term (marks_at o s 0) 0)
  where
    go : (x : Result (List Literal)) (t : Answer TermFound ℕ) → TermRead o s 0 0 1 x t → mixed_in t ≡ mixed_term x
    go (ok [] b) (Ok t) r = absurd r
    go (ok (l ∷ ls) b) (Ok t) r = r.mixed
    go (ok ls b) (Err e) r = absurd r
    go (stop m q) (Ok t) r = absurd r
    go (stop m q) (Err e) r = refl

-- ---- a term that was read

read_well : (o : ℕ) (s : List ℕ) (from n i : ℕ) {C : Type 0} (x : Result (List Literal)) (t : TermFound) → TermRead o s from n i x (Ok t)
    → ((l : Literal) (ls : List Literal) (b : State) → x ≡ ok (l ∷ ls) b → ReadTerm o s from n i l ls b t → C) → C
read_well o s from n i (ok [] b) t h k = absurd h
read_well o s from n i (ok (l ∷ ls) b) t h k = k l ls b refl h
read_well o s from n i (stop m q) t h k = absurd h

-- ---- so far

abbrev pub whole : List ℕ → ℕ → ℕ → Place → Result Item
whole s o n p = exactly p (at (marks_at o s 0) n)

abbrev as_item : Place → List (List Literal) → Reader Item
as_item p ts = return (exactly_one p ts)

abbrev behind_first : Place → List Literal → Reader Item
behind_first p t = λ b. bind (joined term (joint any) (length b.marks) b) (λ ts. return (exactly_one p (t ∷ ts)))

-- as far as there are no more terms than seats, the code knows whether they are as said for the first term's number of seats
pub record SoFar (s : List ℕ) (first : TermFound) (count : ℕ) (all : Bool) (c o n : ℕ) (p : Place) : Type 0 where
  pub head : Literal
  pub more : List Literal
  pub later : List (List Literal)
  pub joining : Joining term (joint any) (as_item p) (whole s o n p) o s n ((head ∷ more) ∷ later) c
  pub behind : State
  pub read : ReadTerm o s 0 n 1 head more behind first
  pub counted : count ≡ min (length ((head ∷ more) ∷ later)) (suc most_seats)
  pub agreed : length ((head ∷ more) ∷ later) ≤ most_seats → 1 ≤ first.seats → all ≡ is_terms first.seats head.d 1 ((head ∷ more) ∷ later)

module _ (s : List ℕ) where
  -- the first term was not read
  pub first_wrong : (r : ℕ) → Terms s 0 1 (Err r) → (o n : ℕ) (p : Place) → OneRead o s n p (whole s o n p) (Err r)
  first_wrong r reads o n p =
      read_wrong (TermOf o s 0 n 1) o s (term (at (marks_at o s 0) n)) r (reads o n)
      (λ m q e h. stops_as (ReadOne o s n p) o s r (ap (λ y. bind y (behind_first p)) e) h)

  first_read : (first : TermFound) → Terms s 0 1 (Ok first) → (o n : ℕ) (p : Place) → SoFar s first 1 first.due first.next o n p
  first_read first reads o n p =
      read_well o s 0 n 1 (term (at (marks_at o s 0) n)) first (reads o n)
      (λ l ls b g h. record {
        head = l;
        more = ls;
        later = [];
        joining = record {
          fuel = length (marks_at o s first.next);
          enough = omega arith;
          goes = ap (λ y. bind y (behind_first p)) g ∙ ap (behind_first p (l ∷ ls)) h.rest;
        };
        behind = b;
        read = h;
        counted = refl;
        agreed = λ few least. term_first first.due first.seats l ls h.due h.seats least;
      })

module _ (s : List ℕ) (first : TermFound) (count : ℕ) (all : Bool) (c : ℕ) (o n : ℕ) (p : Place) (so : SoFar s first count all c o n p) where
  abbrev terms : List (List Literal)
  terms = (so.head ∷ so.more) ∷ so.later

  abbrev next : ℕ
  next = (step_at s c).next.at

  module _ (joined-here : (step_at s c).mark.kind ≡ kind (joint any)) (i : ℕ) where
    no_more : (r : ℕ) → Terms s next i (Err r) → OneRead o s n p (whole s o n p) (Err r)
    no_more r reads =
        read_wrong (TermOf o s next n i) o s (term (at (marks_at o s next) n)) r (reads o n)
        (λ m q e h. stops_as (ReadOne o s n p) o s r
        (one_stops term (joint any) (as_item p) (joint_known true) (whole s o n p) o s n terms c so.joining joined-here m q e)
        h)

    abbrev goes_on : TermFound → ℕ → Bool
    goes_on more d = all && (more.due && (eqb more.d d && eqb more.seats first.seats))

    one_further : (more : TermFound) → Terms s next i (Ok more) → i ≡ one_more count → SoFar s first (one_more count) (goes_on more first.d) more.next o n p
    one_further more reads number =
        read_well o s next n i (term (at (marks_at o s next) n)) more (reads o n)
        (λ l ls b g r. record {
          head = so.head;
          more = so.more;
          later = so.later ++ ((l ∷ ls) ∷ []);
          joining =
              one_read term (joint any) (as_item p) (joint_known true) (whole s o n p) o s n terms c so.joining joined-here (l ∷ ls) more.next
              (g ∙ ap (ok (l ∷ ls)) r.rest) (omega (arith, r.fewer));
          behind = so.behind;
          read = so.read;
          counted = one_counted count terms (l ∷ ls) so.counted;
          agreed = λ few least.
              let long = length-append terms ((l ∷ ls) ∷ []) in
              let nth = one_counted count terms (l ∷ ls) so.counted in
              ap (goes_on more) so.read.d
              ∙ terms_so first.seats least (few_seats first.seats (so.head ∷ so.more) so.read.seats) all more.due so.head.d i more.d more.seats terms l ls
              (so.agreed (omega (arith, long)) least) r.due r.d r.seats (omega (arith, long, nth));
        })

  module _ (other : (step_at s c).mark.kind ≡ kind (joint any) → ⊥) where
    stays_open : ((step_at s c).mark.kind ≡ kind ")" → ⊥) → OneRead o s n p (whole s o n p) (Err (step_at s c).mark.place)
    stays_open h =
        stops_as (ReadOne o s n p) o s (step_at s c).mark.place
        (not_closed term (joint any) (as_item p) (joint_known true) (whole s o n p) o s n terms c so.joining other h)
        (stops_here o s c)

    closes : (step_at s c).mark.kind ≡ kind ")" → (w node : ℕ) → w ≡ (when all && eqb count first.seats then count else 0) → node ≡ leaf_number (one (min first.d numbers))
        → OneRead o s n p (whole s o n p) (Ok (record { next = (step_at s c).next.at; want = w; kind = one_kind; node = node; d = first.d; first = first.first }))
    closes h w node we ne =
        found_as (ReadOne o s n p) o s _
        (closed term (joint any) (as_item p) (joint_known true) (whole s o n p) o s n terms c so.joining other h)
        (record {
          rest = refl;
          left = refl;
          head = so.head;
          more = so.more;
          later = so.later;
          item = refl;
          want = we ∙ want_so all count first.seats (so.head ∷ so.more) so.later so.counted so.read.seats so.agreed;
          kind = refl;
          node = ne ∙ packed_one first.d (omega (arith, so.read.small)) ∙ ap (λ d. leaf_number (one d)) so.read.d;
          d = so.read.d;
          first = so.read.first;
          past = next_past o s (step_at s c) (marks_at o s c) (meet o s c) (λ z. omega arith);
          next_within = next_within o s (step_at s c) (marks_at o s c) (meet o s c);
          first_within = so.read.first_within;
        })

-- ---- the same of what the code has, wherever the part begins

pub record Turning (s : List ℕ) (first : TermFound) (count : ℕ) (all : Bool) (ahead : Step) : Type 0 where
  pub c : ℕ
  pub step : ahead ≡ step_at s c
  pub so : (o n : ℕ) (p : Place) → SoFar s first count all c o n p

abbrev pub Answers : List ℕ → Answer Grouped ℕ → Type 0
Answers s r = (o n : ℕ) (p : Place) → OneRead o s n p (whole s o n p) r

module _ (s : List ℕ) (first : TermFound) where
  pub begins : Terms s 0 1 (Ok first) → (ahead : Step) → ahead ≡ step_at s first.next → Turning s first 1 first.due ahead
  begins reads ahead step = record { c = first.next; step = step; so = first_read s first reads }

module _ {s : List ℕ} {first : TermFound} {count : ℕ} {all : Bool} {ahead : Step} (t : Turning s first count all ahead) where
  module _ (joined-here : ahead.mark.kind ≡ kind (joint any)) (i : ℕ) where
    joined_there : (step_at s t.c).mark.kind ≡ kind (joint any)
    joined_there = ap (λ (u : Step). u.mark.kind) (sym t.step) ∙ joined-here

    reads_there : (r : Answer TermFound ℕ) → Terms s ahead.next.at i r → Terms s (step_at s t.c).next.at i r
    reads_there r reads = rw t.step at reads

    pub turn_wrong : (r : ℕ) → Terms s ahead.next.at i (Err r) → Answers s (Err r)
    turn_wrong r reads o n p = no_more s first count all t.c o n p (t.so o n p) joined_there i r (reads_there (Err r) reads)

    module _ (more : TermFound) (reads : Terms s ahead.next.at i (Ok more)) (last : Step) (step : last ≡ step_at s more.next) where
      pub turn_on : i ≡ one_more count → (count2 : ℕ) → count2 ≡ one_more count → (all2 : Bool) → all2 ≡ (all && (more.due && (eqb more.d first.d && eqb more.seats first.seats)))
          → Turning s first count2 all2 last
      turn_on number count2 e all2 f = rw (e, f) (record {
        c = more.next;
        step = step;
        so = λ o n p. one_further s first count all t.c o n p (t.so o n p) joined_there i more (reads_there (Ok more) reads) number;
      })

      -- fewer marks are left
      pub turn_less : length (marks_at 0 s last.next.at) < length (marks_at 0 s ahead.next.at)
      turn_less =
          read_well 0 s ahead.next.at 0 i (term (at (marks_at 0 s ahead.next.at) 0)) more (reads 0 0)
          (λ l ls b g r. omega (arith, r.fewer, behind_last))
        where
          behind_last : length (marks_at 0 s last.next.at) ≤ length (marks_at 0 s more.next)
          behind_last = rw step (next_fewer 0 s (step_at s more.next) (marks_at 0 s more.next) (meet 0 s more.next))

  module _ (other : ahead.mark.kind ≡ kind (joint any) → ⊥) where
    other_there : (step_at s t.c).mark.kind ≡ kind (joint any) → ⊥
    other_there e = other (ap (λ (u : Step). u.mark.kind) t.step ∙ e)

    pub ends_open : (ahead.mark.kind ≡ kind ")" → ⊥) → Answers s (Err ahead.mark.place)
    ends_open h o n p = rw t.step (stays_open s first count all t.c o n p (t.so o n p) other_there (rw t.step at h))

    pub ends_closed : ahead.mark.kind ≡ kind ")" → (w node : ℕ) → w ≡ (when all && eqb count first.seats then count else 0) → node ≡ leaf_number (one (min first.d numbers))
        → Answers s (Ok (record { next = ahead.next.at; want = w; kind = one_kind; node = node; d = first.d; first = first.first }))
    ends_closed h w node we ne o n p = rw t.step (closes s first count all t.c o n p (t.so o n p) other_there (rw t.step at h) w node we ne)
