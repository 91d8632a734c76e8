-- A term, literal by literal: literals joined by `&` (Joined of group), with what the code keeps of those so far.
use Prim.Native.Nat.{ℕ, suc, ◌+◌, ◌≤◌, ◌<◌, min}
use mathlib.Core.Path.{◌≡◌, refl, sym, ap, ◌∙◌}
use mathlib.Core.Bool.{Bool, true, false, not, ◌&&◌, ◌||◌}
use mathlib.Core.List.{List, [], ◌∷◌, ◌++◌}
use native.Mathlib.Omega.{arith}
use lib.Dec.{eqb}
use lib.ListN.{length, get_or}
use Rattle.card.specs.Limits.{most_seats}
use Rattle.card.specs.Refusals.{out_of_shape}
use Rattle.card.specs.Card.{all, Relation, is, isnt}
use Rattle.marks_on_a_card.specs.Marks.{placed, seat}
use Rattle.marks_on_a_card.specs.Kinds.{k_seat, kind}
use Rattle.marks.specs.Step.{step_at, marks_at}
use Rattle.marks.specs.declared.Step.{Step}
use Rattle.marks.proofs.Next.{meet}
use Rattle.reading.specs.Reader.{Place, State, at, Result, ok, stop, Reader, bind, return}
use Rattle.reading.specs.Group.{Literal, joint, literal, others}
use Rattle.literals_due.specs.declared.Tail.{Tail}
use Rattle.late.specs.Late.{up_to_most}
use Rattle.seats_seen.specs.SeatsSeen.{noted, seen_from, one_more}
use Rattle.group.specs.LiteralRead.{ReadLiteral}
use Rattle.group.proofs.Signs.{Known}
use Rattle.group.proofs.Ahead.{fits, unfit, sign_next, place_next, place_within, one_less}
use Rattle.group.proofs.Literals.{Reads, stops_here}
use Rattle.seats_seen.proofs.Seats.{no_seats, Seen, seen_first, seen_more_seats, long_more, one_counted, once_seen}
use Rattle.group.proofs.Joined.{Joining, one_stops, one_read, not_closed, closed}
use Rattle.group.proofs.Groups.{joint_known, seat_marks, found_as, stops_as, read_well, read_wrong, no_word, worded, next_fewer}
use Rattle.asking.specs.Question.{relations, both, term}
use Rattle.asking.specs.Asking.{each_due}
use Rattle.term_literals.specs.declared.TermFound.{TermFound}
use Rattle.literals_due.specs.Due.{due_number}
use Rattle.std.specs.Prelude.{Result as Answer, Ok, Err}
use Rattle.group.specs.Found.{Found}
use Rattle.term_literals.specs.TermRead.{literals_of, TermOf, TermRead}
use Rattle.term_literals.proofs.TermLists.{due_so, mixed_so}

-- ---- so far

-- the rest of a term of the part s whose first seat word has the number v, and `from` stands behind it
abbrev pub whole : List ℕ → ℕ → ℕ → ℕ → ℕ → ℕ → Result (List Literal)
whole s from v o n x = literals_of (at (placed (seat v) x ∷ marks_at o s from) n)

abbrev as_term : List Literal → Reader (List Literal)
as_term ls = return ls

pub record SoFar (s : List ℕ) (from v i : ℕ) (first : Tail) (seen : List ℕ) (count : ℕ) (due mixed : Bool) (c o n x : ℕ) : Type 0 where
  pub head : Literal
  pub more : List Literal
  pub joining : Joining literal (joint all) as_term (whole s from v o n x) o s n (head ∷ more) c
  pub behind : State
  pub read : ReadLiteral o s from n v head behind first
  pub marked : Seen seen (head ∷ more)
  pub counted : count ≡ min (length (head ∷ more)) (suc most_seats)
  pub dues : due ≡ each_due head.d i (head ∷ more)
  pub mixes : mixed ≡ both (relations (head ∷ more))
  pub fewer : length (marks_at o s c) < length (marks_at o s from)

abbrev behind_first : Literal → Reader (List Literal)
behind_first l = λ b. bind (others (joint all) (length b.marks) b) (λ ls. return (l ∷ ls))

-- one literal alone has one relation
alone : (l : Literal) → false ≡ both (relations (l ∷ []))
alone l = go l.relation
  where
    go : (q : Relation) → false ≡ both (q ∷ [])
    go is = refl
    go isnt = refl

module _ (s : List ℕ) (from v i : ℕ) where
  -- the first literal was not read
  pub first_wrong : (r : ℕ) → Reads s from (Err r) → (o n x : ℕ) → TermRead o s from n i (whole s from v o n x) (Err r)
  first_wrong r reads o n x =
      read_wrong (ReadLiteral o s from n v) o s (literal (at (placed (seat v) x ∷ marks_at o s from) n)) r (reads o n v x)
      (λ m q e h. stops_as (TermOf o s from n i) o s r (ap (λ y. bind y behind_first) e) h)

  pub first_read : (first : Tail) → Reads s from (Ok first) → (seen : List ℕ) → seen ≡ noted (no_seats (suc most_seats)) v → (q : ℕ) → q ≡ due_number i v
      → (due : Bool) → due ≡ (true && (eqb first.d first.d && eqb first.relation q)) → (o n x : ℕ) → SoFar s from v i first seen 1 due false first.next o n x
  first_read first reads seen f q qe due de o n x =
      read_well (ReadLiteral o s from n v) o s (literal (at (placed (seat v) x ∷ marks_at o s from) n)) first (reads o n v x)
      (λ l b g h. record {
        head = l;
        more = [];
        joining = record {
          fuel = length (marks_at o s first.next);
          enough = omega arith;
          goes = ap (λ y. bind y behind_first) g ∙ ap (behind_first l) h.rest;
        };
        behind = b;
        read = h;
        marked = λ j k. seen_first v l h.seat j k ∙ ap (λ u. not (eqb (get_or u j 0) 0)) (sym f);
        counted = refl;
        dues = de ∙ ap (λ d. true && (eqb first.d d && eqb first.relation q)) h.d ∙ due_so true l.d i v first.d first.relation q [] l refl h.seat h.d h.relation qe;
        mixes = alone l;
        fewer = h.fewer;
      })

module _ (s : List ℕ) (from v i : ℕ) (first : Tail) (seen : List ℕ) (count : ℕ) (due mixed : Bool) (c : ℕ) where
  module _ (joined : (step_at s c).mark.kind ≡ kind (joint all)) (o n x : ℕ) (so : SoFar s from v i first seen count due mixed c o n x) where
    abbrev next : ℕ
    next = (step_at s c).next.at

    abbrev word : Step
    word = step_at s next

    no_seat : (word.mark.kind ≡ k_seat → ⊥) → TermRead o s from n i (whole s from v o n x) (Err word.mark.place)
    no_seat h =
        stops_as (TermOf o s from n i) o s word.mark.place
        (one_stops literal (joint all) as_term (joint_known false) (whole s from v o n x) o s n (so.head ∷ so.more) c so.joining joined out_of_shape (marks_at o s next) (no_word o s n next h))
        (stops_here o s next)

    module _ (h : word.mark.kind ≡ k_seat) where
      no_literal : (r : ℕ) → Reads s word.next.at (Err r) → TermRead o s from n i (whole s from v o n x) (Err r)
      no_literal r reads =
          read_wrong (ReadLiteral o s word.next.at n word.mark.value) o s (literal (at (marks_at o s next) n)) r (worded o s n next h (Err r) reads)
          (λ m q e w. stops_as (TermOf o s from n i) o s r
          (one_stops literal (joint all) as_term (joint_known false) (whole s from v o n x) o s n (so.head ∷ so.more) c so.joining joined m q e)
          w)

      one_further : (more : Tail) → Reads s word.next.at (Ok more) → length seen ≡ suc most_seats → (q : ℕ) → q ≡ due_number i word.mark.value
          → SoFar s from v i first (noted seen word.mark.value) (one_more count) (due && (eqb more.d first.d && eqb more.relation q))
          (mixed || not (eqb first.relation more.relation)) more.next o n x
      one_further more reads long q qe =
          read_well (ReadLiteral o s word.next.at n word.mark.value) o s (literal (at (marks_at o s next) n)) more (worded o s n next h (Ok more) reads)
          (λ l b g r.
          let behind_word = one_less o s word (marks_at o s next) (meet o s next) (λ k. omega arith) in
          let behind-sign = one_less o s (step_at s c) (marks_at o s c) (meet o s c) (λ k. omega arith) in
          record {
            head = so.head;
            more = so.more ++ (l ∷ []);
            joining =
                one_read literal (joint all) as_term (joint_known false) (whole s from v o n x) o s n (so.head ∷ so.more) c so.joining joined l more.next (g ∙ ap (ok l) r.rest)
                (omega (arith, r.fewer, behind_word));
            behind = so.behind;
            read = so.read;
            marked = seen_more_seats seen word.mark.value (so.head ∷ so.more) l long r.seat so.marked;
            counted = one_counted count (so.head ∷ so.more) l so.counted;
            dues =
                ap (λ d. due && (eqb more.d d && eqb more.relation q)) so.read.d
                ∙ due_so due so.head.d i word.mark.value more.d more.relation q (so.head ∷ so.more) l so.dues r.seat r.d r.relation qe;
            mixes = mixed_so mixed so.head l so.more first.relation more.relation so.mixes so.read.relation r.relation;
            fewer = omega (arith, so.fewer, r.fewer, behind_word, behind-sign);
          })

  -- ---- the end: another mark than the sign

  module _ (other : (step_at s c).mark.kind ≡ kind (joint all) → ⊥) (o n x : ℕ) (so : SoFar s from v i first seen count due mixed c o n x) where
    stays_open : ((step_at s c).mark.kind ≡ kind ")" → ⊥) → TermRead o s from n i (whole s from v o n x) (Err (step_at s c).mark.place)
    stays_open h =
        stops_as (TermOf o s from n i) o s (step_at s c).mark.place
        (not_closed literal (joint all) as_term (joint_known false) (whole s from v o n x) o s n (so.head ∷ so.more) c so.joining other h)
        (stops_here o s c)

    closes : (step_at s c).mark.kind ≡ kind ")" → (seats : ℕ) → seats ≡ up_to_most count (seen_from seen 1 count)
        → TermRead o s from n i (whole s from v o n x) (Ok (record { next = (step_at s c).next.at; seats = seats; due = due; mixed = mixed; d = first.d; first = first.first }))
    closes h seats e =
        found_as (TermOf o s from n i) o s _
        (closed literal (joint all) as_term (joint_known false) (whole s from v o n x) o s n (so.head ∷ so.more) c so.joining other h)
        (record {
          rest = refl;
          seats = e ∙ once_seen seen count so.head so.more so.marked so.counted;
          due = so.dues;
          mixed = so.mixes;
          d = so.read.d;
          small = so.read.small;
          first = so.read.first;
          first_within = so.read.first_within;
          fewer = omega (arith, so.fewer, next_fewer o s (step_at s c) (marks_at o s c) (meet o s c));
        })

-- ---- the same of what the code has, wherever the part begins

pub record Turning (s : List ℕ) (from v i : ℕ) (first : Tail) (seen : List ℕ) (count : ℕ) (due mixed : Bool) (ahead : Step) : Type 0 where
  pub c : ℕ
  pub step : ahead ≡ step_at s c
  pub long : length seen ≡ suc most_seats
  pub so : (o n x : ℕ) → SoFar s from v i first seen count due mixed c o n x

abbrev pub Answers : List ℕ → ℕ → ℕ → ℕ → Answer TermFound ℕ → Type 0
Answers s from v i r = (o n x : ℕ) → TermRead o s from n i (whole s from v o n x) r

module _ (s : List ℕ) (from v i : ℕ) (first : Tail) where
  pub begins : Reads s from (Ok first) → (ahead : Step) → ahead ≡ step_at s first.next → (seen : List ℕ) → seen ≡ noted (no_seats (suc most_seats)) v
      → (q : ℕ) → q ≡ due_number i v → (due : Bool) → due ≡ (true && (eqb first.d first.d && eqb first.relation q)) → Turning s from v i first seen 1 due false ahead
  begins reads ahead step seen f q qe due de = record {
    c = first.next;
    step = step;
    long = ap length f ∙ long_more (no_seats (suc most_seats)) v refl;
    so = first_read s from v i first reads seen f q qe due de;
  }

module _ {s : List ℕ} {from v i : ℕ} {first : Tail} {seen : List ℕ} {count : ℕ} {due mixed : Bool} {ahead : Step} (t : Turning s from v i first seen count due mixed ahead) where
  module _ (joined : ahead.mark.kind ≡ kind (joint all)) (word : Step) (found : word ≡ step_at s ahead.next.at) where
    joined_there : (step_at s t.c).mark.kind ≡ kind (joint all)
    joined_there = ap (λ (u : Step). u.mark.kind) (sym t.step) ∙ joined

    word_there : word ≡ step_at s (step_at s t.c).next.at
    word_there = found ∙ ap (λ (u : Step). step_at s u.next.at) t.step

    pub turn_word : (word.mark.kind ≡ k_seat → ⊥) → Answers s from v i (Err word.mark.place)
    turn_word h o n x = rw word_there (no_seat s from v i first seen count due mixed t.c joined_there o n x (t.so o n x) (rw word_there at h))

    module _ (h : word.mark.kind ≡ k_seat) where
      seat_there : (step_at s (step_at s t.c).next.at).mark.kind ≡ k_seat
      seat_there = ap (λ (u : Step). u.mark.kind) (sym word_there) ∙ h

      reads_there : (r : Answer Tail ℕ) → Reads s word.next.at r → Reads s (step_at s (step_at s t.c).next.at).next.at r
      reads_there r reads = rw word_there at reads

      pub turn_literal : (r : ℕ) → Reads s word.next.at (Err r) → Answers s from v i (Err r)
      turn_literal r reads o n x = no_literal s from v i first seen count due mixed t.c joined_there o n x (t.so o n x) seat_there r (reads_there (Err r) reads)

      module _ (more : Tail) (reads : Reads s word.next.at (Ok more)) (last : Step) (step : last ≡ step_at s more.next) where
        pub turn_on : (seen2 : List ℕ) → seen2 ≡ noted seen word.mark.value → (count2 : ℕ) → count2 ≡ one_more count → (q : ℕ) → q ≡ due_number i word.mark.value
            → (due2 : Bool) → due2 ≡ (due && (eqb more.d first.d && eqb more.relation q)) → (mixed2 : Bool) → mixed2 ≡ (mixed || not (eqb first.relation more.relation))
            → Turning s from v i first seen2 count2 due2 mixed2 last
        turn_on seen2 e count2 f q qe due2 g mixed2 k = rw (e, f, g, k) (record {
          c = more.next;
          step = step;
          long = long_more seen word.mark.value t.long;
          so = λ o n x.
              rw (ap (λ (u : Step). u.mark.value) word_there)
              (one_further s from v i first seen count due mixed t.c joined_there o n x (t.so o n x) seat_there more (reads_there (Ok more) reads) t.long q (qe ∙ ap (λ (u : Step). due_number i u.mark.value) word_there));
        })

        -- fewer marks are left
        pub turn_less : length (marks_at 0 s last.next.at) < length (marks_at 0 s ahead.next.at)
        turn_less =
            read_well (ReadLiteral 0 s word.next.at 0 word.mark.value) 0 s (literal (at (placed (seat word.mark.value) 0 ∷ marks_at 0 s word.next.at) 0)) more (reads 0 0 word.mark.value 0)
            (λ l b g r. omega (arith, r.fewer, behind_word, behind_last))
          where
            behind_word : suc (length (marks_at 0 s word.next.at)) ≡ length (marks_at 0 s ahead.next.at)
            behind_word = rw found (one_less 0 s (step_at s ahead.next.at) (marks_at 0 s ahead.next.at) (meet 0 s ahead.next.at) (λ k. omega (arith, ap (λ (u : Step). u.mark.kind) found)))

            behind_last : length (marks_at 0 s last.next.at) ≤ length (marks_at 0 s more.next)
            behind_last = rw step (next_fewer 0 s (step_at s more.next) (marks_at 0 s more.next) (meet 0 s more.next))

  module _ (other : ahead.mark.kind ≡ kind (joint all) → ⊥) where
    other_there : (step_at s t.c).mark.kind ≡ kind (joint all) → ⊥
    other_there e = other (ap (λ (u : Step). u.mark.kind) t.step ∙ e)

    pub ends_open : (ahead.mark.kind ≡ kind ")" → ⊥) → Answers s from v i (Err ahead.mark.place)
    ends_open h o n x = rw t.step (stays_open s from v i first seen count due mixed t.c other_there o n x (t.so o n x) (rw t.step at h))

    pub ends_closed : ahead.mark.kind ≡ kind ")" → (seats : ℕ) → seats ≡ up_to_most count (seen_from seen 1 count)
        → Answers s from v i (Ok (record { next = ahead.next.at; seats = seats; due = due; mixed = mixed; d = first.d; first = first.first }))
    ends_closed h seats e o n x = rw t.step (closes s from v i first seen count due mixed t.c other_there o n x (t.so o n x) (rw t.step at h) seats e)

-- ---- from its bracket on

open_known : Known "("
open_known = record { above = omega arith; alone = refl; same = refl }

abbrev pub Terms : List ℕ → ℕ → ℕ → Answer TermFound ℕ → Type 0
Terms s from i r = (o n : ℕ) → TermRead o s from n i (term (at (marks_at o s from) n)) r

abbrev behind_open : Unit {0} → Reader (List Literal)
behind_open _ = literals_of

-- from an earlier place on there are more marks
from_earlier : (o : ℕ) (s : List ℕ) (from later n i : ℕ) (x : Result (List Literal)) (r : Answer TermFound ℕ) → length (marks_at o s later) ≤ length (marks_at o s from)
    → TermRead o s later n i x r → TermRead o s from n i x r
from_earlier o s from later n i (ok [] b) (Ok r) m h = absurd h
from_earlier o s from later n i (ok (l ∷ ls) b) (Ok r) m h = record {
  rest = h.rest;
  seats = h.seats;
  due = h.due;
  mixed = h.mixed;
  d = h.d;
  small = h.small;
  first = h.first;
  first_within = h.first_within;
  fewer = omega (arith, h.fewer);
}
from_earlier o s from later n i (ok ls b) (Err r) m h = absurd h
from_earlier o s from later n i (stop number q) (Ok r) m h = absurd h
from_earlier o s from later n i (stop number q) (Err r) m h = h

module _ (s : List ℕ) (from i : ℕ) (bracket : Step) (found : bracket ≡ step_at s from) where
  pub no_open : (bracket.mark.kind ≡ kind "(" → ⊥) → Terms s from i (Err bracket.mark.place)
  no_open h o n =
      rw found
      (stops_as (TermOf o s from n i) o s (step_at s from).mark.place
      (ap (λ y. bind y behind_open) (sign_next o s "(" open_known (step_at s from) (marks_at o s from) n (meet o s from) ∙ unfit tt o s (step_at s from) (marks_at o s from) n (kind "(") (rw found at h)))
      (stops_here o s from))

  module _ (h : bracket.mark.kind ≡ kind "(") (word : Step) (step : word ≡ step_at s bracket.next.at) where
    opened : (o n : ℕ) → term (at (marks_at o s from) n) ≡ literals_of (at (marks_at o s bracket.next.at) n)
    opened o n =
        rw found
        (ap (λ y. bind y behind_open) (sign_next o s "(" open_known (step_at s from) (marks_at o s from) n (meet o s from) ∙ fits tt o s (step_at s from) (marks_at o s from) n (kind "(") (rw found at h)))

    shorter : (o : ℕ) → suc (length (marks_at o s bracket.next.at)) ≡ length (marks_at o s from)
    shorter o = rw found (one_less o s (step_at s from) (marks_at o s from) (meet o s from) (λ z. omega (arith, ap (λ (u : Step). u.mark.kind) found)))

    pub no_first : (word.mark.kind ≡ k_seat → ⊥) → Terms s from i (Err word.mark.place)
    no_first f o n =
        found_as (TermOf o s from n i) o s (Err word.mark.place) (opened o n)
        (rw step
        (stops_as (TermOf o s from n i) o s (step_at s bracket.next.at).mark.place (ap (λ y. bind y behind_first) (no_word o s n bracket.next.at (rw step at f)))
        (stops_here o s bracket.next.at)))

    pub term_whole : word.mark.kind ≡ k_seat → (r : Answer TermFound ℕ) → Answers s word.next.at word.mark.value i r → Terms s from i r
    term_whole f r h₁ o n =
        found_as (TermOf o s from n i) o s r (opened o n ∙ ap (λ ms. literals_of (at ms n)) (seated o))
        (from_earlier o s from word.next.at n i (whole s word.next.at word.mark.value o n (o + word.mark.place)) r
        (omega (arith, shorter o, behind))
        (h₁ o n (o + word.mark.place)))
      where
        behind : length (marks_at o s word.next.at) ≤ length (marks_at o s bracket.next.at)
        behind = rw step (next_fewer o s (step_at s bracket.next.at) (marks_at o s bracket.next.at) (meet o s bracket.next.at))

        seated : (o : ℕ) → marks_at o s bracket.next.at ≡ placed (seat word.mark.value) (o + word.mark.place) ∷ marks_at o s word.next.at
        seated o = rw step (seat_marks o s (step_at s bracket.next.at) (marks_at o s bracket.next.at) (meet o s bracket.next.at) (rw step at f))
