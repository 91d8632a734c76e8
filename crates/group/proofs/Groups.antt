-- A group, literal by literal: literals joined by a sign (Joined), with what the code keeps of those so far.
use Prim.Native.Nat.{ℕ, suc, ◌+◌, ◌≤◌, ◌<◌, min}
use mathlib.Core.Path.{◌≡◌, refl, sym, ap, ◌∙◌}
use mathlib.Core.Bool.{Bool, true, false, not, ◌&&◌}
use mathlib.Core.List.{List, [], ◌∷◌, ◌++◌}
use native.Mathlib.Omega.{arith}
use lib.Dec.{eqb}
use lib.ListN.{length, get_or}
use lib.Seq.{drop-length}
use Rattle.card.specs.Limits.{most_seats, numbers}
use Rattle.card.specs.Refusals.{out_of_shape}
use Rattle.card.specs.Card.{Kind, everyone, others as others_kind, Sign, all, any, Relation, is as eq, isnt as ne}
use Rattle.card.specs.Laid.{kind_number, sign_number, relation_number, pack_group}
use Rattle.card.proofs.Packed.{packed_group}
use Rattle.marks_on_a_card.specs.Marks.{placed, seat}
use Rattle.marks_on_a_card.specs.Kinds.{k_seat, kind}
use Rattle.marks.specs.Step.{step_at, marks_at}
use Rattle.marks.specs.declared.Step.{Step}
use Rattle.marks_on_a_card.proofs.KindLaws.{kind_seat}
use Rattle.marks.proofs.Next.{Meet, over, met, meet}
use Rattle.reading.specs.Reader.{Place, State, at, Result, ok, stop, Reader, bind, return, the, next_is, if_next, sign, number_of}
use Rattle.reading.specs.Group.{Literal, literal_of, Literals, literals_of, relation_of, joint, literal, others, group}
use Rattle.reading.specs.Judgements.{state, alike}
use Rattle.group.specs.declared.Grouped.{Grouped}
use Rattle.literals_due.specs.declared.Tail.{Tail}
use Rattle.late.specs.Late.{kind_by}
use Rattle.std.specs.Prelude.{Result as Answer, Ok, Err}
use Rattle.group.specs.Found.{Stopped, Found}
use Rattle.group.specs.GroupRead.{ReadGroup, GroupRead, InPart}
use Rattle.seats_seen.specs.SeatsSeen.{noted, one_more, want_in, kind_in}
use Rattle.group.specs.LiteralRead.{ReadLiteral, LiteralRead, sign_in}
use Rattle.group.proofs.Signs.{Known}
use Rattle.group.proofs.Ahead.{unfit, next_is_law, the_seat, place_next, place_within, next_within, next_past, one_less}
use Rattle.group.proofs.Literals.{Reads, stops_here}
use Rattle.group.proofs.Joined.{Joining, one_stops, one_read, not_closed, closed}
use Rattle.seats_seen.proofs.Seats.{no_seats, Seen, seen_first, seen_more_seats, long_more, one_counted, alike_so, kind_seen, want_seen}

-- ---- the signs are known

pub joint_known : (a : Bool) → Known (joint (sign_in a))
joint_known false = record { above = omega arith; alone = refl; same = refl }
joint_known true = record { above = omega arith; alone = refl; same = refl }

-- ---- the first literal

-- what follows a group's first literal
abbrev behind_first : Place → Literal → Reader Literals
behind_first p l = λ b. bind (if_next (joint any) (return any) (return all) b) (λ s c. bind (others (joint s) (length b.marks) c) (λ ls. return (literals_of p s (l ∷ ls))))

behind_first_law : (p : Place) (l : Literal) (b : State) (a : Bool) → next_is (joint any) b.marks ≡ a
    → behind_first p l b ≡ bind (others (joint (sign_in a)) (length b.marks) b) (λ ls. return (literals_of p (sign_in a) (l ∷ ls)))
behind_first_law p l b true e = rw e
behind_first_law p l b false e = rw e

opened : (p : Place) (s : State) → group p s ≡ bind (literal s) (behind_first p)
opened p s = refl

-- ---- what was read, or not

module _ {A B : Type 0} (Read : A → State → B → Type 0) (o : ℕ) (s : List ℕ) where
  pub found_as : {x y : Result A} (r : Answer B ℕ) → x ≡ y → Found Read o s y r → Found Read o s x r
  found_as r e h = rw e h

  pub stops_as : {x : Result A} {m : ℕ} {q : Place} (r : ℕ) → x ≡ stop m q → Stopped o s m q r → Found Read o s x (Err r)
  stops_as r e h = rw e h

  pub read_well : {C : Type 0} (x : Result A) (r : B) → Found Read o s x (Ok r) → ((a : A) (b : State) → x ≡ ok a b → Read a b r → C) → C
  read_well (ok a b) r h k = k a b refl h
  read_well (stop m q) r h k = absurd h

  pub read_wrong : {C : Type 0} (x : Result A) (r : ℕ) → Found Read o s x (Err r) → ((m : ℕ) (q : Place) → x ≡ stop m q → Stopped o s m q r → C) → C
  read_wrong (ok a b) r h k = absurd h
  read_wrong (stop m q) r h k = k m q refl h

-- the same from its seat word on, by the steps of the code
pub seat_marks : (o : ℕ) (s : List ℕ) (x : Step) (ms : Place) → Meet o s x ms → x.mark.kind ≡ k_seat → ms ≡ placed (seat x.mark.value) (o + x.mark.place) ∷ marks_at o s x.next.at
seat_marks o s x ms over e = absurd (omega arith)
seat_marks o s x ms (met m p next small l h) e = ap (λ u. placed u (o + p) ∷ marks_at o s next) (kind_seat m e)

module _ (o : ℕ) (s : List ℕ) (n c : ℕ) where
  abbrev word_at : Step
  word_at = step_at s c

  pub no_word : (word_at.mark.kind ≡ k_seat → ⊥) → literal (at (marks_at o s c) n) ≡ stop out_of_shape (marks_at o s c)
  no_word h =
      ap (λ y. bind y (λ j b. bind (the relation_of b) (λ q d. bind (the number_of d) (λ v. return (literal_of j q v d.marks)))))
      (the_seat o s word_at (marks_at o s c) n (meet o s c) ∙ unfit word_at.mark.value o s word_at (marks_at o s c) n k_seat h)

  pub worded : word_at.mark.kind ≡ k_seat → (t : Answer Tail ℕ) → Reads s word_at.next.at t → LiteralRead o s word_at.next.at n word_at.mark.value (literal (at (marks_at o s c) n)) t
  worded h t reads = rw (seat_marks o s word_at (marks_at o s c) (meet o s c) h) (reads o n word_at.mark.value (o + word_at.mark.place))

-- ---- so far

-- the group of the part s whose first seat word has the number i, and `from` stands behind it
abbrev pub whole : List ℕ → ℕ → ℕ → ℕ → ℕ → ℕ → Place → Result Literals
whole s from i o n x p = group p (at (placed (seat i) x ∷ marks_at o s from) n)

abbrev as_group : Place → Sign → List Literal → Reader Literals
as_group p g ls = return (literals_of p g ls)

pub record SoFar (s : List ℕ) (from i : ℕ) (first : Tail) (a : Bool) (seen : List ℕ) (count : ℕ) (same : Bool) (c o n x : ℕ) (p : Place) : Type 0 where
  pub head : Literal
  pub more : List Literal
  pub joining : Joining literal (joint (sign_in a)) (as_group p (sign_in a)) (whole s from i o n x p) o s n (head ∷ more) c
  pub behind : State
  pub read : ReadLiteral o s from n i head behind first
  pub marked : Seen seen (head ∷ more)
  pub counted : count ≡ min (length (head ∷ more)) (suc most_seats)
  pub alikes : same ≡ alike head more

module _ (s : List ℕ) (from i : ℕ) where
  -- the first literal was not read
  pub first_wrong : (r : ℕ) → Reads s from (Err r) → (o n x : ℕ) (p : Place) → GroupRead o s n p (whole s from i o n x p) (Err r)
  first_wrong r reads o n x p =
      read_wrong (ReadLiteral o s from n i) o s (literal (at (placed (seat i) x ∷ marks_at o s from) n)) r (reads o n i x)
      (λ m q e h. stops_as (ReadGroup o s n p) o s r (ap (λ y. bind y (behind_first p)) e) h)

  -- it was, and the mark ahead says what joins the others
  pub first_read : (first : Tail) → Reads s from (Ok first) → (a : Bool) (ahead : Step) → ahead ≡ step_at s first.next → a ≡ eqb ahead.mark.kind (kind (joint any))
      → (seen : List ℕ) → seen ≡ noted (no_seats (suc most_seats)) i → (o n x : ℕ) (p : Place) → SoFar s from i first a seen 1 true first.next o n x p
  first_read first reads a ahead step e seen f o n x p =
      read_well (ReadLiteral o s from n i) o s (literal (at (placed (seat i) x ∷ marks_at o s from) n)) first (reads o n i x)
      (λ l b g h. record {
        head = l;
        more = [];
        joining = record {
          fuel = length (marks_at o s first.next);
          enough = omega arith;
          goes =
              ap (λ y. bind y (behind_first p)) g ∙ ap (behind_first p l) h.rest
              ∙ behind_first_law p l (at (marks_at o s first.next) n) a (next_is_law o s (joint any) (joint_known true) (step_at s first.next) (marks_at o s first.next) (meet o s first.next) ∙ ap (λ (u : Step). eqb u.mark.kind (kind (joint any))) (sym step) ∙ sym e);
        };
        behind = b;
        read = h;
        marked = λ j k. seen_first i l h.seat j k ∙ ap (λ u. not (eqb (get_or u j 0) 0)) (sym f);
        counted = refl;
        alikes = refl;
      })

-- ---- its node

kind_small : (k : Kind) → kind_number k ≤ 1
kind_small everyone = omega arith
kind_small others_kind = omega arith

sign_small : (g : Sign) → sign_number g ≤ 1
sign_small all = omega arith
sign_small any = omega arith

relation_small : (q : Relation) → relation_number q ≤ 1
relation_small eq = omega arith
relation_small ne = omega arith

packed : (k g q d : ℕ) (kind : Kind) (sign : Sign) (relation : Relation) (e : ℕ) → k ≡ kind_number kind → g ≡ sign_number sign → q ≡ relation_number relation → d ≡ e → d < numbers
    → pack_group (min k 1) (min g 1) (min q 1) (min d numbers) ≡ pack_group (kind_number kind) (sign_number sign) (relation_number relation) e
packed k g q d kind sign relation e ke ge qe de l =
    rw (ke, ge, qe, de)
    (packed_group (kind_number kind) (sign_number sign) (relation_number relation) e (kind_small kind) (sign_small sign) (relation_small relation) (omega arith))

module _ (s : List ℕ) (from i : ℕ) (first : Tail) (a : Bool) (seen : List ℕ) (count : ℕ) (same : Bool) (c : ℕ) where
  module _ (joined : (step_at s c).mark.kind ≡ kind (joint (sign_in a))) (o n x : ℕ) (p : Place) (so : SoFar s from i first a seen count same c o n x p) where
    abbrev next : ℕ
    next = (step_at s c).next.at

    abbrev word : Step
    word = step_at s next

    no_seat : (word.mark.kind ≡ k_seat → ⊥) → GroupRead o s n p (whole s from i o n x p) (Err word.mark.place)
    no_seat h =
        stops_as (ReadGroup o s n p) o s word.mark.place
        (one_stops literal (joint (sign_in a)) (as_group p (sign_in a)) (joint_known a) (whole s from i o n x p) o s n (so.head ∷ so.more) c so.joining joined out_of_shape (marks_at o s next) (no_word o s n next h))
        (stops_here o s next)

    module _ (h : word.mark.kind ≡ k_seat) where
      no_literal : (r : ℕ) → Reads s word.next.at (Err r) → GroupRead o s n p (whole s from i o n x p) (Err r)
      no_literal r reads =
          read_wrong (ReadLiteral o s word.next.at n word.mark.value) o s (literal (at (marks_at o s next) n)) r (worded o s n next h (Err r) reads)
          (λ m q e w. stops_as (ReadGroup o s n p) o s r
          (one_stops literal (joint (sign_in a)) (as_group p (sign_in a)) (joint_known a) (whole s from i o n x p) o s n (so.head ∷ so.more) c so.joining joined m q e)
          w)

      one_further : (more : Tail) → Reads s word.next.at (Ok more) → length seen ≡ suc most_seats
          → SoFar s from i first a (noted seen word.mark.value) (one_more count) (same && (eqb first.relation more.relation && eqb first.d more.d)) more.next o n x p
      one_further more reads long =
          read_well (ReadLiteral o s word.next.at n word.mark.value) o s (literal (at (marks_at o s next) n)) more (worded o s n next h (Ok more) reads)
          (λ l b g r. record {
            head = so.head;
            more = so.more ++ (l ∷ []);
            joining =
                one_read literal (joint (sign_in a)) (as_group p (sign_in a)) (joint_known a) (whole s from i o n x p) o s n (so.head ∷ so.more) c so.joining joined l more.next (g ∙ ap (ok l) r.rest)
                (omega (arith, r.fewer, one_less o s word (marks_at o s next) (meet o s next) (λ k. omega arith)));
            behind = so.behind;
            read = so.read;
            marked = seen_more_seats seen word.mark.value (so.head ∷ so.more) l long r.seat so.marked;
            counted = one_counted count (so.head ∷ so.more) l so.counted;
            alikes = alike_so same so.head l so.more first.relation more.relation first.d more.d so.alikes so.read.relation r.relation so.read.d r.d;
          })

  -- ---- the end: another mark than the sign

  module _ (other : (step_at s c).mark.kind ≡ kind (joint (sign_in a)) → ⊥) (o n x : ℕ) (p : Place) (so : SoFar s from i first a seen count same c o n x p) where
    stays_open : ((step_at s c).mark.kind ≡ kind ")" → ⊥) → GroupRead o s n p (whole s from i o n x p) (Err (step_at s c).mark.place)
    stays_open h =
        stops_as (ReadGroup o s n p) o s (step_at s c).mark.place
        (not_closed literal (joint (sign_in a)) (as_group p (sign_in a)) (joint_known a) (whole s from i o n x p) o s n (so.head ∷ so.more) c so.joining other h)
        (stops_here o s c)

    closes : (step_at s c).mark.kind ≡ kind ")" → (w node k g : ℕ) → w ≡ want_in seen count same → k ≡ kind_in seen → g ≡ sign_number (sign_in a)
        → node ≡ pack_group (min k 1) (min g 1) (min first.relation 1) (min first.d numbers)
        → GroupRead o s n p (whole s from i o n x p) (Ok (record { next = (step_at s c).next.at; want = w; kind = k; node = node; d = first.d; first = first.first }))
    closes h w node k g we ke ge pe =
        found_as (ReadGroup o s n p) o s _
        (closed literal (joint (sign_in a)) (as_group p (sign_in a)) (joint_known a) (whole s from i o n x p) o s n (so.head ∷ so.more) c so.joining other h)
        (record {
          rest = refl;
          left = refl;
          bracket = refl;
          past = next_past o s (step_at s c) (marks_at o s c) (meet o s c) (λ z. omega arith);
          next_within = next_within o s (step_at s c) (marks_at o s c) (meet o s c);
          want = we ∙ want_seen seen count so.head so.more so.marked so.counted same so.alikes;
          kind = ke ∙ kind_seen seen count so.head so.more so.marked so.counted;
          node =
              pe
              ∙ packed k g first.relation first.d (kind_by (so.head ∷ so.more)) (sign_in a) so.head.relation so.head.d
              (ke ∙ kind_seen seen count so.head so.more so.marked so.counted) ge so.read.relation so.read.d so.read.small;
          numeral = so.head.place;
          states = λ k. ap (λ d. state k d so.head.place ∷ []) (sym so.read.d);
          first = so.read.first;
          first_within = so.read.first_within;
        })

pub next_fewer : (o : ℕ) (s : List ℕ) (x : Step) (ms : Place) → Meet o s x ms → length (marks_at o s x.next.at) ≤ length ms
next_fewer o s x ms over = rw (drop-length s) (omega arith)
next_fewer o s x ms (met m p next small l h) = omega arith

-- ---- the same of what the code has, wherever the part begins

pub record Turning (s : List ℕ) (from i : ℕ) (first : Tail) (a : Bool) (seen : List ℕ) (count : ℕ) (same : Bool) (ahead : Step) : Type 0 where
  pub c : ℕ
  pub step : ahead ≡ step_at s c
  pub long : length seen ≡ suc most_seats
  pub so : (o n x : ℕ) (p : Place) → SoFar s from i first a seen count same c o n x p

abbrev pub Answers : List ℕ → ℕ → ℕ → Answer Grouped ℕ → Type 0
Answers s from i r = (o n x : ℕ) (p : Place) → GroupRead o s n p (whole s from i o n x p) r

module _ (s : List ℕ) (from i : ℕ) (first : Tail) (a : Bool) (j : ℕ) (sign : j ≡ kind (joint (sign_in a))) where
  pub begins : Reads s from (Ok first) → (ahead : Step) → ahead ≡ step_at s first.next → a ≡ eqb ahead.mark.kind (kind (joint any))
      → (seen : List ℕ) → seen ≡ noted (no_seats (suc most_seats)) i → Turning s from i first a seen 1 true ahead
  begins reads ahead step e seen f = record {
    c = first.next;
    step = step;
    long = ap length f ∙ long_more (no_seats (suc most_seats)) i refl;
    so = first_read s from i first reads a ahead step e seen f;
  }

  module _ (seen : List ℕ) (count : ℕ) (same : Bool) (ahead : Step) (t : Turning s from i first a seen count same ahead) where
    module _ (joined : ahead.mark.kind ≡ j) (word : Step) (found : word ≡ step_at s ahead.next.at) where
      joined_there : (step_at s t.c).mark.kind ≡ kind (joint (sign_in a))
      joined_there = ap (λ (u : Step). u.mark.kind) (sym t.step) ∙ joined ∙ sign

      word_there : word ≡ step_at s (step_at s t.c).next.at
      word_there = found ∙ ap (λ (u : Step). step_at s u.next.at) t.step

      pub turn_word : (word.mark.kind ≡ k_seat → ⊥) → Answers s from i (Err word.mark.place)
      turn_word h o n x p = rw word_there (no_seat s from i first a seen count same t.c joined_there o n x p (t.so o n x p) (rw word_there at h))

      module _ (h : word.mark.kind ≡ k_seat) where
        seat_there : (step_at s (step_at s t.c).next.at).mark.kind ≡ k_seat
        seat_there = ap (λ (u : Step). u.mark.kind) (sym word_there) ∙ h

        reads_there : (r : Answer Tail ℕ) → Reads s word.next.at r → Reads s (step_at s (step_at s t.c).next.at).next.at r
        reads_there r reads = rw word_there at reads

        pub turn_literal : (r : ℕ) → Reads s word.next.at (Err r) → Answers s from i (Err r)
        turn_literal r reads o n x p = no_literal s from i first a seen count same t.c joined_there o n x p (t.so o n x p) seat_there r (reads_there (Err r) reads)

        module _ (more : Tail) (reads : Reads s word.next.at (Ok more)) (last : Step) (step : last ≡ step_at s more.next) where
          pub turn_on : (seen2 : List ℕ) → seen2 ≡ noted seen word.mark.value → (count2 : ℕ) → count2 ≡ one_more count → (same2 : Bool) → same2 ≡ (same && (eqb first.relation more.relation && eqb first.d more.d))
              → Turning s from i first a seen2 count2 same2 last
          turn_on seen2 e count2 f same2 g = rw (e, f, g) (record {
            c = more.next;
            step = step;
            long = long_more seen word.mark.value t.long;
            so = λ o n x p.
                rw (ap (λ (u : Step). u.mark.value) word_there)
                (one_further s from i first a seen count same t.c joined_there o n x p (t.so o n x p) seat_there more (reads_there (Ok more) reads) t.long);
          })

          -- fewer marks are left
          pub turn_less : length (marks_at 0 s last.next.at) < length (marks_at 0 s ahead.next.at)
          turn_less =
              read_well (ReadLiteral 0 s word.next.at 0 word.mark.value) 0 s (literal (at (placed (seat word.mark.value) 0 ∷ marks_at 0 s word.next.at) 0)) more (reads 0 0 word.mark.value 0)
              (λ l b g r. omega (arith, r.fewer, behind_word, behind_last))
            where
              behind_word : suc (length (marks_at 0 s word.next.at)) ≡ length (marks_at 0 s ahead.next.at)
              behind_word = rw found (one_less 0 s (step_at s ahead.next.at) (marks_at 0 s ahead.next.at) (meet 0 s ahead.next.at) (λ k. omega (arith, ap (λ (u : Step). u.mark.kind) found)))

              behind_last : length (marks_at 0 s last.next.at) ≤ length (marks_at 0 s more.next)
              behind_last = rw step (next_fewer 0 s (step_at s more.next) (marks_at 0 s more.next) (meet 0 s more.next))

    module _ (other : ahead.mark.kind ≡ j → ⊥) where
      other_there : (step_at s t.c).mark.kind ≡ kind (joint (sign_in a)) → ⊥
      other_there e = other (ap (λ (u : Step). u.mark.kind) t.step ∙ e ∙ sym sign)

      pub ends_open : (ahead.mark.kind ≡ kind ")" → ⊥) → Answers s from i (Err ahead.mark.place)
      ends_open h o n x p = rw t.step (stays_open s from i first a seen count same t.c other_there o n x p (t.so o n x p) (rw t.step at h))

      pub ends_closed : ahead.mark.kind ≡ kind ")" → (w node k g : ℕ) → w ≡ want_in seen count same → k ≡ kind_in seen → g ≡ sign_number (sign_in a)
          → node ≡ pack_group (min k 1) (min g 1) (min first.relation 1) (min first.d numbers)
          → Answers s from i (Ok (record { next = ahead.next.at; want = w; kind = k; node = node; d = first.d; first = first.first }))
      ends_closed h w node k g we ke ge pe o n x p = rw t.step (closes s from i first a seen count same t.c other_there o n x p (t.so o n x p) (rw t.step at h) w node k g we ke ge pe)

-- ---- the places in an answer lie in the part

inside_answer : (o : ℕ) (s : List ℕ) (n : ℕ) (p : Place) (x : Result Literals) (r : Answer Grouped ℕ) → GroupRead o s n p x r → InPart s r
inside_answer o s n p (ok g b) (Ok r) h = record { next = h.next_within; first = h.first_within }
inside_answer o s n p (ok g b) (Err r) h = absurd h
inside_answer o s n p (stop m q) (Ok r) h = absurd h
inside_answer o s n p (stop m q) (Err r) h = h.within

pub inside : (s : List ℕ) (from i : ℕ) (r : Answer Grouped ℕ) → Answers s from i r → InPart s r
inside s from i r h = inside_answer 0 s 0 [] (whole s from i 0 0 0 []) r (h 0 0 0 [])
