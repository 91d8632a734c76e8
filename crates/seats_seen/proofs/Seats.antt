-- The array of seats says which seats stand among the literals, and from it, their number and whether they are alike the code finds
-- what the group wants.
use Prim.Native.Nat.{ℕ, zero, suc, ◌+◌, ◌-◌, ◌≤◌, ◌<◌, min}
use mathlib.Core.Path.{◌≡◌, refl, sym, ap, ◌∙◌}
use mathlib.Core.Bool.{Bool, true, false, not, ◌&&◌, ◌||◌}
use mathlib.Core.List.{List, [], ◌∷◌, ◌++◌}
use native.Mathlib.Numerals.{add-one}
use native.Mathlib.Omega.{arith}
use borrow.Author.Tests.{eqb-true, eqb-false, leb-true, leb-false, lt-leb}
use lib.Dec.{eqb, leb}
use lib.ListN.{length, get_or, set, replicate, length-set, length-append}
use lib.Seq.{get_or-set_same, get_or-set_other}
use Rattle.card.specs.Limits.{most_seats}
use Rattle.card.specs.Text.{when◌then◌else◌}
use Rattle.card.specs.Card.{everyone, others, Relation, is, isnt}
use Rattle.card.specs.Laid.{kind_number, relation_number}
use Rattle.reading.specs.Group.{Literal}
use Rattle.reading.specs.Judgements.{has, has_from, same_relation, alike}
use Rattle.late.specs.Late.{up_to_most, want_of, kind_by}
use Rattle.seats_seen.specs.SeatsSeen.{noted, seen_from, one_more, want_in, kind_in}

-- ---- counting along the array

pub seen_more : (seen : List ℕ) (end i : ℕ) → i < end → seen_from seen i (end - i) ≡ (not (eqb (get_or seen i 0) 0) && seen_from seen (i + 1) (end - (i + 1)))
seen_more seen end i h = let e : end - i ≡ suc (end - (i + 1)) = omega arith in rw (e, add-one i)

pub seen_end : (seen : List ℕ) (end i : ℕ) → end ≤ i → seen_from seen i (end - i) ≡ true
seen_end seen end i h = let e : end - i ≡ 0 = omega arith in rw e

pub seen_start : (seen : List ℕ) (first count : ℕ) → seen_from seen first count ≡ seen_from seen first (first + count - first)
seen_start seen first count = let e : first + count - first ≡ count = omega arith in rw e

-- ---- what the array says of the literals

abbrev pub Seen : List ℕ → List Literal → Type 0
Seen seen ls = (i : ℕ) → i ≤ most_seats → has i ls ≡ not (eqb (get_or seen i 0) 0)

or_false : (b : Bool) → (b || false) ≡ b
or_false true = refl
or_false false = refl

or_true : (b : Bool) → (b || true) ≡ true
or_true true = refl
or_true false = refl

or_assoc : (a b c : Bool) → (a || b || c) ≡ (a || (b || c))
or_assoc true b c = refl
or_assoc false b c = refl

has_more : (i : ℕ) (ls : List Literal) (l : Literal) → has i (ls ++ (l ∷ [])) ≡ (has i ls || eqb l.seat i)
has_more i [] l = or_false (eqb l.seat i)
has_more i (x ∷ ls) l = rw (has_more i ls l) (sym (or_assoc (eqb x.seat i) (has i ls) (eqb l.seat i)))

noted_long : (seen : List ℕ) (v : ℕ) → length (noted seen v) ≡ length seen
noted_long seen v = go (leb v most_seats)
  where
    go : (b : Bool) → length (when b then set seen v 1 else seen) ≡ length seen
    go true = length-set seen v 1
    go false = refl

-- a seat more
noted_at : (seen : List ℕ) (v i : ℕ) → length seen ≡ suc most_seats → i ≤ most_seats → not (eqb (get_or (noted seen v) i 0) 0) ≡ (not (eqb (get_or seen i 0) 0) || eqb v i)
noted_at seen v i long h = go (leb v most_seats) refl (eqb v i) refl
  where
    go : (b : Bool) → leb v most_seats ≡ b → (c : Bool) → eqb v i ≡ c → not (eqb (get_or (when b then set seen v 1 else seen) i 0) 0) ≡ (not (eqb (get_or seen i 0) 0) || c)
    go true e true f = rw (← eqb-true v i f, get_or-set_same seen v 1 0 (omega (arith, leb-true v most_seats e))) (sym (or_true (not (eqb (get_or seen v 0) 0))))
    go true e false f = rw (get_or-set_other seen v i 1 0 (λ z. eqb-false v i f (sym z))) (sym (or_false (not (eqb (get_or seen i 0) 0))))
    go false e true f = absurd (omega (arith, leb-false v most_seats e, eqb-true v i f))
    go false e false f = sym (or_false (not (eqb (get_or seen i 0) 0)))

pub seen_more_seats : (seen : List ℕ) (v : ℕ) (ls : List Literal) (l : Literal) → length seen ≡ suc most_seats → l.seat ≡ v → Seen seen ls → Seen (noted seen v) (ls ++ (l ∷ []))
seen_more_seats seen v ls l long e s i h = has_more i ls l ∙ rw (s i h, e) (sym (noted_at seen v i long h))

pub long_more : (seen : List ℕ) (v : ℕ) → length seen ≡ suc most_seats → length (noted seen v) ≡ suc most_seats
long_more seen v e = noted_long seen v ∙ e

-- no seat yet
abbrev pub no_seats : ℕ → List ℕ
no_seats n = replicate n 0

zero_at : (n i : ℕ) → ◌≡◌ {A = ℕ} (get_or (no_seats n) i 0) 0
zero_at zero i = refl
zero_at (suc n) zero = refl
zero_at (suc n) (suc i) = zero_at n i

pub seen_first : (v : ℕ) (l : Literal) → l.seat ≡ v → Seen (noted (no_seats (suc most_seats)) v) (l ∷ [])
seen_first v l e = seen_more_seats (no_seats (suc most_seats)) v [] l refl e (λ i h. rw (zero_at (suc most_seats) i))

-- ---- how many, and alike

pub one_counted : {A : Type 0} (count : ℕ) (ls : List A) (l : A) → count ≡ min (length ls) (suc most_seats) → one_more count ≡ min (length (ls ++ (l ∷ []))) (suc most_seats)
one_counted {A} count ls l e = go (leb count most_seats) refl
  where
    go : (b : Bool) → leb count most_seats ≡ b → (when b then suc count else count) ≡ min (length (ls ++ (l ∷ []))) (suc most_seats)
    go true h = omega (arith, leb-true count most_seats h, length-append ls (l ∷ []))
    go false h = omega (arith, leb-false count most_seats h, length-append ls (l ∷ []))

same_number : (a b : Relation) → eqb (relation_number a) (relation_number b) ≡ same_relation a b
same_number is is = refl
same_number is isnt = refl
same_number isnt is = refl
same_number isnt isnt = refl

and_assoc : (a b c : Bool) → (a && (b && c)) ≡ (a && b && c)
and_assoc true b c = refl
and_assoc false b c = refl

and_swap : (a b : Bool) → (a && b) ≡ (b && a)
and_swap true true = refl
and_swap true false = refl
and_swap false true = refl
and_swap false false = refl

abbrev alike_two : Literal → Literal → Bool
alike_two l x = same_relation l.relation x.relation && eqb l.d x.d

alike_more : (l : Literal) (ls : List Literal) (x : Literal) → (alike l ls && alike_two l x) ≡ alike l (ls ++ (x ∷ []))
alike_more l [] x = and_swap true (alike_two l x)
alike_more l (y ∷ ls) x = sym (and_assoc (alike_two l y) (alike l ls) (alike_two l x)) ∙ ap (λ b. alike_two l y && b) (alike_more l ls x)

pub alike_so : (same : Bool) (l x : Literal) (ls : List Literal) (q r d e : ℕ) → same ≡ alike l ls → q ≡ relation_number l.relation → r ≡ relation_number x.relation → d ≡ l.d → e ≡ x.d
    → (same && (eqb q r && eqb d e)) ≡ alike l (ls ++ (x ∷ []))
alike_so same l x ls q r d e f g h i j = rw (f, g, h, i, j, same_number l.relation x.relation) (alike_more l ls x)

-- ---- so what is wanted, and which kind

module _ (seen : List ℕ) (count : ℕ) (l : Literal) (ls : List Literal) (s : Seen seen (l ∷ ls)) (counted : count ≡ min (length (l ∷ ls)) (suc most_seats)) where
  abbrev group : List Literal
  group = l ∷ ls

  from_seen : (i c : ℕ) → i + c ≤ suc most_seats → has_from i c group ≡ seen_from seen i c
  from_seen i zero h = refl
  from_seen i (suc c) h = rw (s i (omega arith), from_seen (suc i) c (omega arith))

  pub kind_seen : kind_in seen ≡ kind_number (kind_by group)
  kind_seen = rw (s 1 (omega arith)) (go (eqb (get_or seen 1 0) 0))
    where
      go : (b : Bool) → (when b then kind_number others else kind_number everyone) ≡ kind_number (when not b then everyone else others)
      go true = refl
      go false = refl

  -- beyond the most seats nothing is wanted, however many there are
  up_to : (m k : ℕ) (b c : Bool) → (leb m most_seats ≡ true → (m ≡ k) × (b ≡ c)) → (leb m most_seats ≡ false → most_seats < k) → up_to_most m b ≡ up_to_most k c
  up_to m k b c few many = go (leb m most_seats) refl
    where
      go : (t : Bool) → leb m most_seats ≡ t → (when t && b then m else 0) ≡ up_to_most k c
      go true e = let both = few e in rw (← both.0, ← both.1, e)
      go false e = rw (lt-leb k most_seats (many e))

  pub once_seen : up_to_most count (seen_from seen 1 count) ≡ up_to_most (length group) (has_from 1 (length group) group)
  once_seen =
      up_to count (length group) (seen_from seen 1 count) (has_from 1 (length group) group)
      (λ t. let c : count ≡ length group = omega (arith, leb-true count most_seats t) in (c, sym (from_seen 1 count (omega (arith, leb-true count most_seats t))) ∙ ap (λ k. has_from 1 k group) c))
      (λ t. omega (arith, leb-false count most_seats t))

  pub want_seen : (same : Bool) → same ≡ alike l ls → want_in seen count same ≡ want_of group
  unfolding want_in
  want_seen same e = rw e (go (alike l ls) (has 1 group) (eqb (get_or seen 1 0) 0) (s 1 (omega arith)))
    where
      go : (a h z : Bool) → h ≡ not z
          → (when a then (when z then up_to_most (suc count) (seen_from seen 2 count) else up_to_most count (seen_from seen 1 count)) else 0)
          ≡ (when a then (when h then up_to_most (length group) (has_from 1 (length group) group) else up_to_most (suc (length group)) (has_from 2 (length group) group)) else 0)
      go true h true f = rw f (up_to (suc count) (suc (length group)) (seen_from seen 2 count) (has_from 2 (length group) group)
          (λ t. let c : count ≡ length group = omega (arith, leb-true (suc count) most_seats t) in (ap suc c, sym (from_seen 2 count (omega (arith, leb-true (suc count) most_seats t))) ∙ ap (λ k. has_from 2 k group) c))
          (λ t. omega (arith, leb-false (suc count) most_seats t)))
      go true h false f = rw f once_seen
      go false h z f = refl
