-- A list judged one by one: those up to a place are within bounds, so the judgement is that of the rest. What each answer says follows from
-- one look at the list: either all are within bounds, or one is the first that is not. Seats are one such list, with the shared number as its last. Assumes nothing.
use Prim.Native.Nat.{ℕ, zero, suc, ◌+◌, ◌-◌, ◌≤◌, ◌<◌}
use mathlib.Core.Path.{◌≡◌, refl, sym, ap, ◌∙◌}
use mathlib.Core.Logic.{◌↔◌, ◌⊎◌, inl, inr}
use mathlib.Core.List.{List, [], ◌∷◌}
use native.Mathlib.Nat.{not-suc-le-zero, le_of_suc-le-suc}
use native.Mathlib.Numerals.{add-one}
use native.Mathlib.Decide.{ℕ_discrete, dec_le}
use native.Mathlib.Omega.{arith}
use borrow.Author.Tests.{lt-ltb, le-ltb, eq-eqb, ne_eqb}
use lib.Dec.{ltb}
use lib.ListN.{length, get_or, take, drop, length-take, drop_of_length-le}
use lib.Seq.{drop-cons, get_or-take}
use mathlib.Core.Option.{Option, none, some}
use Rattle.card.specs.Card.{Shared, Card}
use Rattle.card.specs.Text.{when◌then◌else◌}
use Rattle.card.specs.Valid.{Every, values_of}
use Rattle.card.specs.Refusals.{wrong_seats, seat_above_top}
use Rattle.card.proofs.Verdicts.{refused_number, refused_place, ok≢refused}
use Rattle.meaning.specs.Position.{shared_values}
use Rattle.seating.specs.FirstRefusal.{first_refusal}
use Rattle.card.specs.Verdict.{Verdict}
use Rattle.card.specs.Verdict.{Taken, Refused}
use Rattle.seating.specs.Judged.{judged_by, judged_from, judged_list, FirstOver, FirstAbove, bytes_due, most_at, judged_seats, shared_at, Seated}

-- ---- as a loop judges

module _ (number k : ℕ) (x : List ℕ) (i : ℕ) where
  pub judged_above : i < length x → k < get_or x i 0 → judged_from number k i (drop i x) ≡ Refused number i
  unfolding judged_by
  judged_above l h = rw (drop-cons x i 0 l, lt-ltb k (get_or x i 0) h)

  pub judged_next : i < length x → get_or x i 0 ≤ k → judged_from number k i (drop i x) ≡ judged_from number k (i + 1) (drop (i + 1) x)
  unfolding judged_by
  judged_next l h = rw (add-one i, drop-cons x i 0 l, le-ltb k (get_or x i 0) h)

  pub judged_end : length x ≤ i → judged_from number k i (drop i x) ≡ Taken
  unfolding judged_by
  judged_end h = rw (drop_of_length-le x h)

-- ---- what the answers say

abbrev pub Within : ℕ → List ℕ → Type 0
Within k x = Every (λ a. a ≤ k) x

-- at each place what may stand there
abbrev Bounded : (ℕ → ℕ) → ℕ → List ℕ → Type 0
Bounded most p x = (i : ℕ) → i < length x → get_or x i 0 ≤ most (p + i)

pub within_at : (k : ℕ) (x : List ℕ) → Within k x → (i : ℕ) → i < length x → get_or x i 0 ≤ k
within_at k [] w i l = absurd (not-suc-le-zero l)
within_at k (a ∷ x) w zero l = w.0
within_at k (a ∷ x) w (suc i) l = within_at k x w.1 i (le_of_suc-le-suc l)

pub at_within : (k : ℕ) (x : List ℕ) → ((i : ℕ) → i < length x → get_or x i 0 ≤ k) → Within k x
at_within k [] h = tt
at_within k (a ∷ x) h = (h 0 (omega arith), at_within k x (λ i l. h (suc i) (omega arith)))

-- all are within bounds, or one is the first above its own
data Look (number : ℕ) (most : ℕ → ℕ) (p : ℕ) (x : List ℕ) : Type 0 where
  below : Bounded most p x → judged_by number most p x ≡ Taken → Look number most p x
  above : (q : ℕ) → FirstOver (λ i. most (p + i)) x q → judged_by number most p x ≡ Refused number (p + q) → Look number most p x

module _ (most : ℕ → ℕ) (p a : ℕ) (x : List ℕ) (h : a ≤ most p) where
  step : (i : ℕ) → suc p + i ≡ p + suc i
  step i = omega arith

  here : p + 0 ≡ p
  here = omega arith

  fine : Bounded most (suc p) x → Bounded most p (a ∷ x)
  fine w zero l = rw here h
  fine w (suc i) l = rw (← step i) (w i (le_of_suc-le-suc l))

  later : (q : ℕ) → FirstOver (λ i. most (suc p + i)) x q → FirstOver (λ i. most (p + i)) (a ∷ x) (suc q)
  later q f = record { seat = omega (arith, f.seat); above = rw (← step q) f.above; first = go }
    where
      go : (i : ℕ) → i < suc q → get_or (a ∷ x) i 0 ≤ most (p + i)
      go zero l = rw here h
      go (suc i) l = rw (← step i) (f.first i (le_of_suc-le-suc l))

look : (number : ℕ) (most : ℕ → ℕ) (p : ℕ) (x : List ℕ) → Look number most p x
unfolding judged_by
look number most p [] = below (λ i l. absurd (not-suc-le-zero l)) refl
look number most p (a ∷ x) = go (dec_le a (most p)) (look number most (suc p) x)
  where
    go : Dec (a ≤ most p) → Look number most (suc p) x → Look number most p (a ∷ x)
    go (yes h) (below w e) = below (fine most p a x h w) (rw (le-ltb (most p) a h) e)
    go (yes h) (above q f e) = above (suc q) (later most p a x h q f) (rw (le-ltb (most p) a h) (e ∙ ap (Refused number) (step most p a x h q)))
    go (no h) rest =
        let l : most p < a = omega arith in
        let first : p + 0 ≡ p = omega arith in
        above 0 (record { seat = omega arith; above = rw first l; first = λ i z. absurd (not-suc-le-zero z) }) (rw (lt-ltb (most p) a l) (ap (Refused number) (sym first)))

-- one that is the first above is the only such
pub first_only : (most : ℕ → ℕ) (x : List ℕ) (p q : ℕ) → FirstOver most x p → FirstOver most x q → p ≡ q
first_only most x p q f g = go (dec_le p q) (dec_le q p)
  where
    go : Dec (p ≤ q) → Dec (q ≤ p) → p ≡ q
    go (yes h) (yes l) = omega arith
    go (no h) _ = absurd (omega (arith, f.first q (omega arith), g.above))
    go (yes h) (no l) = absurd (omega (arith, g.first p (omega arith), f.above))

pub fine≢refused : {A : Type 0} {r p : ℕ} → Taken ≡ Refused r p → A
fine≢refused e = ok≢refused e

pub same_refusal : {r s p q : ℕ} → ◌≡◌ {A = Verdict} (Refused r p) (Refused s q) → (r ≡ s) × (p ≡ q)
same_refusal e = (refused_number e, refused_place e)

-- the two ways in which a list can go, judged from its start
module _ (number : ℕ) (most : ℕ → ℕ) (x : List ℕ) where
  from_start : (i : ℕ) → 0 + i ≡ i
  from_start i = omega arith

  pub list_ways : {A : Type 0}
      → ((p : ℕ) → FirstOver most x p → judged_by number most 0 x ≡ Refused number p → A)
      → (((i : ℕ) → i < length x → get_or x i 0 ≤ most i) → judged_by number most 0 x ≡ Taken → A)
      → A
  list_ways {A} over fine = by (look number most 0 x)
    where
      by : Look number most 0 x → A
      by (below w e) = fine (λ i l. rw (from_start i) at (w i l)) e
      by (above q f e) =
          over q
          (record { seat = f.seat; above = rw (from_start q) at f.above; first = λ i l. rw (from_start i) at (f.first i l) })
          (e ∙ ap (Refused number) (from_start q))

module _ (n k : ℕ) (wrong : Verdict) (number : ℕ) (x : List ℕ) where
  -- the three ways in which a judgement can go
  pub judged_ways : {A : Type 0}
      → ((length x ≡ n → ⊥) → judged_list n k wrong number x ≡ wrong → A)
      → (length x ≡ n → (p : ℕ) → FirstAbove k x p → judged_list n k wrong number x ≡ Refused number p → A)
      → (length x ≡ n → Within k x → judged_list n k wrong number x ≡ Taken → A)
      → A
  judged_ways {A} other over fine = go (ℕ_discrete (length x) n)
    where
      go : Dec (length x ≡ n) → A
      go (no h) = other h (rw (ne_eqb (length x) n h))
      go (yes h) = list_ways number (λ i. k) x
          (λ p f e. over h p f (rw (eq-eqb (length x) n h) e))
          (λ w e. fine h (at_within k x w) (rw (eq-eqb (length x) n h) e))

-- ---- seats

module _ (n k values : ℕ) (x : List ℕ) where
  abbrev most : ℕ → ℕ
  most = most_at n k values

  judged_by_law : {A : Type 0}
      → ((length x ≡ bytes_due n values → ⊥) → judged_seats n k values x ≡ Refused wrong_seats 0 → A)
      → (length x ≡ bytes_due n values → (p : ℕ) → FirstOver most x p → judged_seats n k values x ≡ Refused seat_above_top p → A)
      → (length x ≡ bytes_due n values → ((i : ℕ) → i < length x → get_or x i 0 ≤ most i) → judged_seats n k values x ≡ Taken → A)
      → A
  unfolding judged_seats
  judged_by_law {A} other over fine = go (ℕ_discrete (length x) (bytes_due n values))
    where
      go : Dec (length x ≡ bytes_due n values) → A
      go (no h) = other h (rw (ne_eqb (length x) (bytes_due n values) h))
      go (yes h) = list_ways seat_above_top most x
          (λ p f e. over h p f (rw (eq-eqb (length x) (bytes_due n values) h) e))
          (λ w e. fine h w (rw (eq-eqb (length x) (bytes_due n values) h) e))

  -- fine: so many bytes, each within its bound
  pub fine_exactly : (judged_seats n k values x ≡ Taken) ↔ ((length x ≡ bytes_due n values) × ((i : ℕ) → i < length x → get_or x i 0 ≤ most i))
  fine_exactly = judged_by_law
      (λ h e. (λ f. fine≢refused (sym f ∙ e), λ g. absurd (h g.0)))
      (λ h p f e. (λ z. fine≢refused (sym z ∙ e), λ g. absurd (omega (arith, f.above, g.1 p f.seat))))
      (λ h w e. (λ z. (h, w), λ g. e))

  -- 8 at 0: another number of bytes
  pub wrong_seats_exactly : (p : ℕ) → (judged_seats n k values x ≡ Refused wrong_seats p) ↔ ((length x ≡ bytes_due n values → ⊥) × (p ≡ 0))
  wrong_seats_exactly p = judged_by_law
      (λ h e. (λ z. (h, sym (same_refusal (sym e ∙ z)).1), λ g. e ∙ ap (Refused wrong_seats) (sym g.1)))
      (λ h q f e. (λ z. absurd (omega (arith, (same_refusal (sym e ∙ z)).0)), λ g. absurd (g.0 h)))
      (λ h w e. (λ z. fine≢refused (sym e ∙ z), λ g. absurd (g.0 h)))

  -- 9: so many bytes, and the place is that of the first above its bound
  pub seat_above_exactly : (p : ℕ) → (judged_seats n k values x ≡ Refused seat_above_top p) ↔ ((length x ≡ bytes_due n values) × FirstOver most x p)
  seat_above_exactly p = judged_by_law
      (λ h e. (λ z. absurd (omega (arith, (same_refusal (sym e ∙ z)).0)), λ g. absurd (h g.0)))
      (λ h q f e. (
        λ z. (h, rw (same_refusal (sym e ∙ z)).1 at f),
        λ g. e ∙ ap (Refused seat_above_top) (first_only most x q p f g.1),
      ))
      (λ h w e. (λ z. fine≢refused (sym e ∙ z), λ g. absurd (omega (arith, g.1.above, w p g.1.seat))))

  -- and there is no other refusal
  pub judged_else : (r p : ℕ) → judged_seats n k values x ≡ Refused r p → (r ≡ wrong_seats) ⊎ (r ≡ seat_above_top)
  judged_else r p z = judged_by_law
      (λ h e. inl (same_refusal (sym z ∙ e)).0)
      (λ h q f e. inr (same_refusal (sym z ∙ e)).0)
      (λ h w e. fine≢refused (sym e ∙ z))

-- bytes within their bounds are the seats within k, and the shared number one of its values
module _ (n k : ℕ) (x : List ℕ) where
  abbrev Bytes : ℕ → Type 0
  Bytes values = (length x ≡ bytes_due n values) × ((i : ℕ) → i < length x → get_or x i 0 ≤ most_at n k values i)

  pub enough : (values : ℕ) → length x ≡ bytes_due n values → n ≤ length x
  enough zero e = omega arith
  enough (suc most) e = omega arith

  first_seats : (values : ℕ) → length x ≡ bytes_due n values → length (take n x) ≡ n
  first_seats values e = length-take n x ∙ (let l = enough values e in omega arith)

  seat_bound : (values i : ℕ) → i < n → most_at n k values i ≡ k
  seat_bound values i l = rw (lt-ltb i n l)

  -- the shared number stands at place n
  there : (values : ℕ) → most_at n k values n ≡ values - 1
  there values = rw (le-ltb n n (omega arith))

  seats_within : (values : ℕ) → Bytes values → Within k (take n x)
  seats_within values b = at_within k (take n x) (λ i l.
      let m : i < n = omega (arith, first_seats values b.0) in
      rw (get_or-take n x i 0 m) (rw (seat_bound values i m) at (b.1 i (omega (arith, enough values b.0)))))

  shared_within : (s : Option Shared) → Bytes (values_of s) → shared_at n (values_of s) x < shared_values s
  shared_within none b = omega arith
  shared_within (some s) b = omega (arith, b.1 n (omega (arith, b.0)), there (suc s.most))

  bytes_bounded : (s : Option Shared) → length x ≡ bytes_due n (values_of s) → Within k (take n x) → shared_at n (values_of s) x < shared_values s → Bytes (values_of s)
  bytes_bounded s e w v = (e, λ i l. go s e v i l (dec_le (suc i) n))
    where
      go : (s : Option Shared) → length x ≡ bytes_due n (values_of s) → shared_at n (values_of s) x < shared_values s
          → (i : ℕ) → i < length x → Dec (i < n) → get_or x i 0 ≤ most_at n k (values_of s) i
      go s e v i l (yes m) = rw (seat_bound (values_of s) i m, ← get_or-take n x i 0 m) (within_at k (take n x) w i (omega (arith, first_seats (values_of s) e)))
      go none e v i l (no m) = absurd (omega arith)
      go (some s) e v i l (no m) =
          let is : i ≡ n = omega arith in
          rw (is, there (suc s.most)) (omega arith)

-- so seats are fine exactly where they are a seating of the card
pub valid_exactly : (c : Card) (x : List ℕ) → (judged_seats c.n c.k (values_of c.shared) x ≡ Taken) ↔ Seated c x
valid_exactly c x =
    let f = fine_exactly c.n c.k (values_of c.shared) x in (
      λ e. let g = f.0 e in record {
        due = g.0;
        valid = record {
          seats = first_seats c.n c.k x (values_of c.shared) g.0;
          states = seats_within c.n c.k x (values_of c.shared) g;
          shared = shared_within c.n c.k x c.shared g;
        };
      },
      λ v. f.1 (bytes_bounded c.n c.k x c.shared v.due v.valid.states v.valid.shared),
    )

-- ---- as the code judges seats: the seats first, then the number behind them

module _ (n k : ℕ) (x : List ℕ) where
  pub judged_other : (values : ℕ) → (length x ≡ bytes_due n values → ⊥) → judged_seats n k values x ≡ Refused wrong_seats 0
  unfolding judged_seats
  judged_other values h = rw (ne_eqb (length x) (bytes_due n values) h)

  -- with a shared number one more than the seats is due
  pub other_length : (values : ℕ) → (values ≡ 0 → ⊥) → (length x ≡ suc n → ⊥) → length x ≡ bytes_due n values → ⊥
  other_length zero there-is h e = there-is refl
  other_length (suc most) there-is h e = h e

  -- no shared number
  pub judged_start : length x ≡ n → judged_seats n k 0 x ≡ judged_from seat_above_top k 0 x
  judged_start h = judged_by_law n k 0 x
      (λ g e. absurd (g h))
      (λ g p f e. e ∙ sym (list_ways seat_above_top (λ i. k) x
      (λ q o d. d ∙ ap (Refused seat_above_top) (first_only (λ i. k) x q p o (record { seat = f.seat; above = rw (seat_bound n k x 0 p (omega (arith, f.seat))) at f.above; first = λ i l. rw (seat_bound n k x 0 i (omega (arith, f.seat))) at (f.first i l) })))
      (λ w d. absurd (omega (arith, w p f.seat, rw (seat_bound n k x 0 p (omega (arith, f.seat))) at f.above)))))
      (λ g w e. e ∙ sym (list_ways seat_above_top (λ i. k) x
      (λ q o d. absurd (omega (arith, o.above, rw (seat_bound n k x 0 q (omega (arith, o.seat))) at (w q o.seat))))
      (λ u d. d)))

-- with one: the bytes are one more than the seats
module _ (n k : ℕ) (x : List ℕ) (long : length x ≡ suc n) where
  seats_there : length (take n x) ≡ n
  seats_there = length-take n x ∙ omega arith

  seat_at : (i : ℕ) → i < n → get_or (take n x) i 0 ≡ get_or x i 0
  seat_at i l = get_or-take n x i 0 l

  all_fine : ((i : ℕ) → i < n → get_or x i 0 ≤ k) → judged_from seat_above_top k 0 (take n x) ≡ Taken
  all_fine w = list_ways seat_above_top (λ i. k) (take n x)
      (λ q o d. let l : q < n = omega (arith, o.seat, seats_there) in absurd (omega (arith, o.above, seat_at q l, w q l)))
      (λ u d. d)

  one_over : (p : ℕ) → p < n → k < get_or x p 0 → ((i : ℕ) → i < p → get_or x i 0 ≤ k) → judged_from seat_above_top k 0 (take n x) ≡ Refused seat_above_top p
  one_over p l over before = list_ways seat_above_top (λ i. k) (take n x)
      (λ q o d. d ∙ ap (Refused seat_above_top) (first_only (λ i. k) (take n x) q p o
      (record { seat = omega (arith, seats_there); above = rw (seat_at p l) over; first = λ i h. rw (seat_at i (omega arith)) (before i h) })))
      (λ u d. absurd (omega (arith, u p (omega (arith, seats_there)), seat_at p l)))

  pub judged_behind : (values : ℕ) → (values ≡ 0 → ⊥)
      → judged_seats n k values x ≡ first_refusal (judged_from seat_above_top k 0 (take n x)) (when ltb (get_or x n 0) values then Taken else Refused seat_above_top n)
  judged_behind zero there-is = absurd (there-is refl)
  judged_behind (suc m) there-is = judged_by_law n k (suc m) x
      (λ g e. absurd (g long))
      (λ g p f e. over p f e (dec_le (suc p) n))
      (λ g w e. e ∙ sym (
      rw (
        all_fine (λ i l. rw (seat_bound n k x (suc m) i l) at (w i (omega arith))),
        lt-ltb (get_or x n 0) (suc m) (omega (arith, w n (omega arith), there n k x (suc m))),
      )
      ))
    where
      over : (p : ℕ) → FirstOver (most_at n k (suc m)) x p → judged_seats n k (suc m) x ≡ Refused seat_above_top p → Dec (p < n)
          → judged_seats n k (suc m) x ≡ first_refusal (judged_from seat_above_top k 0 (take n x)) (when ltb (get_or x n 0) (suc m) then Taken else Refused seat_above_top n)
      over p f e (yes l) = e ∙ sym (
          rw (one_over p l (rw (seat_bound n k x (suc m) p l) at f.above) (λ i h. rw (seat_bound n k x (suc m) i (omega arith)) at (f.first i h)))
          )
      over p f e (no l) =
          let last : p ≡ n = omega (arith, f.seat) in
          let big : suc m ≤ get_or x n 0 = omega (arith, there n k x (suc m), rw last at f.above) in
          e ∙ ap (Refused seat_above_top) last ∙ sym (
          rw (
            all_fine (λ i h. rw (seat_bound n k x (suc m) i h) at (f.first i (omega arith))),
            le-ltb (get_or x n 0) (suc m) big,
          )
          )
