-- Each small reader, at the marks from a place on, is a test of the numbers that a step of the cursor finds there.
use Prim.Native.Nat.{ℕ, suc, ◌+◌, ◌≤◌, ◌<◌}
use Prim.Native.String.{String}
use mathlib.Core.Path.{◌≡◌, refl, sym}
use mathlib.Core.Bool.{Bool, true, false}
use mathlib.Core.List.{List, ◌∷◌}
use mathlib.Core.Option.{Option, none, some}
use native.Mathlib.Omega.{arith}
use borrow.Author.Tests.{eq-eqb, ne_eqb}
use lib.Dec.{eqb}
use lib.ListN.{length}
use Rattle.card.specs.Limits.{numbers}
use Rattle.card.specs.Refusals.{out_of_shape}
use Rattle.card.specs.Text.{when◌then◌else◌}
use Rattle.card.specs.Card.{is as eq, isnt as ne}
use Rattle.marks_on_a_card.specs.Marks.{Mark, placed, place_of}
use Rattle.marks_on_a_card.specs.Kinds.{k_end, k_seat, k_number, kind, kind_of, value_of}
use Rattle.marks.specs.Step.{marks_at}
use Rattle.marks.specs.declared.Step.{Step}
use Rattle.marks_on_a_card.proofs.KindLaws.{kind_number}
use Rattle.marks.proofs.Next.{Meet, over, met}
use Rattle.reading.specs.Reader.{Place, at, Result, ok, stop, took, the, next_is, given, sign, seat_of, number_of}
use Rattle.reading.specs.Guard.{is_some, seat_next}
use Rattle.reading.specs.Group.{relation_of}
use Rattle.group.proofs.Signs.{Known, is_kind, valued, seat_kind, number_kind, relation_kind}

-- a value and the marks behind the step; or the mark does not fit
abbrev pub found_or : {A : Type 0} → Bool → A → ℕ → List ℕ → Step → Place → ℕ → Result A
found_or b a o s x ms n = when b then ok a (at (marks_at o s x.next.at) n) else stop out_of_shape ms

-- where the step's kind is v
module _ {A : Type 0} (a : A) (o : ℕ) (s : List ℕ) (x : Step) (ms : Place) (n v : ℕ) where
  pub fits : x.mark.kind ≡ v → found_or (eqb x.mark.kind v) a o s x ms n ≡ ok a (at (marks_at o s x.next.at) n)
  fits e = rw (eq-eqb x.mark.kind v e)

  pub unfit : (x.mark.kind ≡ v → ⊥) → found_or (eqb x.mark.kind v) a o s x ms n ≡ stop out_of_shape ms
  unfit e = rw (ne_eqb x.mark.kind v e)

module _ (o : ℕ) (s : List ℕ) where
  -- the end is of no kind that is looked for
  end_kind : (v : ℕ) → k_end < v → eqb k_end v ≡ false
  end_kind v l = ne_eqb k_end v (λ z. omega arith)

  module _ (t : String) (known : Known t) where
    pub next_is_law : (x : Step) (ms : Place) → Meet o s x ms → next_is t ms ≡ eqb x.mark.kind (kind t)
    next_is_law x ms over = sym (end_kind (kind t) (omega (arith, known.above)))
    next_is_law x ms (met m p next small l h) = is_kind t m known

    pub sign_next : (x : Step) (ms : Place) (n : ℕ) → Meet o s x ms → sign t (at ms n) ≡ found_or (eqb x.mark.kind (kind t)) tt o s x ms n
    sign_next x ms n over = rw (end_kind (kind t) (omega (arith, known.above)))
    sign_next x ms n (met m p next small l h) = rw (is_kind t m known) (go (eqb (kind_of m) (kind t)))
      where
        go : (b : Bool) → took (given b) (placed m (o + p)) (marks_at o s next) n ≡ (when b then ok tt (at (marks_at o s next) n) else stop out_of_shape (placed m (o + p) ∷ marks_at o s next))
        go true = refl
        go false = refl

  -- a word or a number
  module _ (f : Mark → Option ℕ) (v : ℕ) (some : k_end < v) (by : (m : Mark) → f m ≡ valued (eqb (kind_of m) v) m) where
    pub value_next : (x : Step) (ms : Place) (n : ℕ) → Meet o s x ms → the f (at ms n) ≡ found_or (eqb x.mark.kind v) x.mark.value o s x ms n
    value_next x ms n over = rw (end_kind v some)
    value_next x ms n (met m p next small l h) = rw (by m) (go (eqb (kind_of m) v))
      where
        go : (b : Bool) → took (valued b m) (placed m (o + p)) (marks_at o s next) n ≡ (when b then ok (value_of m) (at (marks_at o s next) n) else stop out_of_shape (placed m (o + p) ∷ marks_at o s next))
        go true = refl
        go false = refl

  pub seat_next_law : (x : Step) (ms : Place) → Meet o s x ms → seat_next ms ≡ eqb x.mark.kind k_seat
  seat_next_law x ms over = refl
  seat_next_law x ms (met m p next small l h) = rw (seat_kind m) (go (eqb (kind_of m) k_seat))
    where
      go : (b : Bool) → is_some (valued b m) ≡ b
      go true = refl
      go false = refl

  pub the_seat : (x : Step) (ms : Place) (n : ℕ) → Meet o s x ms → the seat_of (at ms n) ≡ found_or (eqb x.mark.kind k_seat) x.mark.value o s x ms n
  the_seat = value_next seat_of k_seat (omega arith) seat_kind

  pub the_number : (x : Step) (ms : Place) (n : ℕ) → Meet o s x ms → the number_of (at ms n) ≡ found_or (eqb x.mark.kind k_number) x.mark.value o s x ms n
  the_number = value_next number_of k_number (omega arith) number_kind

  pub the_relation : (x : Step) (ms : Place) (n : ℕ) → Meet o s x ms
      → the relation_of (at ms n) ≡ (when eqb x.mark.kind (kind "=") then ok eq (at (marks_at o s x.next.at) n) else found_or (eqb x.mark.kind (kind "!=")) ne o s x ms n)
  the_relation x ms n over = refl
  the_relation x ms n (met m p next small l h) = rw (relation_kind m) (go (eqb (kind_of m) (kind "=")) (eqb (kind_of m) (kind "!=")))
    where
      go : (a b : Bool) → took (when a then some eq else (when b then some ne else none)) (placed m (o + p)) (marks_at o s next) n
          ≡ (when a then ok eq (at (marks_at o s next) n) else (when b then ok ne (at (marks_at o s next) n) else stop out_of_shape (placed m (o + p) ∷ marks_at o s next)))
      go true b = refl
      go false true = refl
      go false false = refl

  -- ---- places and lengths

  pub place_next : (x : Step) (ms : Place) → Meet o s x ms → place_of (o + length s) ms ≡ o + x.mark.place
  place_next x ms over = refl
  place_next x ms (met m p next small l h) = refl

  pub place_within : (x : Step) (ms : Place) → Meet o s x ms → x.mark.place ≤ length s
  place_within x ms over = omega arith
  place_within x ms (met m p next small l h) = omega arith

  pub next_within : (x : Step) (ms : Place) → Meet o s x ms → x.next.at ≤ length s
  next_within x ms over = omega arith
  next_within x ms (met m p next small l h) = h

  -- a step over a mark goes on
  pub next_past : (x : Step) (ms : Place) → Meet o s x ms → (x.mark.kind ≡ k_end → ⊥) → x.next.at ≡ 0 → ⊥
  next_past x ms over f = absurd (f refl)
  next_past x ms (met m p next small l h) f = λ z. omega arith

  pub one_less : (x : Step) (ms : Place) → Meet o s x ms → (x.mark.kind ≡ k_end → ⊥) → suc (length (marks_at o s x.next.at)) ≡ length ms
  one_less x ms over f = absurd (f refl)
  one_less x ms (met m p next small l h) f = refl

  pub number_small : (x : Step) (ms : Place) → Meet o s x ms → x.mark.kind ≡ k_number → x.mark.value < numbers
  number_small x ms over e = absurd (omega arith)
  number_small x ms (met m p next small l h) e = rw (kind_number m e) at small
