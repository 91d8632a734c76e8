-- The cursor's step shows the next of the marks, in numbers. What a reader of one mark does is read off those numbers (`seen`), for
-- every reader whose test of a mark is a test of them (`Shown`). Assumes nothing.
use Prim.Native.Nat.{ℕ, ◌<◌}
use Prim.Native.String.{String}
use mathlib.Core.Path.{◌≡◌, refl, sym, ap, ◌∙◌}
use mathlib.Core.Bool.{Bool, true, false}
use mathlib.Core.List.{List, [], ◌∷◌}
use mathlib.Core.Option.{Option, none, some}
use native.Mathlib.Nat.{zero-add}
use native.Mathlib.Omega.{arith}
use borrow.Author.Tests.{eq-eqb, ne_eqb, eqb-true}
use lib.Dec.{eqb}
use lib.ListN.{length}
use Rattle.card.specs.Limits.{numbers}
use Rattle.card.specs.Refusals.{out_of_shape}
use Rattle.card.specs.Text.{bytes, when◌then◌else◌}
use Rattle.card.specs.Weight.{Weight, whole, decimal as point}
use Rattle.card.specs.Card.{Mode, nondeterministic, probabilistic}
use Rattle.marks_on_a_card.specs.Marks.{Mark, text, seat, process, number, decimal, outside, Placed, placed, place_of}
use Rattle.marks_on_a_card.specs.Kinds.{k_end, k_number, k_decimal, k_seat, k_process, k_word, knowns, kind_in, kind, kind_of, value_of, digits_of, further_of}
use Rattle.marks.specs.Step.{found, step_to, step_end, step_at, marks_at}
use Rattle.marks.proofs.Next.{Meet, over, met, meet}
use Rattle.marks_on_a_card.proofs.KindLaws.{kind_tells, kind_seat, kind_process, kind_number, kind_decimal}
use Rattle.reading.proofs.Through.{same_refl, is→eq}
use Rattle.marks.specs.declared.Found.{Found}
use Rattle.marks.specs.declared.Step.{Step}
use Rattle.reading.specs.Reader.{Place, at, Result, ok, stop, took, first, is, next_is, given, seat_of, process_of, number_of}
use Rattle.reading.specs.Shape.{weight_of, mode_of, zero_of, only_zero}
use Rattle.parts.specs.Parts.{Told}

-- ---- the next mark

pub data Next (s : List ℕ) (i : ℕ) : Step → Type 0 where
  end : marks_at 0 s i ≡ [] → Next s i (step_end (length s))
  one : (m : Mark) (p next : ℕ) → p < next → marks_at 0 s i ≡ placed m p ∷ marks_at 0 s next → Next s i (step_to m p next)

pub place_seen : (s : List ℕ) (i : ℕ) (x : Step) → Next s i x → x.mark.place ≡ place_of (length s) (marks_at 0 s i)
place_seen s i _ (end e) = rw e
place_seen s i _ (one m p next l e) = rw e

pub next_at : (s : List ℕ) (i : ℕ) (x : Step) → x ≡ step_at s i → Next s i x
next_at s i x h = rw h (go (step_at s i) (marks_at 0 s i) refl (meet 0 s i))
  where
    go : (y : Step) (ms : List Placed) → marks_at 0 s i ≡ ms → Meet 0 s y ms → Next s i y
    go _ _ e over = end e
    go _ _ e (met m p next small l k) = one m p next l (rw (zero-add p) at e)

-- behind a mark there is a place
pub behind : (s : List ℕ) (i : ℕ) (x : Step) → Next s i x → (x.mark.kind ≡ k_end → ⊥) → x.next.at ≡ 0 → ⊥
behind s i _ (end e) h = absurd (h refl)
behind s i _ (one m p next l e) h = λ z. omega arith

-- a number has no more digits than a number may have
pub number_small : (s : List ℕ) (i : ℕ) (x : Step) → x ≡ step_at s i → x.mark.kind ≡ k_number → x.mark.value < numbers
number_small s i x h e = go x (marks_at 0 s i) (rw (← h) at (meet 0 s i)) e
  where
    go : (y : Step) (ms : List Placed) → Meet 0 s y ms → y.mark.kind ≡ k_number → y.mark.value < numbers
    go _ _ over f = absurd (omega arith)
    go _ _ (met m p next small l k) f = rw (kind_number m f) at small

-- ---- a sign or keyword by its kind

pub told : (t : String) → k_word < kind t → Told t
told t h = record { mark = λ m. go m (is t m) (eqb (kind_of m) (kind t)) refl refl; end = ne_eqb k_end (kind t) (λ e. omega arith) }
  where
    go : (m : Mark) (a b : Bool) → is t m ≡ a → eqb (kind_of m) (kind t) ≡ b → a ≡ b
    go m true true e f = refl
    go m true false e f = sym (eq-eqb _ _ (ap kind_of (is→eq t m e))) ∙ f
    go m false true e f = sym e ∙ ap (is t) ((kind_tells t h m).0 (eqb-true _ _ f)) ∙ same_refl (bytes t)
    go m false false e f = refl

-- ---- a reader of one mark

pub record Shown {A : Type 0} (f : Mark → Option A) (g : Found → Option A) : Type 0 where
  pub by_numbers : (m : Mark) (p : ℕ) → f m ≡ g (found m p)
  pub not_the_end : (e : ℕ) → g (step_end e).mark ≡ none

-- the mark fits, or reading stops before it
abbrev pub shown : {A : Type 0} → Option A → Place → Place → ℕ → Result A
shown none here behind n = stop out_of_shape here
shown (some a) here behind n = ok a (at behind n)

took_shown : {A : Type 0} (o : Option A) (m : Mark) (p : ℕ) (ms : Place) (n : ℕ) → took o (placed m p) ms n ≡ shown o (placed m p ∷ ms) ms n
took_shown none m p ms n = refl
took_shown (some a) m p ms n = refl

pub seen : {A : Type 0} (f : Mark → Option A) (g : Found → Option A) → Shown f g → (s : List ℕ) (i : ℕ) (x : Step) → Next s i x → (n : ℕ)
    → first f (marks_at 0 s i) n ≡ shown (g x.mark) (marks_at 0 s i) (marks_at 0 s x.next.at) n
seen f g h s i _ (end e) n = rw (e, h.not_the_end (length s))
seen f g h s i _ (one m p next l e) n = rw (e, took_shown (f m) m p (marks_at 0 s next) n, h.by_numbers m p)

pub next_seen : (t : String) → Told t → (s : List ℕ) (i : ℕ) (x : Step) → Next s i x → next_is t (marks_at 0 s i) ≡ eqb x.mark.kind (kind t)
next_seen t h s i _ (end e) = rw e (sym h.end)
next_seen t h s i _ (one m p next l e) = rw e (h.mark m)

-- ---- which are of that kind

abbrev pub sign_by : String → Found → Option (Unit {0})
sign_by t y = given (eqb y.kind (kind t))

pub sign_shown : (t : String) → Told t → Shown (λ m. given (is t m)) (sign_by t)
sign_shown t h = record { by_numbers = λ m p. ap given (h.mark m); not_the_end = λ e. ap given h.end }

abbrev pub value_by : ℕ → Found → Option ℕ
value_by v y = when eqb y.kind v then some y.value else none

-- a sign or a word is of none of the other kinds
no_text : (s : List ℕ) (v : ℕ) (f : Mark → Mark) → ((m : Mark) → kind_of m ≡ v → m ≡ f m) → (text s ≡ f (text s) → ⊥) → eqb (kind_in knowns s) v ≡ false
no_text s v f h g = ne_eqb (kind_in knowns s) v (λ e. g (h (text s) e))

no_number : (s : List ℕ) → eqb (kind_in knowns s) k_number ≡ false
no_number s = no_text s k_number (λ m. number (value_of m)) kind_number (λ e. let z : ◌≡◌ {A = ℕ} 0 1 = cc in omega arith)

pub seat_shown : Shown seat_of (value_by k_seat)
seat_shown = record { by_numbers = go; not_the_end = λ e. refl }
  where
    go : (m : Mark) (p : ℕ) → seat_of m ≡ value_by k_seat (found m p)
    go (text s) p = rw (no_text s k_seat (λ m. seat (value_of m)) kind_seat (λ e. let z : ◌≡◌ {A = ℕ} 0 1 = cc in omega arith))
    go (seat i) p = refl
    go (process i) p = refl
    go (number v) p = refl
    go (decimal v n f) p = refl
    go outside p = refl

pub process_shown : Shown process_of (value_by k_process)
process_shown = record { by_numbers = go; not_the_end = λ e. refl }
  where
    go : (m : Mark) (p : ℕ) → process_of m ≡ value_by k_process (found m p)
    go (text s) p = rw (no_text s k_process (λ m. process (value_of m)) kind_process (λ e. let z : ◌≡◌ {A = ℕ} 0 1 = cc in omega arith))
    go (seat i) p = refl
    go (process i) p = refl
    go (number v) p = refl
    go (decimal v n f) p = refl
    go outside p = refl

number_by : (m : Mark) (p : ℕ) → number_of m ≡ value_by k_number (found m p)
number_by (text s) p = rw (no_number s)
number_by (seat i) p = refl
number_by (process i) p = refl
number_by (number v) p = refl
number_by (decimal v n f) p = refl
number_by outside p = refl

pub number_shown : Shown number_of (value_by k_number)
number_shown = record { by_numbers = number_by; not_the_end = λ e. refl }

pub zero_shown : Shown zero_of (λ y. only_zero (value_by k_number y))
zero_shown = record { by_numbers = λ m p. ap only_zero (number_by m p); not_the_end = λ e. refl }

abbrev pub weight_by : Found → Option Weight
weight_by y = when eqb y.kind k_number then some (whole y.value) else (when eqb y.kind k_decimal then some (point y.value y.digits y.further) else none)

pub weight_shown : Shown weight_of weight_by
weight_shown = record { by_numbers = go; not_the_end = λ e. refl }
  where
    go : (m : Mark) (p : ℕ) → weight_of m ≡ weight_by (found m p)
    go (text s) p = rw (no_number s, no_text s k_decimal (λ m. decimal (value_of m) (digits_of m) (further_of m)) kind_decimal (λ e. let z : ◌≡◌ {A = ℕ} 0 1 = cc in omega arith))
    go (seat i) p = refl
    go (process i) p = refl
    go (number v) p = refl
    go (decimal v n f) p = refl
    go outside p = refl

abbrev pub mode_by : Found → Option Mode
mode_by y = when eqb y.kind (kind "nondeterministic") then some nondeterministic else (when eqb y.kind (kind "probabilistic") then some probabilistic else none)

pub mode_shown : Shown mode_of mode_by
mode_shown = record { by_numbers = λ m p. rw ((told "nondeterministic" (omega arith)).mark m, (told "probabilistic" (omega arith)).mark m); not_the_end = λ e. refl }
