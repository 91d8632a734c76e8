-- How answers go together as readers do: behind a part that was read the next reader goes on from the part's cursor, and a stop is
-- handed on. Assumes nothing.
use Prim.Native.Nat.{ℕ}
use Prim.Native.String.{String}
use mathlib.Core.Path.{◌≡◌, refl, ap, subst}
use mathlib.Core.List.{List}
use Rattle.std.specs.Prelude.{Ok, Err, IsErrAnd}
use mathlib.Core.Option.{Option, none, some}
use borrow.Author.Tests.{eq-eqb, ne_eqb}
use Rattle.card.specs.Refusals.{out_of_shape}
use Rattle.marks_on_a_card.specs.Marks.{Mark}
use Rattle.marks_on_a_card.specs.Kinds.{kind}
use Rattle.marks.specs.declared.Found.{Found}
use Rattle.marks.specs.declared.Step.{Step}
use Rattle.reading.specs.Reader.{Place, at, Result, ok, stop, Reader, bind, return, the, if_next}
use Rattle.late.specs.declared.state.State.{State as Carried}
use Rattle.late.specs.Settled.{Refusal, refusal}
use Rattle.late.specs.State.{NextPlace, After, after, Halted}
use Rattle.parts.specs.Parts.{from, Answers, Told}
use Rattle.parts.proofs.Steps.{Next, place_seen, next_seen, Shown, seen}

-- what `?` hands on
pub returned : (r : NextPlace) (e : Refusal) → IsErrAnd r (λ x. x ≡ e) → r ≡ Err e
returned (Ok i) e h = absurd h
returned (Err x) e h = ap Err h

-- what a reader is that returns this refusal
pub stopped : {n p : ℕ} (state : Carried) → Halted n p (after state (Err (refusal n p)))
stopped state = record { refused = refl }

-- what has a next place did not stop
pub went_on : {B : Type 0} {state : Carried} {i n p : ℕ} → Halted n p (after state (Ok i)) → B
went_on h = let e = h.refused in absurd (cc)

module _ {A B : Type 0} (s : List ℕ) (so : A → Carried → Type 0) (to : B → Carried → Type 0) where
  pub onward : (x : Result A) (f : A → Reader B) (state : Carried) (next : ℕ) (r : After) → Answers s so x (after state (Ok next))
      → ((a : A) (n : ℕ) → so a state → Answers s to (f a (from s next n)) r) → Answers s to (bind x f) r
  onward (ok a b) f state next r y k =
      subst (λ (q : Place). Answers s to (f a (at q b.nodes)) r) y.rest (k a b.nodes y.told)
  onward (stop n p) f state next r y k = went_on y

  pub halted : (x : Result A) (f : A → Reader B) (state : Carried) (e : Refusal) → Answers s so x (after state (Err e)) → Answers s to (bind x f) (after state (Err e))
  halted (ok a b) f state e y = absurd y.rest
  halted (stop n p) f state e y = y

  -- what is made of a part's value
  pub made : (x : Result A) (f : A → B) (r : After) → Answers s so x r → ((a : A) → so a r.state → to (f a) r.state) → Answers s to (bind x (λ a. return (f a))) r
  made (ok a b) f r y h = record { rest = y.rest; told = h a y.told }
  made (stop n p) f r y h = y

-- ---- a reader of one mark, by the cursor's step

module _ {A B : Type 0} (s : List ℕ) (to : B → Carried → Type 0) (f : Mark → Option A) (g : Found → Option A) (h : Shown f g) where
  pub fits : (i : ℕ) (x : Step) → Next s i x → (n : ℕ) (a : A) → g x.mark ≡ some a → (k : A → Reader B) (r : After)
      → Answers s to (k a (from s x.next.at n)) r → Answers s to (bind (the f (from s i n)) k) r
  fits i x v n a e k r y = rw (seen f g h s i x v n, e) y

  pub misses : (i : ℕ) (x : Step) → Next s i x → (n : ℕ) → g x.mark ≡ none → (k : A → Reader B) (r : After) → Halted out_of_shape x.mark.place r
      → Answers s to (bind (the f (from s i n)) k) r
  misses i x v n e k r y = rw (seen f g h s i x v n, e, ← place_seen s i x v) y

-- ---- by the next mark

module _ (t : String) (h : Told t) (s : List ℕ) (i : ℕ) (x : Step) (v : Next s i x) where
  pub if_so : {A : Type 0} → x.mark.kind ≡ kind t → (p q : Reader A) (n : ℕ) → if_next t p q (from s i n) ≡ p (from s i n)
  if_so e p q n = rw (next_seen t h s i x v, eq-eqb x.mark.kind (kind t) e)

  pub if_not : {A : Type 0} → (x.mark.kind ≡ kind t → ⊥) → (p q : Reader A) (n : ℕ) → if_next t p q (from s i n) ≡ q (from s i n)
  if_not e p q n = rw (next_seen t h s i x v, ne_eqb x.mark.kind (kind t) e)

module _ {A : Type 0} (s : List ℕ) (so : A → Carried → Type 0) (t : String) (h : Told t) (p q : Reader A) (i : ℕ) (x : Step) (v : Next s i x) (n : ℕ) (r : After) where
  pub next_is : x.mark.kind ≡ kind t → Answers s so (p (from s i n)) r → Answers s so (if_next t p q (from s i n)) r
  next_is e y = rw (if_so t h s i x v e p q n) y

  pub next_is_not : (x.mark.kind ≡ kind t → ⊥) → Answers s so (q (from s i n)) r → Answers s so (if_next t p q (from s i n)) r
  next_is_not e y = rw (if_not t h s i x v e p q n) y
