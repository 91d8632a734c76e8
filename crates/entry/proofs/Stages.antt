-- A `do` block of stages: a refusal is given exactly where the stages before pass and a stage refuses so, and a value is said exactly where
-- all pass. Whether other stages may give the same refusal is asked at one number and place, and mostly computed from their numbers.
-- Assumes nothing.
use Prim.Native.Nat.{ℕ, ◌≤◌, ◌<◌}
use mathlib.Core.Path.{◌≡◌, refl, sym, ap, ◌∙◌}
use mathlib.Core.Bool.{Bool, true, false, ◌&&◌, false≢true}
use mathlib.Core.Logic.{◌↔◌, ◌⊎◌, inl, inr}
use mathlib.Core.List.{[], ◌∷◌, ◌++◌}
use native.Mathlib.Omega.{arith}
use lib.Dec.{leb, ltb}
use borrow.Author.Tests.{le-leb, lt-leb, leb-true, ltb-true}
use Rattle.card.specs.Text.{when◌then◌else◌}
use Rattle.entry.specs.Said.{Said, says, refused, ◌>>=◌, unless, said_number, beside_of}
use Rattle.entry.specs.Stage.{Passes, Stage}
use Rattle.entry.proofs.Exactly.{◌↔∙◌, under}
use Rattle.entry.specs.Numbers.{Span, Numbers, only, inside, among, past, clear, apart, up_to, Among}

-- ---- what is said, taken apart

module _ {A : Type 0} where
  pub says≢refused : {C : Type 0} {a : A} {r p : ℕ} → says a ≡ refused r p → C
  says≢refused e = let z : ◌≡◌ {A = ℕ} 0 1 = cc in absurd (omega arith)

  pub same_number : {r s p q : ℕ} → ◌≡◌ {A = Said A} (refused r p) (refused s q) → r ≡ s
  same_number e = ap said_number e

  pub same_place : {r s p q : ℕ} → ◌≡◌ {A = Said A} (refused r p) (refused s q) → p ≡ q
  same_place e = ap (beside_of (λ a. 0)) e

  pub same_said : {a b : A} → says a ≡ says b → a ≡ b
  same_said e = cc

  refused_alike : {B : Type 0} {r s p q : ℕ} → ◌≡◌ {A = Said A} (refused r p) (refused s q) → ◌≡◌ {A = Said B} (refused r p) (refused s q)
  refused_alike e = rw (same_number e, same_place e)

-- ---- one stage and those behind it

module _ {A B : Type 0} where
  -- a refusal that no later stage gives
  pub first : (x : Said A) (f : A → Said B) (r p : ℕ) → ((a : A) → f a ≡ refused r p → ⊥) → (x >>= f ≡ refused r p) ↔ (x ≡ refused r p)
  first (says a) f r p h = (λ e. absurd (h a e), λ e. says≢refused e)
  first (refused s q) f r p h = (λ e. refused_alike e, λ e. refused_alike e)

  module _ {W : Type 0} {v : W → A} where
    -- a refusal that this stage does not give
    pub after : (x : Said A) (f : A → Said B) → Passes x W v → (r p : ℕ) → (x ≡ refused r p → ⊥) → (x >>= f ≡ refused r p) ↔ ((w : W) × (f (v w) ≡ refused r p))
    after x f ok r p h = (forth x refl, λ z. ap (λ (y : Said A). y >>= f) (ok.each z.0) ∙ z.1)
      where
        forth : (y : Said A) → x ≡ y → y >>= f ≡ refused r p → (w : W) × (f (v w) ≡ refused r p)
        forth (says a) k e = let (w, at) = ok.only a k in (w, sym (ap f at) ∙ e)
        forth (refused s q) k e = absurd (h (k ∙ refused_alike e))

    -- where both may give it
    pub either : (x : Said A) (f : A → Said B) → Passes x W v → (r p : ℕ) → (x >>= f ≡ refused r p) ↔ ((x ≡ refused r p) ⊎ ((w : W) × (f (v w) ≡ refused r p)))
    either x f ok r p = (forth x refl, back)
      where
        forth : (y : Said A) → x ≡ y → y >>= f ≡ refused r p → (x ≡ refused r p) ⊎ ((w : W) × (f (v w) ≡ refused r p))
        forth (says a) k e = let (w, at) = ok.only a k in inr (w, sym (ap f at) ∙ e)
        forth (refused s q) k e = inl (k ∙ refused_alike e)

        back : (x ≡ refused r p) ⊎ ((w : W) × (f (v w) ≡ refused r p)) → x >>= f ≡ refused r p
        back (inl e) = ap (λ (y : Said A). y >>= f) e
        back (inr z) = ap (λ (y : Said A). y >>= f) (ok.each z.0) ∙ z.1

    -- what is said where all pass
    pub passes_then : {U : W → Type 0} {u : (w : W) → U w → B} (x : Said A) (f : A → Said B) → Passes x W v → ((w : W) → Passes (f (v w)) (U w) (u w))
        → Passes (x >>= f) ((w : W) × U w) (λ (z : (w : W) × U w). u z.0 z.1)
    passes_then {U} {u} x f ok each = record { each = λ z. ap (λ (y : Said A). y >>= f) (ok.each z.0) ∙ (each z.0).each z.1; only = λ b e. go b x refl e }
      where
        go : (b : B) (y : Said A) → x ≡ y → y >>= f ≡ says b → (z : (w : W) × U w) × (b ≡ u z.0 z.1)
        go b (says a) k e = let (w, at) = ok.only a k in let (z, is) = (each w).only b (sym (ap f at) ∙ e) in ((w, z), is)
        go b (refused s q) k e = says≢refused (sym e)

module _ {A : Type 0} where
  pub passes_says : (a : A) → Passes (says a) (Unit {0}) (λ _. a)
  passes_says a = record { each = λ _. refl; only = λ b e. (tt, sym (same_said e)) }

  -- in a stage's own words
  pub passes_itself : (x : Said A) → Passes x ((a : A) × (x ≡ says a)) (λ w. w.0)
  passes_itself x = record { each = λ w. w.1; only = λ a e. ((a, e), refl) }

  -- the same, found in other words
  pub passes_as : {W U : Type 0} {v : W → A} {u : U → A} {x : Said A} → Passes x W v → (to : W → U) (of : U → W)
      → ((w : W) → v w ≡ u (to w)) → ((z : U) → v (of z) ≡ u z) → Passes x U u
  passes_as ok to of there here = record {
    each = λ z. ok.each (of z) ∙ ap says (here z);
    only = λ a e. let (w, at) = ok.only a e in (to w, at ∙ there w);
  }

-- a stage and the value of what it found
pub passes_return : {A B W : Type 0} {v : W → A} (x : Said A) (f : A → B) → Passes x W v → Passes (x >>= (λ (a : A). says (f a))) W (λ w. f (v w))
passes_return {A} {B} {W} {v} x f ok = record { each = λ w. ap (λ (y : Said A). y >>= (λ (a : A). says (f a))) (ok.each w); only = λ b e. go b x refl e }
  where
    go : (b : B) (y : Said A) → x ≡ y → y >>= (λ (a : A). says (f a)) ≡ says b → (w : W) × (b ≡ f (v w))
    go b (says a) k e = let (w, at) = ok.only a k in (w, sym (same_said e) ∙ ap f at)
    go b (refused s q) k e = says≢refused (sym e)

-- a test
module _ (r p : ℕ) where
  pub passes_unless : (b : Bool) → Passes (unless b r p) (b ≡ true) (λ _. tt)
  passes_unless true = record { each = λ _. refl; only = λ a e. (refl, refl) }
  passes_unless false = record { each = λ e. absurd (false≢true e); only = λ a e. says≢refused (sym e) }

  pub refused_unless : (b : Bool) (q : ℕ) → (unless b r p ≡ refused r q) ↔ ((b ≡ false) × (q ≡ p))
  refused_unless true q = (λ e. says≢refused e, λ h. absurd (false≢true (sym h.0)))
  refused_unless false q = (λ e. (refl, sym (same_place e)), λ h. rw h.1)

-- ---- numbers

both_true : (a b : Bool) → a && b ≡ true → (a ≡ true) × (b ≡ true)
both_true true b e = (refl, e)
both_true false b e = absurd (false≢true e)

not_second : (a b : Bool) → b ≡ false → a && b ≡ false
not_second true b e = e
not_second false b e = refl

within : (s : Span) (r : ℕ) → inside s r ≡ true → (s.from ≤ r) × (r ≤ s.to)
within s r e =
    let (a, b) = both_true (leb s.from r) (leb r s.to) e in
    (leb-true s.from r a, leb-true r s.to b)

below_out : (t : Span) (r : ℕ) → r < t.from → inside t r ≡ false
below_out t r h = rw (lt-leb t.from r h)

above_out : (t : Span) (r : ℕ) → t.to < r → inside t r ≡ false
above_out t r h = not_second (leb t.from r) (leb r t.to) (lt-leb r t.to h)

past_out : (s t : Span) (r : ℕ) → inside s r ≡ true → past s t ≡ true → inside t r ≡ false
past_out s t r h e = go (ltb s.to t.from) refl
  where
    in_s : (s.from ≤ r) × (r ≤ s.to)
    in_s = within s r h

    go : (b : Bool) → ltb s.to t.from ≡ b → inside t r ≡ false
    go true k = below_out t r (omega (arith, in_s.1, ltb-true s.to t.from k))
    go false k =
        let l : ltb t.to s.from ≡ true = rw k at e in
        above_out t r (omega (arith, in_s.0, ltb-true t.to s.from l))

clear_out : (s : Span) (ms : Numbers) (r : ℕ) → inside s r ≡ true → clear s ms ≡ true → among ms r ≡ false
clear_out s [] r h e = refl
clear_out s (t ∷ ms) r h e =
    let (a, b) = both_true (past s t) (clear s ms) e in
    rw (past_out s t r h a) (clear_out s ms r h b)

module _ {C : Type 0} where
  by_test : (b c : Bool) → (b ≡ true → C) → (c ≡ true → C) → when b then true else c ≡ true → C
  by_test true c f g e = f refl
  by_test false c f g e = g e

else_true : (b c : Bool) → c ≡ true → when b then true else c ≡ true
else_true true c e = refl
else_true false c e = e

pub apart_out : (ns ms : Numbers) (r : ℕ) → apart ns ms ≡ true → among ns r ≡ true → among ms r ≡ false
apart_out [] ms r e h = absurd (false≢true h)
apart_out (s ∷ ns) ms r e h =
    let (a, b) = both_true (clear s ms) (apart ns ms) e in
    by_test (inside s r) (among ns r) (λ k. clear_out s ms r k a) (λ k. apart_out ns ms r b k) h

among_left : (ns ms : Numbers) (r : ℕ) → among ns r ≡ true → among (ns ++ ms) r ≡ true
among_left [] ms r h = absurd (false≢true h)
among_left (s ∷ ns) ms r h =
    by_test (inside s r) (among ns r) (λ k. rw k) (λ k. else_true (inside s r) (among (ns ++ ms) r) (among_left ns ms r k)) h

among_right : (ns ms : Numbers) (r : ℕ) → among ms r ≡ true → among (ns ++ ms) r ≡ true
among_right [] ms r h = h
among_right (s ∷ ns) ms r h = else_true (inside s r) (among (ns ++ ms) r) (among_right ns ms r h)

pub among_up_to : (ns : Numbers) (r m : ℕ) → among ns r ≡ true → up_to ns m ≡ true → r ≤ m
among_up_to [] r m h e = absurd (false≢true h)
among_up_to (s ∷ ns) r m h e =
    let (a, b) = both_true (leb s.to m) (up_to ns m) e in
    by_test (inside s r) (among ns r) (λ k. omega (arith, (within s r k).1, leb-true s.to m a)) (λ k. among_up_to ns r m k b) h

-- by the span that a number is of
abbrev pub EachSpan : (r : ℕ) → Type 0 → Numbers → Type 0
EachSpan r P [] = Unit {0}
EachSpan r P (s ∷ ns) = (s.from ≤ r → r ≤ s.to → P) × EachSpan r P ns

pub by_span : {P : Type 0} (ns : Numbers) (r : ℕ) → among ns r ≡ true → EachSpan r P ns → P
by_span [] r h f = absurd (false≢true h)
by_span (s ∷ ns) r h f = by_test (inside s r) (among ns r) (λ k. f.0 (within s r k).0 (within s r k).1) (λ k. by_span ns r k f.1) h

-- a number of a span
pub in_span : (a b r : ℕ) → a ≤ r → r ≤ b → inside (record { from = a; to = b }) r ≡ true
in_span a b r h k = rw (le-leb a r h, le-leb r b k)

module _ {A : Type 0} {ns : Numbers} {x : Said A} (n : Among ns x) where
  -- a number that is none of a stage's
  pub silent : (r p : ℕ) → among ns r ≡ false → x ≡ refused r p → ⊥
  silent r p h e = false≢true (sym h ∙ n.number r p e)

module _ {A : Type 0} where
  pub among_says : (a : A) → Among [] (says a)
  among_says a = record { number = λ r p e. says≢refused e }

  pub among_refused : (r p : ℕ) → Among {A = A} (only r) (refused r p)
  among_refused r p = record { number = λ s q e. rw (← same_number e, in_span r r r (omega arith) (omega arith)) }

pub among_unless : (b : Bool) (r p : ℕ) → Among (only r) (unless b r p)
among_unless true r p = record { number = λ s q e. says≢refused e }
among_unless false r p = among_refused r p

module _ {A B : Type 0} where
  pub among_then : {ns ms : Numbers} (x : Said A) (f : A → Said B) → Among ns x → ((a : A) → Among ms (f a)) → Among (ns ++ ms) (x >>= f)
  among_then {ns} {ms} (says a) f n m = record { number = λ r p e. among_right ns ms r ((m a).number r p e) }
  among_then {ns} {ms} (refused s q) f n m = record { number = λ r p e. among_left ns ms r (n.number r p (refused_alike e)) }

-- ---- stages with all that is known of them

module _ {A : Type 0} where
  pub itself : {x : Said A} {ns : Numbers} → Among ns x → Stage x ns ((a : A) × (x ≡ says a)) (λ w. w.0)
  itself {x} n = record { numbers = n; found = passes_itself x }

pub test : (b : Bool) (r p : ℕ) → Stage (unless b r p) (only r) (b ≡ true) (λ _. tt)
test b r p = record { numbers = among_unless b r p; found = passes_unless r p b }

module _ {A B W : Type 0} {v : W → A} {x : Said A} {ns : Numbers} (s : Stage x ns W v) where
  -- a value of what was found, as the last line of a block
  pub value : (f : A → B) → Stage (x >>= (λ (a : A). says (f a))) (ns ++ []) W (λ w. f (v w))
  value f = record { numbers = among_then x (λ (a : A). says (f a)) s.numbers (λ a. among_says (f a)); found = passes_return x f s.found }

  -- the stages behind it
  pub followed : {ms : Numbers} {U : W → Type 0} {u : (w : W) → U w → B} (f : A → Said B) → ((a : A) → Among ms (f a)) → ((w : W) → Passes (f (v w)) (U w) (u w))
      → Stage (x >>= f) (ns ++ ms) ((w : W) × U w) (λ z. u z.0 z.1)
  followed f m ok = record { numbers = among_then x f s.numbers m; found = passes_then x f s.found ok }

  -- its own refusals, and theirs
  pub its : {ms : Numbers} (f : A → Said B) → ((a : A) → Among ms (f a)) → (r p : ℕ) → among ms r ≡ false → (x >>= f ≡ refused r p) ↔ (x ≡ refused r p)
  its f m r p h = first x f r p (λ a. silent (m a) r p h)

  pub beyond : {P : W → Type 0} (f : A → Said B) (r p : ℕ) → among ns r ≡ false → ((w : W) → (f (v w) ≡ refused r p) ↔ P w) → (x >>= f ≡ refused r p) ↔ ((w : W) × P w)
  beyond f r p h each = after x f s.found r p (silent s.numbers r p h) ↔∙ under each

  pub last : (f : A → B) (r p : ℕ) → (x >>= (λ (a : A). says (f a)) ≡ refused r p) ↔ (x ≡ refused r p)
  last f r p = first x (λ (a : A). says (f a)) r p (λ a e. says≢refused e)
