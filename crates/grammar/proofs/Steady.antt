-- A steady reader: what it does up to where it ends or stops, it does whatever follows there; where it ends, the marks behind it were such
-- a thing; where it stops, the marks before it can be completed to one. One lemma for each way in which readers are put together.
-- Two readers p and q stand side by side, for one step behind two different beginnings. Assumes nothing.
use Prim.Native.Nat.{ℕ, zero, suc}
use Prim.Native.String.{String}
use mathlib.Core.Path.{◌≡◌, refl, sym, ap, ◌∙◌}
use mathlib.Core.Logic.{◌⊎◌, inl, inr}
use mathlib.Core.Bool.{Bool, true, false, false≢true}
use mathlib.Core.List.{[], ◌∷◌, ◌++◌, append_assoc, append_cancel_right, head?}
use mathlib.Core.Option.{Option, none, some}
use Rattle.card.specs.Refusals.{out_of_shape, past_limit}
use Rattle.card.specs.Text.{bytes, when◌then◌else◌}
use Rattle.marks_on_a_card.specs.Marks.{Mark, text, Placed, placed}
use Rattle.reading.specs.Reader.{Place, State, at, Result, ok, stop, Reader, bind, ◌>>=◌, return, refuse, took, the, is, next_is, if_next, given, sign, here, node}
use Rattle.reading.specs.Guard.{seat_next, test_next}
use Rattle.grammar.specs.Grammar.{Said, sign_at}
use Rattle.reading.proofs.Through.{same_refl, none≢some, is→eq, stop≢ok, ok_state, through, chose, the_took}

-- ---- languages: `L ms r`, the marks ms begin with one of these and go on with r

abbrev pub Lang : Type 1
Lang = Place → Place → Type 0

abbrev pub Nil : Lang
Nil ms r = ms ≡ r

infixr 40 ◌then◌
infixr 30 ◌either◌
abbrev pub ◌then◌ : Lang → Lang → Lang
(L then M) ms r = (q : Place) × L ms q × M q r

abbrev pub ◌either◌ : Lang → Lang → Lang
(L either M) ms r = L ms r ⊎ M ms r

-- one mark of a kind
abbrev pub One : {A : Type 0} → (Mark → Option A) → Lang
One {A} f ms r = (m : Mark) × (p : ℕ) × (a : A) × (ms ≡ placed m p ∷ r) × (f m ≡ some a)

abbrev pub Mark₁ : String → Lang
Mark₁ t = One (λ m. given (is t m))

-- whatever it says
abbrev pub Saying : {A : Type 0} → Said A → Lang
Saying {A} S ms r = (a : A) × S ms a r

abbrev pub Word : Lang → Type 0
Word L = (w : Place) × ((t : Place) → L (w ++ t) t)

-- ---- what a reader looks at beyond where it ends or stops

abbrev pub SameHead : Place → Place → Type 0
SameHead x y = head? x ≡ head? y

abbrev pub rest : Place → Place
rest [] = []
rest (m ∷ ms) = ms

-- behind an opening bracket, what is looked for there
abbrev pub SameBracket : {B : Type 0} → (Place → B) → Place → Place → Type 0
SameBracket look x y = next_is "(" x ≡ true → look (rest x) ≡ look (rest y)

abbrev pub Alike : {B : Type 0} → (Place → B) → ℕ → Place → Place → Type 0
Alike look n x y = SameHead x y × (n ≡ past_limit → SameBracket look x y)

pub head_append : (p x y : Place) → SameHead x y → SameHead (p ++ x) (p ++ y)
head_append [] x y h = h
head_append (m ∷ p) x y h = refl

pub some_eq : {A : Type 0} {a b : A} → some a ≡ some b → a ≡ b
some_eq e = cc

pub next_head : (t : String) (x y : Place) → SameHead x y → next_is t x ≡ next_is t y
next_head t [] [] h = refl
next_head t [] (m ∷ y) h = none≢some h
next_head t (m ∷ x) [] h = none≢some (sym h)
next_head t (placed m p ∷ x) (placed k q ∷ y) h = let z : placed m p ≡ placed k q = some_eq h in let w : m ≡ k = cc in ap (is t) w

pub seat_head : (x y : Place) → SameHead x y → seat_next x ≡ seat_next y
seat_head [] [] h = refl
seat_head [] (m ∷ y) h = none≢some h
seat_head (m ∷ x) [] h = none≢some (sym h)
seat_head (placed m p ∷ x) (placed k q ∷ y) h = let z : placed m p ≡ placed k q = some_eq h in let w : m ≡ k = cc in ap (λ k. seat_next (placed k 0 ∷ [])) w

pub test_head : (shared : Bool) (x y : Place) → SameHead x y → test_next shared x ≡ test_next shared y
test_head shared x y h = rw (seat_head x y h, next_head "g" x y h)

-- ---- what two values of one step have in common

pub data Bond : Type 0 where
  free tied : Bond

abbrev pub Bound : {A : Type 0} → Bond → A → A → Type 0
Bound free a b = Unit {0}
Bound tied a b = a ≡ b

pub bound : {A : Type 0} (b : Bond) (a : A) → Bound b a a
bound free a = tt
bound tied a = refl

-- ---- steady readers

pub record Passed {A : Type 0} (b : Bond) (L : Lang) (q : Reader A) (s : State) (a : A) (s₁ : State) : Type 0 where
  pub pre : Place
  pub split : s.marks ≡ pre ++ s₁.marks
  pub said : (t : Place) → L (pre ++ t) t
  pub same : (y : Place) → SameHead s₁.marks y → (a₁ : A) × (q (at (pre ++ y) s.nodes) ≡ ok a₁ (at y s₁.nodes)) × Bound b a a₁

-- before a mark that does not fit, or with one that passes a limit
pub data Cause {B : Type 0} (look : Place → B) (L : Lang) (pre : Place) (n : ℕ) (r : Place) : Type 0 where
  unfit : n ≡ out_of_shape → (post : Place) → ((t : Place) → L (pre ++ (post ++ t)) t) → Cause look L pre n r
  excess : n ≡ past_limit → (m : Placed) (x post : Place) → r ≡ m ∷ x → ((t : Place) → SameBracket look (m ∷ x) (m ∷ (post ++ t)))
      → ((t : Place) → L (pre ++ (m ∷ (post ++ t))) t)
      → Cause look L pre n r

pub record Stopped {A B : Type 0} (look : Place → B) (L : Lang) (q : Reader A) (s : State) (n : ℕ) (r : Place) : Type 0 where
  pub pre : Place
  pub split : s.marks ≡ pre ++ r
  pub cause : Cause look L pre n r
  pub same : (y : Place) → Alike look n r y → q (at (pre ++ y) s.nodes) ≡ stop n y

-- on marks of which P holds
pub record Steady {A B : Type 0} (look : Place → B) (P : Place → Type 0) (b : Bond) (L : Lang) (p q : Reader A) : Type 0 where
  pub passes : (s s₁ : State) (a : A) → P s.marks → p s ≡ ok a s₁ → Passed b L q s a s₁
  pub stops : (s : State) (n : ℕ) (r : Place) → P s.marks → p s ≡ stop n r → Stopped look L q s n r
  pub word : Word L
  pub sample : A

abbrev pub Always : Place → Type 0
Always ms = Unit {0}

abbrev pub Next : String → Place → Type 0
Next t ms = next_is t ms ≡ true

-- ---- stops

module _ {A : Type 0} where
  pub ok≢stop : {B : Type 0} {n : ℕ} {r : Place} {a : A} {s : State} → ok a s ≡ stop n r → B
  ok≢stop e = stop≢ok (sym e)

  pub stop_number : {n k : ℕ} {x y : Place} → ◌≡◌ {A = Result A} (stop n x) (stop k y) → n ≡ k
  stop_number e = cc

  pub stop_place : {n k : ℕ} {x y : Place} → ◌≡◌ {A = Result A} (stop n x) (stop k y) → x ≡ y
  stop_place e = cc

-- it stopped in the one or in the other
pub stopped : {A B : Type 0} (x : Result A) (f : A → Reader B) (n : ℕ) (r : Place) (C : Type 0)
    → (x ≡ stop n r → C) → ((a : A) (s₁ : State) → x ≡ ok a s₁ → f a s₁ ≡ stop n r → C) → bind x f ≡ stop n r → C
stopped (ok a s) f n r C h k e = k a s refl e
stopped {A} {B} (stop m ms) f n r C h k e =
    let p : m ≡ n = stop_number {A = B} e in
    let q : ms ≡ r = stop_place {A = B} e in
    h (rw (p, q))

pub chose_stop : {A : Type 0} (b : Bool) (p q : Reader A) (s : State) (n : ℕ) (r : Place) (C : Type 0) → (b ≡ true → p s ≡ stop n r → C)
    → (b ≡ false → q s ≡ stop n r → C)
    → (when b then p else q) s ≡ stop n r → C
chose_stop true p q s n r C f g e = f refl e
chose_stop false p q s n r C f g e = g refl e

-- ---- a mark that decides what follows, and whose own place may be refused behind it

abbrev pub OneThen : {B : Type 0} → (Mark → Option B) → (B → Lang) → Lang
OneThen {B} f M ms r = (m : Mark) × (p : ℕ) × (v : B) × (q : Place) × (ms ≡ placed m p ∷ q) × (f m ≡ some v) × M v q r

-- at the mark m, at p, before the marks of the state
abbrev pub At : {A B : Type 0} → (Place → B → Reader A) → Mark → ℕ → B → Reader A
At F m p v = λ s. F (placed m p ∷ s.marks) v s

pub record Refused {A C : Type 0} (look : Place → C) (M : Lang) (q : Reader A) (m : Placed) (ms : Place) (k n : ℕ) (r : Place) : Type 0 where
  pub number : n ≡ past_limit
  pub place : r ≡ m ∷ ms
  pub post : Place
  pub bracket : (t : Place) → SameBracket look (m ∷ ms) (m ∷ (post ++ t))
  pub said : (t : Place) → M (post ++ t) t
  pub same : (y : Place) → SameBracket look (m ∷ ms) (m ∷ y) → q (at y k) ≡ stop past_limit (m ∷ y)

pub record Behind {A B C : Type 0} (look : Place → C) (b : Bond) (f : Mark → Option B) (M : B → Lang) (F G : Place → B → Reader A) : Type 0 where
  pub passes : (m : Mark) (p : ℕ) (v : B) → f m ≡ some v → (s s₁ : State) (a : A) → At F m p v s ≡ ok a s₁ → Passed b (M v) (At G m p v) s a s₁
  pub stops : (m : Mark) (p : ℕ) (v : B) → f m ≡ some v → (s : State) (n : ℕ) (r : Place) → At F m p v s ≡ stop n r
      → Stopped look (M v) (At G m p v) s n r ⊎ Refused look (M v) (At G m p v) (placed m p) s.marks s.nodes n r
  pub word : (v : B) → Word (M v)
  pub sample : A

-- ---- whatever is looked for

module _ {A B : Type 0} (q : Reader A) (g : A → Reader B) where
  -- the second on marks that the first left
  twin : (u v y : Place) (n k : ℕ) (a : A) (res : Result B) → q (at (u ++ (v ++ y)) n) ≡ ok a (at (v ++ y) k) → g a (at (v ++ y) k) ≡ res
      → bind (q (at (u ++ v ++ y) n)) g ≡ res
  twin u v y n k a res e e₁ = rw (append_assoc u v y, e) e₁

  moved : (w v : Place) (n : ℕ) (a : A) (y : Place) (res : Result B) → w ≡ v → g a (at (w ++ y) n) ≡ res → g a (at (v ++ y) n) ≡ res
  moved w v n a y res e h = rw e at h

next→cons : (t : String) (ms : Place) → next_is t ms ≡ true → (p : ℕ) × (x : Place) × (ms ≡ sign_at t p ∷ x)
next→cons t [] e = absurd (false≢true e)
next→cons t (placed m p ∷ x) e = (p, x, ap (λ k. placed k p ∷ x) (is→eq t m e))

sign_said : (t : String) (p : ℕ) (r : Place) → Mark₁ t (sign_at t p ∷ r) r
sign_said t p r = (text (bytes t), p, tt, refl, rw (same_refl (bytes t)))

module _ (L M : Lang) where
  word_then : Word L → Word M → Word (L then M)
  word_then (w, f) (v, g) = (w ++ v, λ t. (v ++ t, rw (append_assoc w v t) (f (v ++ t)), g t))

module _ {A : Type 0} (f : Mark → Option A) where
  -- the next mark did not fit
  pub the_stopped : (s : State) (n : ℕ) (r : Place) (C : Type 0)
      → (n ≡ out_of_shape → s.marks ≡ r → ((y : Place) (k : ℕ) → SameHead r y → the f (at y k) ≡ stop out_of_shape y) → C) → the f s ≡ stop n r → C
  the_stopped s n r C c e = go s.marks refl
    where
      none_left : (y : Place) (k : ℕ) → SameHead [] y → the f (at y k) ≡ stop out_of_shape y
      none_left [] k h = refl
      none_left (m ∷ y) k h = none≢some h

      none_fits : (m : Mark) (p : ℕ) (ms : Place) → f m ≡ none → (y : Place) (k : ℕ) → SameHead (placed m p ∷ ms) y → the f (at y k) ≡ stop out_of_shape y
      none_fits m p ms i [] k h = none≢some (sym h)
      none_fits m p ms i (placed o x ∷ y) k h = let z : placed m p ≡ placed o x = some_eq h in let w : m ≡ o = cc in rw (← w, i)

      took_not : (o : Option A) (m : Mark) (p : ℕ) (ms : Place) → s.marks ≡ placed m p ∷ ms → f m ≡ o → took o (placed m p) ms s.nodes ≡ stop n r → C
      took_not none m p ms q i e = c (sym (stop_number {A = A} e)) (q ∙ stop_place {A = A} e) (λ y k h. none_fits m p ms i y k (ap head? (stop_place {A = A} e) ∙ h))
      took_not (some a) m p ms q i e = ok≢stop e

      go : (l : Place) → s.marks ≡ l → C
      go [] q = let z : stop out_of_shape [] ≡ stop n r = rw q at e in c (sym (stop_number {A = A} z)) (q ∙ stop_place {A = A} z) (λ y k h. none_left y k (ap head? (stop_place {A = A} z) ∙ h))
      go (placed m p ∷ ms) q = took_not (f m) m p ms q refl (rw q at e)

-- a test of the next mark that is decided stays so
still : (t : String) (c : Bool) (ms r pre u : Place) → next_is t ms ≡ c → ms ≡ pre ++ r → SameHead r u → next_is t (pre ++ u) ≡ c
still t c ms r pre u h e z = sym (next_head t ms (pre ++ u) (ap head? e ∙ head_append pre r u z)) ∙ h

-- a sign other than an opening bracket
no_bracket : {Look : Type 0} (look : Place → Look) (t : String) → is "(" (text (bytes t)) ≡ false → (p : ℕ) (x y : Place) → SameBracket look (sign_at t p ∷ x) y
no_bracket look t h p x y e = absurd (false≢true (sym h ∙ e))

module _ {Look : Type 0} {look : Place → Look} where
  -- ---- a bigger language

  pub cause_as : {L M : Lang} → ((ms r : Place) → L ms r → M ms r) → {pre : Place} {n : ℕ} {r : Place} → Cause look L pre n r → Cause look M pre n r
  cause_as h (unfit e post f) = unfit e post (λ t. h _ t (f t))
  cause_as h (excess e m x post z k f) = excess e m x post z k (λ t. h _ t (f t))

  module _ {A : Type 0} {P : Place → Type 0} {b : Bond} {L M : Lang} {p q : Reader A} where
    pub steady_as : ((ms r : Place) → L ms r → M ms r) → Steady look P b L p q → Steady look P b M p q
    steady_as h x = record {
      passes = λ s s₁ a y e. let z = x.passes s s₁ a y e in record { pre = z.pre; split = z.split; said = λ t. h _ t (z.said t); same = z.same };
      stops = λ s n r y e. let z = x.stops s n r y e in record { pre = z.pre; split = z.split; cause = cause_as h z.cause; same = z.same };
      word = (x.word.0, λ t. h _ t (x.word.1 t));
      sample = x.sample;
    }

  module _ {A : Type 0} {b : Bond} {L : Lang} {p q : Reader A} where
    -- on fewer marks
    pub steady_under : {P Q : Place → Type 0} → ((ms : Place) → Q ms → P ms) → Steady look P b L p q → Steady look Q b L p q
    steady_under h x = record { passes = λ s s₁ a y. x.passes s s₁ a (h s.marks y); stops = λ s n r y. x.stops s n r (h s.marks y); word = x.word; sample = x.sample }

    pub steady_on : (P : Place → Type 0) → Steady look Always b L p q → Steady look P b L p q
    steady_on P x = steady_under (λ ms h. tt) x

    -- the values forgotten
    pub steady_free : {P : Place → Type 0} → Steady look P b L p q → Steady look P free L p q
    steady_free x = record {
      passes = λ s s₁ a y e. let z = x.passes s s₁ a y e in
          record { pre = z.pre; split = z.split; said = z.said; same = λ t h. let w = z.same t h in (w.0, w.1, tt) };
      stops = x.stops;
      word = x.word;
      sample = x.sample;
    }

  -- ---- one reader after the other

  module _ (L M : Lang) where
    cause_left : (pre : Place) (n : ℕ) (r : Place) → Word M → Cause look L pre n r → Cause look (L then M) pre n r
    cause_left pre n r (w, g) (unfit e post f) = unfit e (post ++ w) (λ t. (w ++ t, rw (append_assoc post w t) (f (w ++ t)), g t))
    cause_left pre n r (w, g) (excess e m x post z k f) =
        excess e m x (post ++ w) z (λ t. rw (append_assoc post w t) (k (w ++ t))) (λ t. (w ++ t, rw (append_assoc post w t) (f (w ++ t)), g t))

    cause_right : (pre pre₁ : Place) (n : ℕ) (r : Place) → ((t : Place) → L (pre ++ t) t) → Cause look M pre₁ n r → Cause look (L then M) (pre ++ pre₁) n r
    cause_right pre pre₁ n r h (unfit e post f) = unfit e post (λ t. (pre₁ ++ (post ++ t), rw (append_assoc pre pre₁ (post ++ t)) (h (pre₁ ++ (post ++ t))), f t))
    cause_right pre pre₁ n r h (excess e m x post z k f) =
        excess e m x post z k (λ t. (pre₁ ++ (m ∷ (post ++ t)), rw (append_assoc pre pre₁ (m ∷ (post ++ t))) (h (pre₁ ++ (m ∷ (post ++ t)))), f t))

  module _ {A B : Type 0} {P Q : Place → Type 0} {b c : Bond} {L M : Lang} {p q : Reader A} {f g : A → Reader B} where
    -- the second on marks of which Q holds behind the first
    pub steady_into : ((s s₁ : State) (a : A) → P s.marks → p s ≡ ok a s₁ → Q s₁.marks) → Steady look P b L p q
        → ((a a₁ : A) → Bound b a a₁ → Steady look Q c M (f a) (g a₁)) → Steady look P c (L then M) (p >>= f) (q >>= g)
    steady_into k x y = record {
      passes = λ s s₁ d h. through (p s) f d s₁ _ λ a s₂ e e₁. passes s s₁ d a s₂ (x.passes s s₂ a h e) (k s s₂ a h e) e₁;
      stops = λ s n r h. stopped (p s) f n r _ (λ e. halts s n r (x.stops s n r h e)) (λ a s₂ e e₁. halts_then s n r a s₂ (x.passes s s₂ a h e) (k s s₂ a h e) e₁);
      word = word_then L M x.word (y x.sample x.sample (bound b x.sample)).word;
      sample = (y x.sample x.sample (bound b x.sample)).sample;
    }
      where
        passes : (s s₁ : State) (d : B) (a : A) (s₂ : State) → Passed b L q s a s₂ → Q s₂.marks → f a s₂ ≡ ok d s₁ → Passed c (L then M) (q >>= g) s d s₁
        passes s s₁ d a s₂ u l e₁ = let v = (y a a (bound b a)).passes s₂ s₁ d l e₁ in record {
          pre = u.pre ++ v.pre;
          split = u.split ∙ ap (λ l. u.pre ++ l) v.split ∙ sym (append_assoc u.pre v.pre s₁.marks);
          said = λ t. (v.pre ++ t, rw (append_assoc u.pre v.pre t) (u.said (v.pre ++ t)), v.said t);
          same = λ t h.
              let (a₁, e₂, r₁) = u.same (v.pre ++ t) (ap head? v.split ∙ head_append v.pre s₁.marks t h) in
              let w = (y a a₁ r₁).passes s₂ s₁ d l e₁ in
              let (d₁, e₃, r₂) = w.same t h in (
                d₁,
                twin q g u.pre v.pre t s.nodes s₂.nodes a₁ _ e₂
                    (moved q g w.pre v.pre s₂.nodes a₁ t _ (append_cancel_right w.pre v.pre s₁.marks (sym w.split ∙ v.split)) e₃),
                r₂,
              );
        }

        halts : (s : State) (n : ℕ) (r : Place) → Stopped look L q s n r → Stopped look (L then M) (q >>= g) s n r
        halts s n r u = record {
          pre = u.pre;
          split = u.split;
          cause = cause_left L M u.pre n r (y x.sample x.sample (bound b x.sample)).word u.cause;
          same = λ t h. rw (u.same t h);
        }

        halts_then : (s : State) (n : ℕ) (r : Place) (a : A) (s₂ : State) → Passed b L q s a s₂ → Q s₂.marks → f a s₂ ≡ stop n r → Stopped look (L then M) (q >>= g) s n r
        halts_then s n r a s₂ u l e₁ = let v = (y a a (bound b a)).stops s₂ n r l e₁ in record {
          pre = u.pre ++ v.pre;
          split = u.split ∙ ap (λ l. u.pre ++ l) v.split ∙ sym (append_assoc u.pre v.pre r);
          cause = cause_right L M u.pre v.pre n r u.said v.cause;
          same = λ t h.
              let (a₁, e₂, r₁) = u.same (v.pre ++ t) (ap head? v.split ∙ head_append v.pre r t h.0) in
              let w = (y a a₁ r₁).stops s₂ n r l e₁ in
              twin q g u.pre v.pre t s.nodes s₂.nodes a₁ _ e₂
              (moved q g w.pre v.pre s₂.nodes a₁ t _ (append_cancel_right w.pre v.pre r (sym w.split ∙ v.split)) (w.same t h));
        }

  module _ {A B : Type 0} {P : Place → Type 0} {b c : Bond} {L M : Lang} {p q : Reader A} {f g : A → Reader B} where
    pub steady_bind : Steady look P b L p q → ((a a₁ : A) → Bound b a a₁ → Steady look Always c M (f a) (g a₁)) → Steady look P c (L then M) (p >>= f) (q >>= g)
    steady_bind x y = steady_into (λ s s₁ a h e. tt) x y

  -- ---- readers of one mark

  module _ {A : Type 0} (f : Mark → Option A) where
    pub steady_the : (m : Mark) (a : A) → f m ≡ some a → Steady look Always tied (One f) (the f) (the f)
    steady_the m a h = record {
      passes = λ s s₁ d _. the_took f s s₁ d _ λ k p q i n. record {
        pre = placed k p ∷ [];
        split = q;
        said = λ t. (k, p, d, refl, i);
        same = λ y _. (d, rw (i, n), refl);
      };
      stops = λ s n r _. the_stopped f s n r _ λ e q k. record {
        pre = [];
        split = q;
        cause = unfit e (placed m 0 ∷ []) (λ t. (m, 0, a, refl, h));
        same = λ y l. rw e (k y s.nodes l.0);
      };
      word = (placed m 0 ∷ [], λ t. (m, 0, a, refl, h));
      sample = a;
    }

  pub steady_sign : (t : String) → Steady look Always free (Mark₁ t) (sign t) (sign t)
  steady_sign t = steady_free (steady_the (λ m. given (is t m)) (text (bytes t)) tt (rw (same_refl (bytes t))))

  -- ---- readers of none

  module _ {A : Type 0} where
    pub steady_return : (a a₁ : A) → Steady look Always free Nil (return a) (return a₁)
    steady_return a a₁ = record {
      passes = λ s s₁ d _ e. record { pre = []; split = ap (λ (x : State). x.marks) (ok_state e); said = λ t. refl; same = λ y h. (a₁, ap (λ (x : State). ok a₁ (at y x.nodes)) (ok_state e), tt) };
      stops = λ s n r _ e. ok≢stop e;
      word = ([], λ t. refl);
      sample = a;
    }

  pub steady_here : Steady look Always free Nil here here
  steady_here = record {
    passes = λ s s₁ d _ e. record { pre = []; split = ap (λ (x : State). x.marks) (ok_state e); said = λ t. refl; same = λ y h. (y, ap (λ (x : State). ok y (at y x.nodes)) (ok_state e), tt) };
    stops = λ s n r _ e. ok≢stop e;
    word = ([], λ t. refl);
    sample = [];
  }

  -- ---- tests of the next mark

  module _ {A : Type 0} {P : Place → Type 0} {b : Bond} {L M : Lang} {p q p₁ q₁ : Reader A} where
    -- one of two readers, by the next mark
    pub steady_choose : (t : String) → Steady look (λ ms. P ms × (next_is t ms ≡ true)) b L p q → Steady look (λ ms. P ms × (next_is t ms ≡ false)) b M p₁ q₁
        → Steady look P b (L either M) (if_next t p p₁) (if_next t q q₁)
    steady_choose t x y = record {
      passes = λ s s₁ a h. chose (next_is t s.marks) p p₁ s s₁ a _
          (λ z e. let w = x.passes s s₁ a (h, z) e in record {
            pre = w.pre;
            split = w.split;
            said = λ u. inl (w.said u);
            same = λ u h. let v = w.same u h in (v.0, rw (still t true s.marks s₁.marks w.pre u z w.split h) v.1, v.2);
          })
          (λ z e. let w = y.passes s s₁ a (h, z) e in record {
            pre = w.pre;
            split = w.split;
            said = λ u. inr (w.said u);
            same = λ u h. let v = w.same u h in (v.0, rw (still t false s.marks s₁.marks w.pre u z w.split h) v.1, v.2);
          });
      stops = λ s n r h. chose_stop (next_is t s.marks) p p₁ s n r _
          (λ z e. let w = x.stops s n r (h, z) e in record {
            pre = w.pre;
            split = w.split;
            cause = cause_as (λ ms r l. inl l) w.cause;
            same = λ u h. rw (still t true s.marks r w.pre u z w.split h.0) (w.same u h);
          })
          (λ z e. let w = y.stops s n r (h, z) e in record {
            pre = w.pre;
            split = w.split;
            cause = cause_as (λ ms r l. inr l) w.cause;
            same = λ u h. rw (still t false s.marks r w.pre u z w.split h.0) (w.same u h);
          });
      word = (y.word.0, λ u. inr (y.word.1 u));
      sample = y.sample;
    }

  module _ {A : Type 0} {b : Bond} {L M : Lang} {p q p₁ q₁ : Reader A} where
    pub steady_next : (t : String) → Steady look (Next t) b L p q → Steady look Always b M p₁ q₁ → Steady look Always b (L either M) (if_next t p p₁) (if_next t q q₁)
    steady_next t x y = steady_choose t (steady_under (λ ms h. h.1) x) (steady_on _ y)

  -- the same where the test is decided
  module _ {A : Type 0} {P : Place → Type 0} {b : Bond} {L : Lang} {p q p₁ q₁ : Reader A} (t : String) where
    pub steady_taken : ((ms : Place) → P ms → next_is t ms ≡ true) → Steady look P b L p q → Steady look P b L (if_next t p p₁) (if_next t q q₁)
    steady_taken k x = record {
      passes = λ s s₁ a h e. let w = x.passes s s₁ a h (rw (k s.marks h) at e) in record {
        pre = w.pre;
        split = w.split;
        said = w.said;
        same = λ u z. let v = w.same u z in (v.0, rw (still t true s.marks s₁.marks w.pre u (k s.marks h) w.split z) v.1, v.2);
      };
      stops = λ s n r h e. let w = x.stops s n r h (rw (k s.marks h) at e) in record {
        pre = w.pre;
        split = w.split;
        cause = w.cause;
        same = λ u z. rw (still t true s.marks r w.pre u (k s.marks h) w.split z.0) (w.same u z);
      };
      word = x.word;
      sample = x.sample;
    }

    pub steady_left : ((ms : Place) → P ms → next_is t ms ≡ false) → Steady look P b L p₁ q₁ → Steady look P b L (if_next t p p₁) (if_next t q q₁)
    steady_left k x = record {
      passes = λ s s₁ a h e. let w = x.passes s s₁ a h (rw (k s.marks h) at e) in record {
        pre = w.pre;
        split = w.split;
        said = w.said;
        same = λ u z. let v = w.same u z in (v.0, rw (still t false s.marks s₁.marks w.pre u (k s.marks h) w.split z) v.1, v.2);
      };
      stops = λ s n r h e. let w = x.stops s n r h (rw (k s.marks h) at e) in record {
        pre = w.pre;
        split = w.split;
        cause = w.cause;
        same = λ u z. rw (still t false s.marks r w.pre u (k s.marks h) w.split z.0) (w.same u z);
      };
      word = x.word;
      sample = x.sample;
    }

  -- one too many, at the sign
  module _ {A : Type 0} {M : Lang} where
    pub steady_limit : (t : String) → is "(" (text (bytes t)) ≡ false → Word M → A
        → Steady look (Next t) free (Mark₁ t then M) (refuse {A = A} past_limit) (refuse {A = A} past_limit)
    steady_limit t h (w, f) a = record {
      passes = λ s s₁ d z e. stop≢ok e;
      stops = λ s n r z e.
          let q : s.marks ≡ r = stop_place {A = A} e in
          let k : n ≡ past_limit = sym (stop_number {A = A} e) in
          let (p, x, c) = next→cons t s.marks z in
          record {
            pre = [];
            split = q;
            cause = excess k (sign_at t p) x w (sym q ∙ c) (λ u. no_bracket look t h p x (sign_at t p ∷ (w ++ u))) (λ u. (w ++ u, sign_said t p (w ++ u), f u));
            same = λ y l. rw k;
          };
      word = (sign_at t 0 ∷ w, λ u. (w ++ u, sign_said t 0 (w ++ u), f u));
      sample = a;
    }

  -- a node that is counted at the sign
  module _ {A : Type 0} {b : Bond} {M : Lang} {k k₁ : Reader A} where
    pub steady_node : (t : String) → is "(" (text (bytes t)) ≡ false → Steady look Always b M k k₁
        → Steady look (Next t) b (Mark₁ t then M) (node >>= λ _. sign t >>= λ _. k) (node >>= λ _. sign t >>= λ _. k₁)
    steady_node t h x = record {
      passes = λ s s₁ a z e. let (p, ms, c) = next→cons t s.marks z in passes s.marks s.nodes s₁ a p ms c e;
      stops = λ s n r z e. let (p, ms, c) = next→cons t s.marks z in stops s.marks s.nodes n r p ms c e;
      word = (sign_at t 0 ∷ x.word.0, λ u. (x.word.0 ++ u, sign_said t 0 (x.word.0 ++ u), x.word.1 u));
      sample = x.sample;
    }
      where
        goes : (c : Reader A) (p : ℕ) (ms : Place) (n : ℕ) → (node >>= λ _. sign t >>= λ _. c) (at (sign_at t p ∷ ms) (suc n)) ≡ c (at ms n)
        goes c p ms n = rw (same_refl (bytes t))

        passes : (ns : Place) (n : ℕ) (s₁ : State) (a : A) (p : ℕ) (ms : Place) → ns ≡ sign_at t p ∷ ms → (node >>= λ _. sign t >>= λ _. k) (at ns n) ≡ ok a s₁
            → Passed b (Mark₁ t then M) (node >>= λ _. sign t >>= λ _. k₁) (at ns n) a s₁
        passes ns zero s₁ a p ms c e = stop≢ok e
        passes ns (suc n) s₁ a p ms c e = let w = x.passes (at ms n) s₁ a tt (sym (goes k p ms n) ∙ rw c at e) in record {
          pre = sign_at t p ∷ w.pre;
          split = c ∙ ap (λ l. sign_at t p ∷ l) w.split;
          said = λ u. (w.pre ++ u, sign_said t p (w.pre ++ u), w.said u);
          same = λ y l. let v = w.same y l in (v.0, goes k₁ p (w.pre ++ y) n ∙ v.1, v.2);
        }

        stops : (ns : Place) (n : ℕ) (i : ℕ) (r : Place) (p : ℕ) (ms : Place) → ns ≡ sign_at t p ∷ ms → (node >>= λ _. sign t >>= λ _. k) (at ns n) ≡ stop i r
            → Stopped look (Mark₁ t then M) (node >>= λ _. sign t >>= λ _. k₁) (at ns n) i r
        stops ns zero i r p ms c e =
            let q : ns ≡ r = stop_place {A = A} e in
            let j : i ≡ past_limit = sym (stop_number {A = A} e) in
            record {
              pre = [];
              split = q;
              cause = excess j (sign_at t p) ms x.word.0 (sym q ∙ c) (λ u. no_bracket look t h p ms (sign_at t p ∷ (x.word.0 ++ u)))
                  (λ u. (x.word.0 ++ u, sign_said t p (x.word.0 ++ u), x.word.1 u));
              same = λ y l. rw j;
            }
        stops ns (suc n) i r p ms c e = let w = x.stops (at ms n) i r tt (sym (goes k p ms n) ∙ rw c at e) in record {
          pre = sign_at t p ∷ w.pre;
          split = c ∙ ap (λ l. sign_at t p ∷ l) w.split;
          cause = cause_right (Mark₁ t) M (sign_at t p ∷ []) w.pre i r (sign_said t p) w.cause;
          same = λ y l. goes k₁ p (w.pre ++ y) n ∙ w.same y l;
        }

  cause_behind : {B : Type 0} (f : Mark → Option B) (M : B → Lang) (m : Mark) (p : ℕ) (v : B) → f m ≡ some v → {pre : Place} {n : ℕ} {r : Place}
      → Cause look (M v) pre n r → Cause look (OneThen f M) (placed m p ∷ pre) n r
  cause_behind f M m p v i (unfit e post k) = unfit e post (λ t. (m, p, v, _, refl, i, k t))
  cause_behind f M m p v i (excess e o x post z l k) = excess e o x post z l (λ t. (m, p, v, _, refl, i, k t))

  module _ {A B : Type 0} {b : Bond} {f : Mark → Option B} {M : B → Lang} {F G : Place → B → Reader A} where
    pub steady_behind : (m₀ : Mark) (v₀ : B) → f m₀ ≡ some v₀ → Behind look b f M F G
        → Steady look Always b (OneThen f M) (here >>= λ p. the f >>= λ v. F p v) (here >>= λ p. the f >>= λ v. G p v)
    steady_behind m₀ v₀ h x = record {
      passes = λ s s₁ a _. through (the f s) (F s.marks) a s₁ _ λ v s₂ e e₁. the_took f s s₂ v _ (λ m p q i n.
          let w = x.passes m p v i s₂ s₁ a (rw q at e₁) in
          record {
            pre = placed m p ∷ w.pre;
            split = q ∙ ap (λ l. placed m p ∷ l) w.split;
            said = λ t. (m, p, v, w.pre ++ t, refl, i, w.said t);
            same = λ y l. let z = w.same y l in (z.0, rw (i, n) z.1, z.2);
          }) e;
      stops = λ s n r _. stopped (the f s) (F s.marks) n r _
          (the_stopped f s n r _ λ e q k. record {
            pre = [];
            split = q;
            cause = unfit e (placed m₀ 0 ∷ (x.word v₀).0) (λ t. (m₀, 0, v₀, (x.word v₀).0 ++ t, refl, h, (x.word v₀).1 t));
            same = λ y l. rw (e, k y s.nodes l.0);
          })
          (λ v s₂ e e₁. the_took f s s₂ v _ (λ m p q i k. halts s s₂ v m p n r q i k (x.stops m p v i s₂ n r (rw q at e₁))) e);
      word = (placed m₀ 0 ∷ (x.word v₀).0, λ t. (m₀, 0, v₀, (x.word v₀).0 ++ t, refl, h, (x.word v₀).1 t));
      sample = x.sample;
    }
      where
        halts : (s s₂ : State) (v : B) (m : Mark) (p n : ℕ) (r : Place) → s.marks ≡ placed m p ∷ s₂.marks → f m ≡ some v → s.nodes ≡ s₂.nodes
            → Stopped look (M v) (At G m p v) s₂ n r ⊎ Refused look (M v) (At G m p v) (placed m p) s₂.marks s₂.nodes n r
            → Stopped look (OneThen f M) (here >>= λ p. the f >>= λ v. G p v) s n r
        halts s s₂ v m p n r q i k (inl w) = record {
          pre = placed m p ∷ w.pre;
          split = q ∙ ap (λ l. placed m p ∷ l) w.split;
          cause = cause_behind f M m p v i w.cause;
          same = λ y l. rw (i, k) (w.same y l);
        }
        halts s s₂ v m p n r q i k (inr w) = record {
          pre = [];
          split = q ∙ sym w.place;
          cause = excess w.number (placed m p) s₂.marks w.post w.place w.bracket (λ t. (m, p, v, w.post ++ t, refl, i, w.said t));
          same = λ y l. same y l w.place w.number;
        }
          where
            same : (y : Place) → Alike look n r y → r ≡ placed m p ∷ s₂.marks → n ≡ past_limit → (here >>= λ p. the f >>= λ v. G p v) (at y s.nodes) ≡ stop n y
            same [] l e c = none≢some (sym l.0 ∙ ap head? e)
            same (placed o x ∷ y) l e c =
                let z : placed o x ≡ placed m p = some_eq (sym l.0 ∙ ap head? e) in
                let o≡m : o ≡ m = cc in
                let x≡p : x ≡ p = cc in
                rw (o≡m, x≡p, i, k, c) (w.same y (rw e at (l.1 c)))

  -- a steady reader is so behind any mark
  module _ {A B : Type 0} {b : Bond} {f : Mark → Option B} {M : B → Lang} {F G : B → Reader A} where
    pub behind_steady : B → ((v : B) → Steady look Always b (M v) (F v) (G v)) → Behind look b f M (λ p v. F v) (λ p v. G v)
    behind_steady v₀ x = record {
      passes = λ m p v i s s₁ a. (x v).passes s s₁ a tt;
      stops = λ m p v i s n r e. inl ((x v).stops s n r tt e);
      word = λ v. (x v).word;
      sample = (x v₀).sample;
    }

  -- ---- the same, as a reader is written

  module _ {A B : Type 0} {P : Place → Type 0} {b c : Bond} {M : Lang} {p q : Reader A} {f g : A → Reader B} where
    -- behind what reads no mark
    pub steady_silent : Steady look P b Nil p q → ((a a₁ : A) → Bound b a a₁ → Steady look Always c M (f a) (g a₁)) → Steady look P c M (p >>= f) (q >>= g)
    steady_silent x y = steady_as (λ ms r (q, e, m). rw e m) (steady_bind x y)

  module _ {A B : Type 0} {P : Place → Type 0} {b c : Bond} {L : Lang} {p q : Reader A} {f g : A → Reader B} where
    -- before what reads no mark
    pub steady_last : Steady look P b L p q → ((a a₁ : A) → Bound b a a₁ → Steady look Always c Nil (f a) (g a₁)) → Steady look P c L (p >>= f) (q >>= g)
    steady_last x y = steady_as (λ ms r (q, l, e). rw (← e) l) (steady_bind x y)

  module _ {A : Type 0} {P : Place → Type 0} {b : Bond} {L : Lang} {p q : Reader A} where
    -- a reader that does the same
    pub steady_like : (p₁ q₁ : Reader A) → ((s : State) → p₁ s ≡ p s) → ((s : State) → q₁ s ≡ q s) → Steady look P b L p q → Steady look P b L p₁ q₁
    steady_like p₁ q₁ h k x = record {
      passes = λ s s₁ a y e. let w = x.passes s s₁ a y (sym (h s) ∙ e) in
          record { pre = w.pre; split = w.split; said = w.said; same = λ u l. let v = w.same u l in (v.0, k _ ∙ v.1, v.2) };
      stops = λ s n r y e. let w = x.stops s n r y (sym (h s) ∙ e) in
          record { pre = w.pre; split = w.split; cause = w.cause; same = λ u l. k _ ∙ w.same u l };
      word = x.word;
      sample = x.sample;
    }
