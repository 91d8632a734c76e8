-- The reduced text tells the reduced program. Each piece of the text ends where it shows that it ends: a number at the first byte that is no
-- digit, a formula with its brackets, a list at the byte that begins what follows it. So from equal texts each piece is equal, and then the
-- rest. Assumes nothing.
use Prim.Native.Nat.{ℕ, suc, ◌/◌, ◌≤◌}
use mathlib.Core.Path.{◌≡◌, refl, sym, ap, ap₂, subst, ◌∙◌}
use mathlib.Core.Logic.{◌⊎◌, inl, inr}
use mathlib.Core.Bool.{Bool, true, false, not, ◌&&◌, false≢true}
use mathlib.Core.List.{List, [], ◌∷◌, ◌++◌}
use mathlib.Core.Option.{Option, none, some}
use native.Mathlib.Omega.{arith}
use borrow.Author.Tests.{le-leb}
use lib.Dec.{eqb, leb}
use lib.ListN.{length, get_or, drop}
use Rattle.card.specs.Limits.{unit}
use Rattle.card.specs.Text.{when◌then◌else◌}
use Rattle.card.specs.Card.{Mode, nondeterministic, probabilistic, Relation, is, isnt, atom, neg, and, or, Shared}
use Rattle.card.specs.Valid.{Level, loose, middle, tight, Every}
use Rattle.card.specs.Weight.{Weight, whole, decimal as point, ratio, units_of}
use Rattle.meaning.specs.Reduced.{Bound, equal_to, more_than, less_than, Counter, counter, shared_test, Test, Update, keep, shift, Outcome, Reduced, Program}
use Rattle.room.specs.Digits.{decimal, AllDigits}
use Rattle.room.proofs.Decimal.{decimal_digits, decimal_injective}
use Rattle.phrases.specs.Phrases.{◌▸◌, num, mode_text, divisor, lowest, spell, weight_text}
use Rattle.phrases.proofs.Lowest.{lowest_kept}
use Rattle.texts.specs.Shared.{always, formula_text, formula_or, more, summed, declaration, shared_text, set_text, set_last}
use Rattle.texts.specs.ReducedText.{bound_text, counter_text, test_text, update_text, outcome_text, reduced_text, statements, counter_line, counters, program_text}

-- a piece of text is told: from the text, before any rest, the piece and the rest
abbrev Told : {A : Type 0} → A → A → List ℕ → List ℕ → Type 0
Told a b r s = (a ≡ b) × (r ≡ s)

abbrev first : List ℕ → ℕ
first t = get_or t 0 0

abbrev second : List ℕ → ℕ
second t = get_or t 1 0

-- ---- numbers

-- does a text begin with no digit?
abbrev stops : List ℕ → Bool
stops [] = true
stops (b ∷ t) = not (leb 48 b && leb b 57)

no_digit : {A : Type 0} (b : ℕ) (t : List ℕ) → 48 ≤ b → b ≤ 57 → stops (b ∷ t) ≡ true → A
no_digit b t h l e = absurd (false≢true (rw (le-leb 48 b h, le-leb b 57 l) at e))

digits_told : (xs ys r s : List ℕ) → AllDigits xs → AllDigits ys → stops r ≡ true → stops s ≡ true → xs ++ r ≡ ys ++ s → Told xs ys r s
digits_told [] [] r s p q h k e = (refl, e)
digits_told [] (y ∷ ys) r s p q h k e = no_digit y (ys ++ s) q.0 q.1 (subst (λ (t : List ℕ). stops t ≡ true) e h)
digits_told (x ∷ xs) [] r s p q h k e = no_digit x (xs ++ r) p.0 p.1 (subst (λ (t : List ℕ). stops t ≡ true) (sym e) k)
digits_told (x ∷ xs) (y ∷ ys) r s p q h k e =
    let z = digits_told xs ys r s p.2 q.2 h k (ap (drop 1) e) in
    (ap₂ ◌∷◌ (ap first e) z.0, z.1)

number_told : (a b : ℕ) (r s : List ℕ) → stops r ≡ true → stops s ≡ true → num a r ≡ num b s → Told a b r s
number_told a b r s h k e =
    let z = digits_told (decimal a) (decimal b) r s (decimal_digits a) (decimal_digits b) h k e in
    (decimal_injective a b z.0, z.1)

-- ---- tests

bound_stops : (b : Bound) (r : List ℕ) → stops (bound_text b r) ≡ true
bound_stops (equal_to m) r = refl
bound_stops (more_than m) r = refl
bound_stops (less_than m) r = refl

behind_shared : (q : Relation) (v : ℕ) (r : List ℕ) → second (shared_text q v r) ≡ 103
behind_shared is v r = refl
behind_shared isnt v r = refl

module _ (r s : List ℕ) where
  abbrev bounds : Bound → Bound → Type 0
  bounds a b = bound_text a (")" ▸ r) ≡ bound_text b (")" ▸ s) → Told a b r s

  bound_of : (f : ℕ → Bound) (a b : ℕ) → num a (")" ▸ r) ≡ num b (")" ▸ s) → Told (f a) (f b) r s
  bound_of f a b e = let z = number_told a b (")" ▸ r) (")" ▸ s) refl refl e in (ap f z.0, ap (drop 1) z.1)

  bound_told : (a b : Bound) → bounds a b
  bound_told (equal_to a) (equal_to b) e = bound_of equal_to a b (ap (drop 1) e)
  bound_told (more_than a) (more_than b) e = bound_of more_than a b (ap (drop 1) e)
  bound_told (less_than a) (less_than b) e = bound_of less_than a b (ap (drop 1) e)
  bound_told (equal_to a) (more_than b) e = let z : ◌≡◌ {A = ℕ} 61 62 = ap first e in absurd (omega arith)
  bound_told (equal_to a) (less_than b) e = let z : ◌≡◌ {A = ℕ} 61 60 = ap first e in absurd (omega arith)
  bound_told (more_than a) (equal_to b) e = let z : ◌≡◌ {A = ℕ} 62 61 = ap first e in absurd (omega arith)
  bound_told (more_than a) (less_than b) e = let z : ◌≡◌ {A = ℕ} 62 60 = ap first e in absurd (omega arith)
  bound_told (less_than a) (equal_to b) e = let z : ◌≡◌ {A = ℕ} 60 61 = ap first e in absurd (omega arith)
  bound_told (less_than a) (more_than b) e = let z : ◌≡◌ {A = ℕ} 60 62 = ap first e in absurd (omega arith)

  -- a value of the shared number, before its bracket
  value_told : (a b : ℕ) → num a (")" ▸ r) ≡ num b (")" ▸ s) → Told a b r s
  value_told a b e = let z = number_told a b (")" ▸ r) (")" ▸ s) refl refl e in (z.0, ap (drop 1) z.1)

  shared_told : (p q : Relation) (a b : ℕ) → shared_text p a r ≡ shared_text q b s → Told (shared_test p a) (shared_test q b) r s
  shared_told is is a b e = let z = value_told a b (ap (drop 3) e) in (ap (shared_test is) z.0, z.1)
  shared_told isnt isnt a b e = let z = value_told a b (ap (drop 4) e) in (ap (shared_test isnt) z.0, z.1)
  shared_told is isnt a b e = let z : ◌≡◌ {A = ℕ} 61 33 = ap (λ (t : List ℕ). first (drop 2 t)) e in absurd (omega arith)
  shared_told isnt is a b e = let z : ◌≡◌ {A = ℕ} 33 61 = ap (λ (t : List ℕ). first (drop 2 t)) e in absurd (omega arith)

  counter_told : (a b : Counter) → counter_text a r ≡ counter_text b s → Told a b r s
  counter_told (shared_test p a) (shared_test q b) e = shared_told p q a b e
  counter_told (counter c a) (shared_test q b) e = absurd (omega (arith, ap second e ∙ behind_shared q b s))
  counter_told (shared_test p a) (counter d b) e = absurd (omega (arith, sym (behind_shared p a r) ∙ ap second e))
  counter_told (counter c a) (counter d b) e =
      let z = number_told c d (bound_text a (")" ▸ r)) (bound_text b (")" ▸ s)) (bound_stops a (")" ▸ r)) (bound_stops b (")" ▸ s)) (ap (drop 4) e) in
      let y = bound_told a b z.1 in
      (ap₂ counter z.0 y.0, y.1)

-- a leaf begins with a bracket, and a word behind it
begins_leaf : (a : Counter) (r : List ℕ) → first (counter_text a r) ≡ 40
begins_leaf (counter d b) r = refl
begins_leaf (shared_test is v) r = refl
begins_leaf (shared_test isnt v) r = refl

behind_leaf : (a : Counter) (r : List ℕ) → 103 ≤ second (counter_text a r)
behind_leaf (counter d b) r = omega arith
behind_leaf (shared_test q v) r = omega (arith, behind_shared q v r)

-- a test begins with a bracket or with `!`
begins_test : (v : Level) (g : Test) (r : List ℕ) → (first (test_text v g r) ≡ 40) ⊎ (first (test_text v g r) ≡ 33)
unfolding formula_text
begins_test v (atom a) r = inl (begins_leaf a r)
begins_test v (neg g) r = inr refl
begins_test v (and g h) r = inl refl
begins_test v (or g h) r = inl refl

-- and so behind its bracket a joined node is no leaf
leaf_apart : {A : Type 0} (a : Counter) (s : List ℕ) (v : Level) (g : Test) (r : List ℕ) → second (counter_text a s) ≡ first (test_text v g r) → A
leaf_apart a s v g r e = go (begins_test v g r)
  where
    go : {A : Type 0} → (first (test_text v g r) ≡ 40) ⊎ (first (test_text v g r) ≡ 33) → A
    go (inl h) = absurd (omega (arith, behind_leaf a s, e ∙ h))
    go (inr h) = absurd (omega (arith, behind_leaf a s, e ∙ h))

test_told : (v w : Level) (g h : Test) (r s : List ℕ) → test_text v g r ≡ test_text w h s → Told g h r s
unfolding formula_text
test_told v w (atom a) (atom b) r s e = let z = counter_told r s a b e in (ap atom z.0, z.1)
test_told v w (neg g) (neg h) r s e = let z = test_told tight tight g h r s (ap (drop 1) e) in (ap neg z.0, z.1)
test_told v w (and g₁ g₂) (and h₁ h₂) r s e =
    let z = test_told middle middle g₁ h₁ (" & " ▸ test_text tight g₂ (")" ▸ r)) (" & " ▸ test_text tight h₂ (")" ▸ s)) (ap (drop 1) e) in
    let y = test_told tight tight g₂ h₂ (")" ▸ r) (")" ▸ s) (ap (drop 3) z.1) in
    (ap₂ and z.0 y.0, ap (drop 1) y.1)
test_told v w (or g₁ g₂) (or h₁ h₂) r s e =
    let z = test_told loose loose g₁ h₁ (" | " ▸ test_text middle g₂ (")" ▸ r)) (" | " ▸ test_text middle h₂ (")" ▸ s)) (ap (drop 1) e) in
    let y = test_told middle middle g₂ h₂ (")" ▸ r) (")" ▸ s) (ap (drop 3) z.1) in
    (ap₂ or z.0 y.0, ap (drop 1) y.1)
test_told v w (and g₁ g₂) (or h₁ h₂) r s e =
    let z = test_told middle loose g₁ h₁ (" & " ▸ test_text tight g₂ (")" ▸ r)) (" | " ▸ test_text middle h₂ (")" ▸ s)) (ap (drop 1) e) in
    let y : ◌≡◌ {A = ℕ} 38 124 = ap (λ (t : List ℕ). first (drop 1 t)) z.1 in
    absurd (omega arith)
test_told v w (or g₁ g₂) (and h₁ h₂) r s e =
    let z = test_told loose middle g₁ h₁ (" | " ▸ test_text middle g₂ (")" ▸ r)) (" & " ▸ test_text tight h₂ (")" ▸ s)) (ap (drop 1) e) in
    let y : ◌≡◌ {A = ℕ} 124 38 = ap (λ (t : List ℕ). first (drop 1 t)) z.1 in
    absurd (omega arith)
test_told v w (atom a) (neg h) r s e = let z : ◌≡◌ {A = ℕ} 40 33 = sym (begins_leaf a r) ∙ ap first e in absurd (omega arith)
test_told v w (neg g) (atom a) r s e = let z : ◌≡◌ {A = ℕ} 33 40 = ap first e ∙ begins_leaf a s in absurd (omega arith)
test_told v w (neg g) (and h₁ h₂) r s e = let z : ◌≡◌ {A = ℕ} 33 40 = ap first e in absurd (omega arith)
test_told v w (neg g) (or h₁ h₂) r s e = let z : ◌≡◌ {A = ℕ} 33 40 = ap first e in absurd (omega arith)
test_told v w (and g₁ g₂) (neg h) r s e = let z : ◌≡◌ {A = ℕ} 40 33 = ap first e in absurd (omega arith)
test_told v w (or g₁ g₂) (neg h) r s e = let z : ◌≡◌ {A = ℕ} 40 33 = ap first e in absurd (omega arith)
test_told v w (atom a) (and h₁ h₂) r s e = leaf_apart a r middle h₁ _ (ap second e)
test_told v w (atom a) (or h₁ h₂) r s e = leaf_apart a r loose h₁ _ (ap second e)
test_told v w (and g₁ g₂) (atom a) r s e = leaf_apart a s middle g₁ _ (sym (ap second e))
test_told v w (or g₁ g₂) (atom a) r s e = leaf_apart a s loose g₁ _ (sym (ap second e))

-- a guard, or none, before the arrow
guard_told : (g h : Option Test) (r s : List ℕ) → formula_or always counter_text g (" -> " ▸ r) ≡ formula_or always counter_text h (" -> " ▸ s) → Told g h r s
guard_told none none r s e = (refl, ap (drop 4) e)
guard_told (some g) (some h) r s e =
    let z = test_told middle middle g h (" -> " ▸ r) (" -> " ▸ s) (ap (drop 3) e) in
    (ap some z.0, ap (drop 4) z.1)
guard_told none (some h) r s e = let z : ◌≡◌ {A = ℕ} 45 38 = ap (λ (t : List ℕ). first (drop 1 t)) e in absurd (omega arith)
guard_told (some g) none r s e = let z : ◌≡◌ {A = ℕ} 38 45 = ap (λ (t : List ℕ). first (drop 1 t)) e in absurd (omega arith)

-- ---- weights, before their colon

-- no decimal
abbrev Plain : Weight → Type 0
Plain (whole v) = Unit {0}
Plain (point v n f) = ⊥
Plain (ratio a b) = Unit {0}

lowest_plain : (u : ℕ) → Plain (lowest u)
lowest_plain u = go (eqb u 0) (leb unit u) (u / divisor u) (unit / divisor u)
  where
    go : (a b : Bool) (x y : ℕ) → Plain (when a then whole 0 else (when b then whole 1 else ratio x y))
    go true b x y = tt
    go false true x y = tt
    go false false x y = tt

spell_told : (a b : Weight) (r s : List ℕ) → Plain a → Plain b → spell a (":" ▸ r) ≡ spell b (":" ▸ s) → Told a b r s
spell_told (whole a) (whole b) r s p q e =
    let z = number_told a b (":" ▸ r) (":" ▸ s) refl refl e in
    (ap whole z.0, ap (drop 1) z.1)
spell_told (ratio a b) (ratio c d) r s p q e =
    let z = number_told a c ("/" ▸ num b (":" ▸ r)) ("/" ▸ num d (":" ▸ s)) refl refl e in
    let y = number_told b d (":" ▸ r) (":" ▸ s) refl refl (ap (drop 1) z.1) in
    (ap₂ ratio z.0 y.0, ap (drop 1) y.1)
spell_told (whole a) (ratio c d) r s p q e =
    let z = number_told a c (":" ▸ r) ("/" ▸ num d (":" ▸ s)) refl refl e in
    let y : ◌≡◌ {A = ℕ} 58 47 = ap first z.1 in
    absurd (omega arith)
spell_told (ratio a b) (whole c) r s p q e =
    let z = number_told a c ("/" ▸ num b (":" ▸ r)) (":" ▸ s) refl refl e in
    let y : ◌≡◌ {A = ℕ} 47 58 = ap first z.1 in
    absurd (omega arith)
spell_told (point v n f) b r s p q e = absurd p
spell_told (whole a) (point v n f) r s p q e = absurd q
spell_told (ratio a b) (point v n f) r s p q e = absurd q

the_some : {a b : ℕ} → some a ≡ some b → a ≡ b
the_some e = cc

weight_told : (u v : ℕ) (r s : List ℕ) → u ≤ unit → v ≤ unit → weight_text u (":" ▸ r) ≡ weight_text v (":" ▸ s) → Told u v r s
unfolding weight_text
weight_told u v r s h k e =
    let z = spell_told (lowest u) (lowest v) r s (lowest_plain u) (lowest_plain v) e in
    (the_some (sym (lowest_kept u h) ∙ ap units_of z.0 ∙ lowest_kept v k), z.1)

-- ---- branches

-- what follows a branch does not go on with ` &`
abbrev Over : List ℕ → Type 0
Over r = second r ≡ 38 → ⊥

module _ (r s : List ℕ) (h : Over r) (k : Over s) where
  set_told : (a b : ℕ) → set_text a r ≡ set_text b s → Told a b r s
  set_told a b e = value_told r s a b (ap (drop 4) e)

  last_told : (a b : Option ℕ) → set_last a r ≡ set_last b s → Told a b r s
  last_told none none e = (refl, e)
  last_told (some a) (some b) e = let z = set_told a b (ap (drop 3) e) in (ap some z.0, z.1)
  last_told none (some b) e = absurd (h (ap second e))
  last_told (some a) none e = absurd (k (sym (ap second e)))

  update_told : (a b : Update) (x y : Option ℕ) → update_text a x r ≡ update_text b y s → (a ≡ b) × Told x y r s
  update_told keep keep none none e = (refl, (refl, ap (drop 4) e))
  update_told keep keep (some x) (some y) e = let z = set_told x y e in (refl, (ap some z.0, z.1))
  update_told keep keep none (some y) e = let z : ◌≡◌ {A = ℕ} 116 40 = ap first e in absurd (omega arith)
  update_told keep keep (some x) none e = let z : ◌≡◌ {A = ℕ} 40 116 = ap first e in absurd (omega arith)
  update_told keep (shift j t n) none y e = let z : ◌≡◌ {A = ℕ} 116 40 = ap first e in absurd (omega arith)
  update_told keep (shift j t n) (some x) y e = let z : ◌≡◌ {A = ℕ} 103 110 = ap second e in absurd (omega arith)
  update_told (shift j t n) keep x none e = let z : ◌≡◌ {A = ℕ} 40 116 = ap first e in absurd (omega arith)
  update_told (shift j t n) keep x (some y) e = let z : ◌≡◌ {A = ℕ} 110 103 = ap second e in absurd (omega arith)
  update_told (shift j t n) (shift i u m) x y e =
      let low = number_told j i _ _ refl refl (ap (drop 4) e) in
      let again = number_told j i _ _ refl refl (ap (drop 5) low.1) in
      let high = number_told t u _ _ refl refl (ap (drop 10) again.1) in
      let more = number_told t u _ _ refl refl (ap (drop 9) high.1) in
      let cut = number_told n m _ _ refl refl (ap (drop 3) more.1) in
      ((λ i. shift (low.0 i) (high.0 i) (cut.0 i)), last_told x y (ap (drop 2) cut.1))

-- units that a weight can have
abbrev Weighs : Outcome → Type 0
Weighs o = o.units ≤ unit

outcome_told : (a b : Outcome) (r s : List ℕ) → Weighs a → Weighs b → Over r → Over s → outcome_text a r ≡ outcome_text b s → Told a b r s
outcome_told a b r s h k p q e =
    let w = weight_told a.units b.units (update_text a.update a.sets r) (update_text b.update b.sets s) h k e in
    let u = update_told r s p q a.update b.update a.sets b.sets w.1 in
    ((λ x. record { units = w.0 x; update = u.0 x; sets = u.1.0 x }), u.1.1)

-- those behind the first, before the end of the line
more_over : (os : List Outcome) (r : List ℕ) → Over (more outcome_text os (";\n" ▸ r))
more_over [] r e = omega (arith, e)
more_over (o ∷ os) r e = omega (arith, e)

more_told : (xs ys : List Outcome) (r s : List ℕ) → Every Weighs xs → Every Weighs ys → more outcome_text xs (";\n" ▸ r) ≡ more outcome_text ys (";\n" ▸ s) → Told xs ys r s
more_told [] [] r s p q e = (refl, ap (drop 2) e)
more_told [] (b ∷ ys) r s p q e = let z : ◌≡◌ {A = ℕ} 59 32 = ap first e in absurd (omega arith)
more_told (a ∷ xs) [] r s p q e = let z : ◌≡◌ {A = ℕ} 32 59 = ap first e in absurd (omega arith)
more_told (a ∷ xs) (b ∷ ys) r s p q e =
    let z = outcome_told a b (more outcome_text xs (";\n" ▸ r)) (more outcome_text ys (";\n" ▸ s)) p.0 q.0 (more_over xs r) (more_over ys s) (ap (drop 3) e) in
    let y = more_told xs ys r s p.1 q.1 z.1 in
    (ap₂ ◌∷◌ z.0 y.0, y.1)

-- one at least
summed_told : (xs ys : List Outcome) (r s : List ℕ) → 1 ≤ length xs → 1 ≤ length ys → Every Weighs xs → Every Weighs ys
    → summed outcome_text xs (";\n" ▸ r) ≡ summed outcome_text ys (";\n" ▸ s) → Told xs ys r s
summed_told [] ys r s h k p q e = absurd (omega arith)
summed_told (a ∷ xs) [] r s h k p q e = absurd (omega arith)
summed_told (a ∷ xs) (b ∷ ys) r s h k p q e =
    let z = outcome_told a b (more outcome_text xs (";\n" ▸ r)) (more outcome_text ys (";\n" ▸ s)) p.0 q.0 (more_over xs r) (more_over ys s) e in
    let y = more_told xs ys r s p.1 q.1 z.1 in
    (ap₂ ◌∷◌ z.0 y.0, y.1)

-- ---- statements

pub record Proper (x : Reduced) : Type 0 where
  pub some : 1 ≤ length x.outcomes
  pub weigh : Every Weighs x.outcomes

abbrev own_in : Counter → ℕ
own_in (counter d b) = d
own_in (shared_test q v) = 0

abbrev least_in : Counter → ℕ
least_in (counter d (equal_to m)) = m
least_in (counter d (more_than m)) = m
least_in (counter d (less_than m)) = m
least_in (shared_test q v) = 0

statement_told : (x y : Reduced) (r s : List ℕ) → Proper x → Proper y → reduced_text x r ≡ reduced_text y s → Told x y r s
unfolding reduced_text
statement_told x y r s p q e =
    let t = counter_told _ _ (counter x.own (more_than x.least)) (counter y.own (more_than y.least)) (ap (drop 3) e) in
    let g = guard_told x.guard y.guard _ _ t.1 in
    let o = summed_told x.outcomes y.outcomes r s p.some q.some p.weigh q.weigh g.1 in
    ((λ i. record { own = own_in (t.0 i); least = least_in (t.0 i); guard = g.0 i; outcomes = o.0 i }), o.1)

begins_statement : (x : Reduced) (r : List ℕ) → first (reduced_text x r) ≡ 91
unfolding reduced_text
begins_statement x r = refl

abbrev last : List ℕ
last = "endmodule\n" ▸ []

-- what stands behind the counters begins with no `n`
begins_statements : (xs : List Reduced) → first (statements xs last) ≡ 110 → ⊥
begins_statements [] e = omega (arith, e)
begins_statements (x ∷ xs) e = omega (arith, sym (begins_statement x (statements xs last)) ∙ e)

statements_told : (xs ys : List Reduced) → Every Proper xs → Every Proper ys → statements xs last ≡ statements ys last → xs ≡ ys
statements_told [] [] p q e = refl
statements_told [] (y ∷ ys) p q e = let z : ◌≡◌ {A = ℕ} 101 91 = ap first e ∙ begins_statement y (statements ys last) in absurd (omega arith)
statements_told (x ∷ xs) [] p q e = let z : ◌≡◌ {A = ℕ} 91 101 = sym (begins_statement x (statements xs last)) ∙ ap first e in absurd (omega arith)
statements_told (x ∷ xs) (y ∷ ys) p q e =
    let z = statement_told x y (statements xs last) (statements ys last) p.0 q.0 e in
    ap₂ ◌∷◌ z.0 (statements_told xs ys p.1 q.1 z.1)

-- ---- the program

line_told : (m n d a b : ℕ) (r s : List ℕ) → counter_line m d a r ≡ counter_line n d b s → (m ≡ n) × Told a b r s
line_told m n d a b r s e =
    let which = number_told d d _ _ refl refl (ap (drop 3) e) in
    let most = number_told m n _ _ refl refl (ap (drop 7) which.1) in
    let start = number_told a b _ _ refl refl (ap (drop 7) most.1) in
    (most.0, (start.0, ap (drop 2) start.1))

counters_told : (m n d : ℕ) (xs ys r s : List ℕ) → (first r ≡ 110 → ⊥) → (first s ≡ 110 → ⊥) → counters m d xs r ≡ counters n d ys s → Told xs ys r s
counters_told m n d [] [] r s h k e = (refl, e)
counters_told m n d [] (b ∷ ys) r s h k e = absurd (h (ap first e))
counters_told m n d (a ∷ xs) [] r s h k e = absurd (k (sym (ap first e)))
counters_told m n d (a ∷ xs) (b ∷ ys) r s h k e =
    let z = line_told m n d a b (counters m (suc d) xs r) (counters n (suc d) ys s) e in
    let y = counters_told m n (suc d) xs ys r s h k z.1.1 in
    (ap₂ ◌∷◌ z.1.0 y.0, y.1)

-- how far the counters go, where there is one
most_told : (m n : ℕ) (xs ys r s : List ℕ) → 1 ≤ length xs → 1 ≤ length ys → counters m 0 xs r ≡ counters n 0 ys s → m ≡ n
most_told m n [] ys r s h k e = absurd (omega arith)
most_told m n (a ∷ xs) [] r s h k e = absurd (omega arith)
most_told m n (a ∷ xs) (b ∷ ys) r s h k e = (line_told m n 0 a b (counters m 1 xs r) (counters n 1 ys s) e).0

-- a program with a counter, and with proper statements
pub record Whole (p : Program) : Type 0 where
  pub counts : 1 ≤ length p.start
  pub proper : Every Proper p.statements

mode_told : (a b : Mode) (r s : List ℕ) → mode_text a r ≡ mode_text b s → Told a b r s
mode_told nondeterministic nondeterministic r s e = (refl, ap (drop 16) e)
mode_told probabilistic probabilistic r s e = (refl, ap (drop 13) e)
mode_told nondeterministic probabilistic r s e = let z : ◌≡◌ {A = ℕ} 110 112 = ap first e in absurd (omega arith)
mode_told probabilistic nondeterministic r s e = let z : ◌≡◌ {A = ℕ} 112 110 = ap first e in absurd (omega arith)

-- the line of the declaration begins with another byte than the module's
declaration_told : (a b : Option Shared) (r s : List ℕ) → second r ≡ 109 → second s ≡ 109 → declaration a r ≡ declaration b s → Told a b r s
declaration_told none none r s h k e = (refl, e)
declaration_told none (some b) r s h k e = let z : ◌≡◌ {A = ℕ} 109 103 = sym h ∙ ap second e in absurd (omega arith)
declaration_told (some a) none r s h k e = let z : ◌≡◌ {A = ℕ} 103 109 = ap second e ∙ k in absurd (omega arith)
declaration_told (some a) (some b) r s h k e =
    let most = number_told a.most b.most _ _ refl refl (ap (drop 16) e) in
    let start = number_told a.start b.start _ _ refl refl (ap (drop 7) most.1) in
    ((λ i. some (record { most = most.0 i; start = start.0 i })), ap (drop 1) start.1)

-- behind the declaration
abbrev module_of : Program → List ℕ
module_of p = "\nmodule generic_process\n" ▸ counters p.most 0 p.start (statements p.statements last)

pub program_told : (p q : Program) → Whole p → Whole q → program_text p ≡ program_text q → p ≡ q
unfolding program_text
program_told p q v w e =
    let m = mode_told p.mode q.mode (declaration p.shared (module_of p)) (declaration q.shared (module_of q)) e in
    let g = declaration_told p.shared q.shared (module_of p) (module_of q) refl refl m.1 in
    let c = ap (drop 24) g.1 in
    let n = most_told p.most q.most p.start q.start _ _ v.counts w.counts c in
    let t = counters_told p.most q.most 0 p.start q.start _ _ (begins_statements p.statements) (begins_statements q.statements) c in
    let x = statements_told p.statements q.statements v.proper w.proper t.1 in
    λ i. record { mode = m.0 i; shared = g.0 i; most = n i; start = t.0 i; statements = x i }
