-- The reduced statements by the card's own: a formula over other leaves is put as the formula with the other leaves' texts, so that all
-- copies end alike and differ in their first test alone. Assumes nothing.
use Prim.Native.Nat.{ℕ, zero, suc, ◌+◌}
use mathlib.Core.Path.{◌≡◌, refl, ap, ◌∙◌}
use mathlib.Core.List.{List, [], ◌∷◌, ◌++◌, map}
use mathlib.Core.Option.{Option, none, some}
use native.Mathlib.Nat.{zero-add}
use native.Mathlib.Omega.{arith}
use Rattle.card.specs.Card.{Mode, nondeterministic, probabilistic, Formula, atom, neg, and, or, Statement}
use Rattle.card.specs.Valid.{Level, loose, middle, tight}
use Rattle.meaning.specs.Sums.{upto}
use Rattle.card.specs.Formulas.{over, over_or}
use Rattle.meaning.specs.Reduced.{counter_of, more_than, counter, Reduced, copy, copies}
use Rattle.phrases.specs.Phrases.{Text, ◌▸◌, counted}
use Rattle.texts.specs.Shared.{Brackets, always, has_and, has_or, closing, formula_text, formula_or, more, summed, tail_text}
use Rattle.texts.specs.ReducedText.{counter_text, outcome_text, reduced_text, statements}
use Rattle.texts.specs.Copies.{outcome_of, reduced_copies}

module _ {A B : Type 0} (k : Brackets) (leaf : B → Text) (f : A → B) where
  over_text : (v : Level) (g : Formula A) (r : List ℕ) → formula_text k leaf v (over f g) r ≡ formula_text k (λ a. leaf (f a)) v g r
  unfolding formula_text
  over_text v (atom a) r = refl
  over_text v (neg g) r = rw (over_text tight g r)
  over_text v (and g h) r = rw (over_text tight h (closing (has_and k v) r), over_text middle g)
  over_text v (or g h) r = rw (over_text middle h (closing (has_or k v) r), over_text loose g)

  over_or_law : (g : Option (Formula A)) (r : List ℕ) → formula_or k leaf (over_or f g) r ≡ formula_or k (λ a. leaf (f a)) g r
  over_or_law none r = refl
  over_or_law (some g) r = rw (over_text middle g r)

module _ {A B : Type 0} (branch : B → Text) (f : A → B) where
  more_map : (xs : List A) (r : List ℕ) → more branch (map f xs) r ≡ more (λ x. branch (f x)) xs r
  more_map [] r = refl
  more_map (x ∷ xs) r = rw (more_map xs r)

  summed_map : (xs : List A) (r : List ℕ) → summed branch (map f xs) r ≡ summed (λ x. branch (f x)) xs r
  summed_map [] r = refl
  summed_map (x ∷ xs) r = rw (more_map xs r)

-- ---- a statement behind its first test, in the reduced program

abbrev pub reduced_rest : ℕ → Statement → Text
reduced_rest n s r = tail_text always (λ a. counter_text (counter_of n s.own a)) (λ b. outcome_text (outcome_of n s.own b)) s.guard s.branches r

pub copy_text_law : (n : ℕ) (s : Statement) (m : ℕ) (r : List ℕ) → reduced_text (copy n s m) r ≡ "[] " ▸ counter_text (counter s.own (more_than m)) (reduced_rest n s r)
unfolding reduced_text copy
copy_text_law n s m r =
    ap (λ (t : List ℕ). "[] " ▸ counter_text (counter s.own (more_than m)) t)
    (over_or_law always counter_text (counter_of n s.own) s.guard (" -> " ▸ summed outcome_text (map (outcome_of n s.own) s.branches) (";\n" ▸ r))
    ∙ rw (summed_map outcome_text (outcome_of n s.own) s.branches (";\n" ▸ r)))

-- ---- all copies

pub statements_append : (xs ys : List Reduced) (r : List ℕ) → statements (xs ++ ys) r ≡ statements xs (statements ys r)
statements_append [] ys r = refl
statements_append (x ∷ xs) ys r = rw (statements_append xs ys r)

module _ (n : ℕ) (s : Statement) where
  abbrev pub reduced_copy : ℕ → Text
  reduced_copy m = reduced_text (copy n s m)

  upto_text : (m c : ℕ) (f : ℕ → Reduced) → ((j : ℕ) → f j ≡ copy n s (m + j)) → (r : List ℕ) → statements (upto c f) r ≡ counted reduced_copy m c r
  unfolding counted
  upto_text m zero f e r = refl
  upto_text m (suc c) f e r =
      let k : m + 0 ≡ m = omega arith in
      let later : (j : ℕ) → m + suc j ≡ suc m + j = λ j. omega arith in
      ap (λ (x : Reduced). reduced_text x (statements (upto c (λ i. f (suc i))) r)) (e 0 ∙ rw k)
      ∙ ap (reduced_text (copy n s m)) (upto_text (suc m) c (λ i. f (suc i)) (λ j. e (suc j) ∙ rw (later j)) r)

  pub copies_text : (mode : Mode) (r : List ℕ) → statements (copies mode n s) r ≡ counted reduced_copy 0 (reduced_copies mode n) r
  unfolding counted
  copies_text nondeterministic r = refl
  copies_text probabilistic r = upto_text 0 n (copy n s) (λ j. rw (zero-add j)) r
