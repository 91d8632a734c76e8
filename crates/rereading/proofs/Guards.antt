-- A written guard is said by the grammar, keeps the rules of groups and the limits, and is the guard. Each bracket that is written is one
-- that the grammar needs there.
use Prim.Native.Nat.{ℕ, suc, ◌+◌, ◌-◌, ◌^◌, ◌≤◌, ◌<◌, max}
use mathlib.Core.Path.{◌≡◌, refl, sym, ap, ap₂, subst}
use mathlib.Core.Bool.{false}
use mathlib.Core.List.{List, [], ◌∷◌, ◌++◌}
use native.Mathlib.Omega.{arith}
use lib.Dec.{eqb}
use lib.ListN.{length}
use Rattle.card.specs.Limits.{number_digits, word_digits, most_nodes, most_depth}
use Rattle.card.specs.Card.{Sign, all, any, Leaf, group, one, shared_is, is, isnt, Formula, atom, neg, and, or, Guard}
use Rattle.card.specs.Valid.{ValidLeaves, Every, size, Level, loose, middle, tight, needs_and, needs_or, depth}
use Rattle.marks_on_a_card.specs.Bytes.{begins}
use Rattle.marks_on_a_card.specs.Marks.{marks}
use Rattle.reading.specs.Reader.{Place}
use mathlib.Core.Option.{Option}
use Rattle.reading.specs.Group.{Tested}
use Rattle.reading.specs.Guard.{is_some}
use Rattle.reading.specs.Shape.{Range}
use Rattle.reading.specs.Checks.{most_in}
use Rattle.reading.specs.Judgements.{judged_guard, guard_in}
use Rattle.grammar.specs.Grammar.{sign_at, TestedSaid, Part, unary, joined_by, operand, GuardSaid, negated, bracketed, single, further}
use Rattle.grammar.specs.Counted.{counted, Within, counted_guard}
use Rattle.phrases.specs.Phrases.{◌▸◌}
use Rattle.texts.specs.Shared.{opening, closing, formula_text}
use Rattle.texts.specs.Writing.{group_text, guard_text}
use Rattle.rereading.proofs.Groups.{values_in, Kept, GroupWritten, group_written}

pub every_append : {A : Type 0} (P : A → Type 0) (xs ys : List A) → Every P xs → Every P ys → Every P (xs ++ ys)
every_append P [] ys p q = q
every_append P (x ∷ xs) ys p q = (p.0, every_append P xs ys p.1 q)

-- said as a part of a guard, with so many brackets and `!` open at most
pub record GuardWritten (n k : ℕ) (x : Option Range) (v : Part) (deep : ℕ) (g : Guard) (ms rest : Place) : Type 0 where
  pub found : Formula Tested
  pub said : GuardSaid (TestedSaid (is_some x)) v ms found rest
  pub means : guard_in n found ≡ g
  pub kept : Every (Kept n) (judged_guard k (most_in x) found)
  pub large : size found ≡ size g
  pub within : (nodes around : ℕ) → nodes + size g ≤ most_nodes → around + deep ≤ most_depth → Every Within (counted_guard nodes around said)

module _ {n k : ℕ} {x : Option Range} where
  alone : {deep : ℕ} {g : Guard} {ms rest : Place} (s : Sign) → GuardWritten n k x (operand s) deep g ms rest → GuardWritten n k x (joined_by s) deep g ms rest
  alone s w = record { found = w.found; said = single w.said; means = w.means; kept = w.kept; large = w.large; within = w.within }

  bracket : {a b deep : ℕ} {g : Guard} {ms rest : Place} → GuardWritten n k x (joined_by any) deep g ms (sign_at ")" b ∷ rest) → GuardWritten n k x unary (suc deep) g (sign_at "(" a ∷ ms) rest
  bracket w = record {
    found = w.found;
    said = bracketed tt w.said;
    means = w.means;
    kept = w.kept;
    large = w.large;
    within = λ nodes around h l. (omega arith, w.within nodes (suc around) h (omega arith));
  }

  negate : {a deep : ℕ} {g : Guard} {ms rest : Place} → GuardWritten n k x unary deep g ms rest → GuardWritten n k x unary (suc deep) (neg g) (sign_at "!" a ∷ ms) rest
  negate w = record {
    found = neg w.found;
    said = negated w.said;
    means = ap neg w.means;
    kept = w.kept;
    large = ap suc w.large;
    within = λ nodes around h l. (omega arith, (omega arith, w.within (suc nodes) (suc around) (omega arith) (omega arith)));
  }

  join_all : {a deep₁ deep₂ : ℕ} {g h : Guard} {ms ns rest : Place} → GuardWritten n k x (joined_by all) deep₁ g ms (sign_at "&" a ∷ ns) → GuardWritten n k x unary deep₂ h ns rest
      → GuardWritten n k x (joined_by all) (max deep₁ deep₂) (and g h) ms rest
  join_all {a = a} {g = g} {h = h} {ns = ns} w u = record {
    found = and w.found u.found;
    said = further w.said u.said;
    means = ap₂ and w.means u.means;
    kept = every_append (Kept n) (judged_guard k (most_in x) w.found) (judged_guard k (most_in x) u.found) w.kept u.kept;
    large = omega (arith, w.large, u.large);
    within = λ nodes around l m.
        let later : Every Within (counted (suc (nodes + size w.found)) most_nodes (sign_at "&" a ∷ ns) ∷ counted_guard (suc (nodes + size w.found)) around u.said)
        = (omega (arith, w.large), u.within (suc (nodes + size w.found)) around (omega (arith, w.large)) (omega arith)) in
        every_append Within (counted_guard nodes around w.said) _ (w.within nodes around (omega arith) (omega arith)) later;
  }

  join_any : {a deep₁ deep₂ : ℕ} {g h : Guard} {ms ns rest : Place} → GuardWritten n k x (joined_by any) deep₁ g ms (sign_at "|" a ∷ ns) → GuardWritten n k x (joined_by all) deep₂ h ns rest
      → GuardWritten n k x (joined_by any) (max deep₁ deep₂) (or g h) ms rest
  join_any {a = a} {g = g} {h = h} {ns = ns} w u = record {
    found = or w.found u.found;
    said = further w.said u.said;
    means = ap₂ or w.means u.means;
    kept = every_append (Kept n) (judged_guard k (most_in x) w.found) (judged_guard k (most_in x) u.found) w.kept u.kept;
    large = omega (arith, w.large, u.large);
    within = λ nodes around l m.
        let later : Every Within (counted (suc (nodes + size w.found)) most_nodes (sign_at "|" a ∷ ns) ∷ counted_guard (suc (nodes + size w.found)) around u.said)
        = (omega (arith, w.large), u.within (suc (nodes + size w.found)) around (omega (arith, w.large)) (omega arith)) in
        every_append Within (counted_guard nodes around w.said) _ (w.within nodes around (omega arith) (omega arith)) later;
  }

-- the part of the grammar for each level
abbrev pub part_of : Level → Part
part_of loose = joined_by any
part_of middle = joined_by all
part_of tight = unary

-- ---- the text, node by node

module _ (n : ℕ) where
  -- no `=` after `!`
  guard_begins : (k values : ℕ) (g : Guard) (r : List ℕ) → ValidLeaves n k values g → begins (eqb 61) (guard_text n tight g r) ≡ false
  unfolding formula_text
  guard_begins k values (atom (group kind s q d)) r v = refl
  guard_begins k values (atom (one d)) r v = absurd v
  guard_begins k values (atom (shared_is is a)) r v = refl
  guard_begins k values (atom (shared_is isnt a)) r v = refl
  guard_begins k values (neg g) r v = refl
  guard_begins k values (and g h) r v = refl
  guard_begins k values (or g h) r v = refl

  text_group : (v : Level) (a : Leaf) (r : List ℕ) → guard_text n v (atom a) r ≡ group_text n a r
  unfolding formula_text
  text_group v a r = refl

  text_neg : (v : Level) (g : Guard) (r : List ℕ) → guard_text n v (neg g) r ≡ ("!" ▸ guard_text n tight g r)
  unfolding formula_text
  text_neg v g r = refl

  text_and : (v : Level) (g h : Guard) (r : List ℕ) → guard_text n v (and g h) r ≡ opening (needs_and v) (guard_text n middle g (" & " ▸ guard_text n tight h (closing (needs_and v) r)))
  unfolding formula_text
  text_and v g h r = refl

  text_or : (v : Level) (g h : Guard) (r : List ℕ) → guard_text n v (or g h) r ≡ opening (needs_or v) (guard_text n loose g (" | " ▸ guard_text n middle h (closing (needs_or v) r)))
  unfolding formula_text
  text_or v g h r = refl

module _ (e n k : ℕ) (x : Option Range) (small_n : n < 10 ^ word_digits) (small-k : k < 10 ^ number_digits) (small-x : values_in x < 10 ^ number_digits) where
  abbrev M : List ℕ → Place
  M r = marks e 0 r

  abbrev Written : Part → ℕ → Guard → List ℕ → List ℕ → Type 0
  Written v deep g t r = GuardWritten n k x v deep g (M t) (M r)

  as_text : (v : Part) (deep : ℕ) (g : Guard) (t u r : List ℕ) → t ≡ u → Written v deep g u r → Written v deep g t r
  as_text v deep g t u r s w = subst (λ y. Written v deep g y r) (sym s) w

  -- a group and a negation stand at every level as they are
  at_level : (v : Level) (deep : ℕ) (g : Guard) (t r : List ℕ) → Written unary deep g t r → Written (part_of v) deep g t r
  at_level tight deep g t r w = w
  at_level middle deep g t r w = alone all w
  at_level loose deep g t r w = alone any (alone all w)

  one_group : (a : Leaf) (r : List ℕ) → GroupWritten e n k x a (M (group_text n a r)) (M r) → Written unary 0 (atom a) (group_text n a r) r
  one_group a r w = record {
    found = atom w.found;
    said = w.said;
    means = ap atom w.means;
    kept = w.kept;
    large = refl;
    within = λ nodes around h l. w.within nodes around (omega arith);
  }

  not_equal : (y : List ℕ) → begins (eqb 61) y ≡ false → M ("!" ▸ y) ≡ sign_at "!" (e - length ("!" ▸ y)) ∷ M y
  not_equal y h = rw h

  negation : (deep : ℕ) (g : Guard) (t r : List ℕ) → begins (eqb 61) t ≡ false → Written unary deep g t r → Written unary (suc deep) (neg g) ("!" ▸ t) r
  negation deep g t r h w = subst (λ (ms : Place). GuardWritten n k x unary (suc deep) (neg g) ms (M r)) (sym (not_equal t h)) (negate w)

  -- joined nodes, with brackets or without
  and_written : (v : Level) (g h : Guard) (r : List ℕ)
      → ((y : List ℕ) → Written (joined_by all) (depth middle g) g (guard_text n middle g y) y) → ((y : List ℕ) → Written unary (depth tight h) h (guard_text n tight h y) y)
      → Written (part_of v) (depth v (and g h)) (and g h) (opening (needs_and v) (guard_text n middle g (" & " ▸ guard_text n tight h (closing (needs_and v) r)))) r
  and_written tight g h r p q = bracket (alone any (join_all (p (" & " ▸ guard_text n tight h (")" ▸ r))) (q (")" ▸ r))))
  and_written middle g h r p q = join_all (p (" & " ▸ guard_text n tight h r)) (q r)
  and_written loose g h r p q = alone any (join_all (p (" & " ▸ guard_text n tight h r)) (q r))

  or_written : (v : Level) (g h : Guard) (r : List ℕ)
      → ((y : List ℕ) → Written (joined_by any) (depth loose g) g (guard_text n loose g y) y) → ((y : List ℕ) → Written (joined_by all) (depth middle h) h (guard_text n middle h y) y)
      → Written (part_of v) (depth v (or g h)) (or g h) (opening (needs_or v) (guard_text n loose g (" | " ▸ guard_text n middle h (closing (needs_or v) r)))) r
  or_written tight g h r p q = bracket (join_any (p (" | " ▸ guard_text n middle h (")" ▸ r))) (q (")" ▸ r)))
  or_written middle g h r p q = alone all (bracket (join_any (p (" | " ▸ guard_text n middle h (")" ▸ r))) (q (")" ▸ r))))
  or_written loose g h r p q = join_any (p (" | " ▸ guard_text n middle h r)) (q r)

  pub guard_written : (v : Level) (g : Guard) (r : List ℕ) → ValidLeaves n k (values_in x) g → Written (part_of v) (depth v g) g (guard_text n v g r) r
  guard_written v (atom a) r w =
      as_text (part_of v) 0 (atom a) _ _ r (text_group n v a r) (at_level v 0 (atom a) (group_text n a r) r (one_group a r (group_written e n k x small_n small-k small-x a r w)))
  guard_written v (neg g) r w =
      as_text (part_of v) (suc (depth tight g)) (neg g) _ _ r (text_neg n v g r)
      (at_level v (suc (depth tight g)) (neg g) ("!" ▸ guard_text n tight g r) r (negation (depth tight g) g (guard_text n tight g r) r (guard_begins n k (values_in x) g r w) (guard_written tight g r w)))
  guard_written v (and g h) r w =
      as_text (part_of v) (depth v (and g h)) (and g h) _ _ r (text_and n v g h r) (and_written v g h r (λ y. guard_written middle g y w.0) (λ y. guard_written tight h y w.1))
  guard_written v (or g h) r w =
      as_text (part_of v) (depth v (or g h)) (or g h) _ _ r (text_or n v g h r) (or_written v g h r (λ y. guard_written loose g y w.0) (λ y. guard_written middle h y w.1))
