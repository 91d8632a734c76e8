-- A card that is read is valid: what its shape keeps of the limits, and what each rule that is kept says of its part. Assumes nothing.
use Prim.Native.Nat.{ℕ, ◌+◌, ◌-◌, ◌≤◌, ◌<◌}
use mathlib.Core.Path.{◌≡◌, refl, ap, ◌∙◌}
use mathlib.Core.Bool.{Bool, true, false, false≢true}
use mathlib.Core.List.{List, [], ◌∷◌, ◌++◌, map}
use mathlib.Core.Option.{Option, none, some}
use native.Mathlib.Omega.{arith}
use lib.Dec.{eqb}
use borrow.Author.Tests.{eqb-true}
use lib.ListN.{length, length-map}
use Rattle.card.specs.Limits.{unit}
use Rattle.card.specs.Text.{when◌then◌else◌}
use Rattle.card.specs.Card.{Kind, everyone, others, Sign, all, any, group, Formula, atom, neg, and, or, Card}
use Rattle.card.specs.Weight.{Weight, units_of, Rule}
use Rattle.card.proofs.Laws.{units_most as weight_most}
use Rattle.card.specs.Valid.{Enough, values_of, ValidLeaf, ValidLeaves, middle, ValidGuard, Every, total, ValidSet, ValidBranch, ValidStatement, ValidShared, ValidCard}
use Rattle.card.specs.Formulas.{EveryAtom}
use Rattle.card.proofs.Atoms.{size_over, depth_over}
use Rattle.reading.specs.Guard.{is_some}
use Rattle.reading.specs.Reader.{Numbered}
use Rattle.reading.specs.Group.{Literal, Tested, of_seats, of_shared}
use Rattle.reading.specs.Judgements.{once, kind_of, alike, symmetric, Judgement, sum, or_zero, units_in, total_units, first_state, judged_test, judged_guard, or_everyone, group_in, leaf_in, guard_in}
use Rattle.reading.specs.Shape.{BranchShape, StatementShape, Range, CardShape}
use Rattle.reading.specs.Checks.{judged_state, judged_words, judged_set, judged_branch, judged_each, judged_or, weight_in, judged_statement, judged_modules, judged_shared, most_in, judged_card, value_or, branch_in, guard_or, statement_in, shared_in, seats_in, card_in}
use Rattle.reading.specs.Reading.{taken, read_under}
use Rattle.grammar.specs.Rules.{Kept}
use Rattle.grammar.specs.Verdicts.{Accepted}
use Rattle.reading.proofs.Through.{and_true, none≢some}
use Rattle.grammar.proofs.Fair.{every_append, Fair, FairTest, FairGuard, FairSet, FairBranch, FairStatement, FairShared, FairCard, card_fair}
use Rattle.grammar.proofs.Symmetry.{is_symmetric}
use Rattle.grammar.proofs.Reasons.{accepted}

-- ---- groups and guards

enough : (s : Sign) (kind : Kind) (n : ℕ) (ls : List Literal) → Fair s ls → kind_of n ls ≡ some kind → Enough s kind n
enough s kind n ls f e = go (once 1 n ls) (once 2 (n - 1) ls) refl refl e
  where
    count : (i c : ℕ) → once i c ls ≡ true → length ls ≡ c
    count i c y = eqb-true (length ls) c (and_true (eqb (length ls) c) _ y).0

    first : (s : Sign) → length ls ≡ n → Fair s ls → everyone ≡ kind → Enough s kind n
    first all l f z = rw (← z) (omega arith)
    first any l f z = rw (← z) (omega arith)

    second : (s : Sign) → length ls ≡ n - 1 → Fair s ls → others ≡ kind → Enough s kind n
    second all l f z = rw (← z) (omega arith)
    second any l f z = rw (← z) (omega arith)

    go : (a b : Bool) → once 1 n ls ≡ a → once 2 (n - 1) ls ≡ b → (when a then some everyone else (when b then some others else none)) ≡ some kind → Enough s kind n
    go true b p q e = first s (count 1 n p) f cc
    go false true p q e = second s (count 2 (n - 1) q) f cc
    go false false p q e = none≢some e

group_valid : (n k values : ℕ) (s : Sign) (ls : List Literal) → Fair s ls → symmetric n ls ≡ true → Every (Kept n) (first_state k ls) → ValidLeaf n k values (group_in n s ls)
group_valid n k values s [] f y e = absurd (false≢true y)
group_valid n k values s (l ∷ ls) f y e = go (kind_of n (l ∷ ls)) refl (and_true (alike l ls) (is_some (kind_of n (l ∷ ls))) y).1
  where
    go : (o : Option Kind) → kind_of n (l ∷ ls) ≡ o → is_some o ≡ true → ValidLeaf n k values (group (or_everyone o) s l.relation l.d)
    go none q z = absurd (false≢true z)
    go (some kind) q z = (enough s kind n (l ∷ ls) f q, e.0)

-- on a card that shares a number what may be m is one of its values
module _ (shared : Bool) (m values : ℕ) (bound : (v : ℕ) → shared ≡ true → v ≤ m → v < values) where
  test_valid : (n k : ℕ) (x : Tested) → FairTest shared x → Every (Kept n) (judged_test k m x) → ValidLeaf n k values (leaf_in n x)
  test_valid n k (of_seats a) f e = group_valid n k values a.sign a.literals f (is_symmetric n a.literals e.0) e.1
  test_valid n k (of_shared x) f e = bound x.value.value f e.0

  guard_valid : (n k : ℕ) (g : Formula Tested) → EveryAtom (FairTest shared) g → Every (Kept n) (judged_guard k m g) → ValidLeaves n k values (guard_in n g)
  guard_valid n k (atom a) f e = test_valid n k a f e
  guard_valid n k (neg g) f e = guard_valid n k g f e
  guard_valid n k (and g h) f e =
      let q = every_append (Kept n) (judged_guard k m g) (judged_guard k m h) e in
      (guard_valid n k g f.0 q.0, guard_valid n k h f.1 q.1)
  guard_valid n k (or g h) f e =
      let q = every_append (Kept n) (judged_guard k m g) (judged_guard k m h) e in
      (guard_valid n k g f.0 q.0, guard_valid n k h f.1 q.1)

  guard_or_valid : (n k : ℕ) (g : Option (Formula Tested)) → FairGuard shared g → Every (Kept n) (judged_or k m g) → ValidGuard n k values (guard_or n g)
  guard_or_valid n k none f e = tt
  guard_or_valid n k (some g) f e = (guard_valid n k g f.1 e, rw (depth_over (leaf_in n) middle g) f.0, rw (size_over (leaf_in n) g) f.2)

  set_valid : (n : ℕ) (o : Option Numbered) → FairSet shared o → Every (Kept n) (judged_set m o) → ValidSet values (value_or o)
  set_valid n none f e = tt
  set_valid n (some v) f e = bound v.value f e.0

-- ---- branches

pub units_most : (w : Weight) → units_in w ≤ unit
units_most w = go (units_of w) refl
  where
    go : (o : Option ℕ) → units_of w ≡ o → or_zero o ≤ unit
    go none e = omega arith
    go (some u) e = weight_most w u e

branch_valid : (decimals : Rule) (shared : Bool) (n k m values : ℕ) → ((v : ℕ) → shared ≡ true → v ≤ m → v < values) → (b : BranchShape) → FairBranch shared b
    → Every (Kept n) (judged_branch decimals k m b) → ValidBranch k values (branch_in b)
branch_valid decimals shared n k m values bound b f e =
    let q = every_append (Kept n) (judged_words (1 ∷ []) b.words) (judged_state k b.end ∷ judged_set m b.sets) e.1 in
    record { units = units_most b.weight; end = q.1.0; sets = set_valid shared m values bound n b.sets f q.1.1 }

each_valid : {A B : Type 0} (n : ℕ) (j : A → List Judgement) (f : A → B) (P : A → Type 0) (Q : B → Type 0) → ((x : A) → P x → Every (Kept n) (j x) → Q (f x))
    → (xs : List A) → Every P xs → Every (Kept n) (judged_each j xs) → Every Q (map f xs)
each_valid n j f P Q h [] p e = tt
each_valid n j f P Q h (x ∷ xs) p e =
    let q = every_append (Kept n) (j x) (judged_each j xs) e in
    (h x p.0 q.0, each_valid n j f P Q h xs p.1 q.1)

pub total_units_law : (bs : List BranchShape) → total (map branch_in bs) ≡ total_units (map weight_in bs)
total_units_law [] = refl
total_units_law (b ∷ bs) = ap (λ (x : ℕ). units_in b.weight + x) (total_units_law bs)

-- ---- statements and the card

statement_valid : (decimals : Rule) (shared : Bool) (n k m values : ℕ) → ((v : ℕ) → shared ≡ true → v ≤ m → v < values) → (x : StatementShape) → FairStatement shared x
    → Every (Kept n) (judged_statement decimals k m x) → ValidStatement n k values (statement_in n x)
statement_valid decimals shared n k m values bound x f e =
    let total : List Judgement = sum (map weight_in x.branches) x.close ∷ [] in
    let each = judged_branch decimals k m in
    let e₁ = (every_append (Kept n) (judged_words (1 ∷ []) x.words) (judged_state k x.own ∷ (judged_or k m x.guard ++ (judged_each each x.branches ++ total))) e).1 in
    let e₂ = every_append (Kept n) (judged_or k m x.guard) (judged_each each x.branches ++ total) e₁.1 in
    let e₃ = every_append (Kept n) (judged_each each x.branches) total e₂.1 in
    record {
      own = e₁.0;
      guard = guard_or_valid shared m values bound n k x.guard f.guard e₂.0;
      some = rw (length-map x.branches branch_in) f.some;
      branches = each_valid n each branch_in (FairBranch shared) (ValidBranch k values) (branch_valid decimals shared n k m values bound) x.branches f.branches e₃.0;
      sum = total_units_law x.branches ∙ e₃.1.0;
    }

-- its start is at most its top
shared_valid : (n : ℕ) (g : Option Range) → FairShared g → Every (Kept n) (judged_shared g) → ValidShared (shared_in g)
shared_valid n none f e = tt
shared_valid n (some y) f e = (f, e.0)

shared_bound : (g : Option Range) (v : ℕ) → is_some g ≡ true → v ≤ most_in g → v < values_of (shared_in g)
shared_bound none v e h = absurd (false≢true e)
shared_bound (some y) v e h = omega arith

card_valid : (decimals : Rule) (c : CardShape) → FairCard c → Every (Kept (seats_in c)) (judged_card decimals c) → ValidCard (card_in c)
card_valid decimals c f e =
    let n = seats_in c in
    let m = most_in c.shared in
    let values = values_of (shared_in c.shared) in
    let each = judged_statement decimals c.k m in
    let rest = judged_each each c.statements ++ judged_modules 2 c.modules in
    let e₀ = every_append (Kept n) (judged_shared c.shared) (judged_words (1 ∷ 1 ∷ []) c.words ++ (judged_state c.k c.l ∷ rest)) e in
    let e₁ = (every_append (Kept n) (judged_words (1 ∷ 1 ∷ []) c.words) (judged_state c.k c.l ∷ rest) e₀.1).1 in
    let e₂ = every_append (Kept n) (judged_each each c.statements) (judged_modules 2 c.modules) e₁.1 in
    record {
      shared = shared_valid n c.shared f.shared e₀.0;
      seats = omega arith;
      seats_most = omega (arith, f.modules);
      top = f.top;
      init = e₁.0;
      some = rw (length-map c.statements (statement_in n)) f.some;
      statements = each_valid n each (statement_in n) (FairStatement (is_some c.shared)) (ValidStatement n c.k values)
          (statement_valid decimals (is_some c.shared) n c.k m values (shared_bound c.shared)) c.statements f.statements e₂.0;
    }

-- ---- reading

pub accepted_valid : (decimals : Rule) (s : List ℕ) (c : Card) → Accepted decimals s c → ValidCard c
accepted_valid decimals s c h = rw h.card (card_valid decimals h.shaped.shape (card_fair h.shaped.said h.shaped.within) h.kept)

-- a card that is read is valid
pub read_valid : (decimals : Rule) (s : List ℕ) (c : Card) → read_under decimals s ≡ taken c → ValidCard c
read_valid decimals s c e = accepted_valid decimals s c ((accepted decimals s c).0 e)
