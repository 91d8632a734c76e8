-- A shape whose counted things are all within their limits is within the limits of a valid card: each count bounds what it counts. By
-- induction over what is said. Assumes nothing.
use Prim.Native.Nat.{ℕ, suc, ◌+◌, ◌-◌, ◌≤◌, ◌<◌}
use mathlib.Core.Path.{◌≡◌, refl}
use mathlib.Core.Bool.{Bool, true}
use mathlib.Core.List.{List, [], ◌∷◌, ◌++◌}
use mathlib.Core.Option.{Option, none, some}
use native.Mathlib.Omega.{arith}
use lib.ListN.{length}
use Rattle.card.specs.Limits.{most_seats, top_state, top_shared, most_statements, most_branches, most_nodes, most_depth}
use Rattle.card.specs.Card.{Sign, all, any, Formula, atom, neg, and, or}
use Rattle.card.specs.Formulas.{EveryAtom}
use Rattle.card.specs.Valid.{size, Level, loose, middle, tight, depth, Every, Some}
use Rattle.reading.specs.Reader.{Place, Numbered}
use Rattle.reading.specs.Guard.{is_some}
use Rattle.reading.specs.Group.{Literal, Literals, Tested, of_seats, of_shared}
use Rattle.reading.specs.Shape.{BranchShape, StatementShape, Range, CardShape}
use Rattle.grammar.specs.Grammar.{Said, ManySaid, done, again, GroupSaid, conjoined, disjoined, TestedSaid, test_seats, test_shared, Part, unary, joined_by, operand, joining, FormulaSaid, grouped, negated, bracketed, single, further, RestSaid, nothing, guarded, SetSaid, keeps, sets_to, BranchSaid, branch, PlusSaid, plus, StatementSaid, statement, RangeSaid, range, SharedSaid, unshared, sharing, CardSaid, card}
use Rattle.grammar.specs.Counted.{Counted, Within, counted_guard, counted_rest, counted_many, counted_plus, counted_statement, counted_module, counted_range, counted_shared, counted_card}

pub every_append : {A : Type 0} (P : A → Type 0) (xs ys : List A) → Every P (xs ++ ys) → Every P xs × Every P ys
every_append P [] ys e = (tt, e)
every_append P (x ∷ xs) ys e = let k = every_append P xs ys e.1 in ((e.0, k.0), k.1)

-- ---- groups

-- one literal at least; two if joined by `|`
abbrev pub Fair : Sign → List Literal → Type 0
Fair all ls = 0 < length ls
Fair any ls = 1 < length ls

abbrev pub FairGroup : Literals → Type 0
FairGroup a = Fair a.sign a.literals

group_fair : (p ms r : Place) (x : Literals) → GroupSaid p ms x r → FairGroup x
group_fair p ms r _ (conjoined d o) = omega arith
group_fair p ms r _ (disjoined d o) = omega arith

-- a test of the shared number stands only on a card that shares one
abbrev pub FairTest : Bool → Tested → Type 0
FairTest shared (of_seats a) = FairGroup a
FairTest shared (of_shared x) = shared ≡ true

test_fair : {shared : Bool} (p ms r : Place) (x : Tested) → TestedSaid shared p ms x r → FairTest shared x
test_fair p ms r _ (test_seats {x = x} d) = group_fair p ms r x d
test_fair p ms r _ (test_shared d) = refl

-- ---- guards

-- where a part of a guard stands
abbrev pub level_of : Part → Level
level_of unary = tight
level_of (joined_by all) = middle
level_of (joined_by any) = loose

-- with so many brackets and `!`, and nodes, left; and each atom is P
pub record Fits {A : Type 0} (P : A → Type 0) (v : Level) (d n : ℕ) (g : Formula A) : Type 0 where
  pub deep : depth v g ≤ d
  pub large : size g ≤ n
  pub fair : EveryAtom P g

loosen : {A : Type 0} (g : Formula A) → (depth loose g ≤ depth middle g) × (depth middle g ≤ depth tight g) × (depth tight g ≤ suc (depth loose g))
loosen (atom a) = (omega arith, omega arith, omega arith)
loosen (neg g) = (omega arith, omega arith, omega arith)
loosen (and g h) = (omega arith, omega arith, omega arith)
loosen (or g h) = (omega arith, omega arith, omega arith)

module _ {A : Type 0} (P : A → Type 0) where
  single_fits : (s : Sign) (d n : ℕ) (g : Formula A) → Fits P (level_of (operand s)) d n g → Fits P (level_of (joined_by s)) d n g
  single_fits all d n g f = record { deep = omega (arith, loosen g, f.deep); large = f.large; fair = f.fair }
  single_fits any d n g f = record { deep = omega (arith, loosen g, f.deep); large = f.large; fair = f.fair }

  joined_fits : (s : Sign) (d n m : ℕ) (g h : Formula A) → Fits P (level_of (joined_by s)) d n g → Fits P (level_of (operand s)) d m h → suc (size g + m) ≤ n
      → Fits P (level_of (joined_by s)) d n (joining s g h)
  joined_fits all d n m g h f k l = record { deep = omega (arith, f.deep, k.deep); large = omega (arith, k.large); fair = (f.fair, k.fair) }
  joined_fits any d n m g h f k l = record { deep = omega (arith, f.deep, k.deep); large = omega (arith, k.large); fair = (f.fair, k.fair) }

  -- over any language of formulas, whose groups say that their atoms are P
  pub formula_fits : {Free : Place → Type 0} {Group : Place → Said A} → ((p ms r : Place) (x : A) → Group p ms x r → P x)
      → {v : Part} {ms r : Place} {g : Formula A} (u : FormulaSaid Free Group v ms g r) (nodes around : ℕ) → Every Within (counted_guard nodes around u)
      → Fits P (level_of v) (most_depth - around) (most_nodes - nodes) g
  formula_fits each (grouped x) nodes around w = record { deep = omega arith; large = omega (arith, w.0); fair = each _ _ _ _ x }
  formula_fits each (negated u) nodes around w =
      let f = formula_fits each u (suc nodes) (suc around) w.1.1 in
      record { deep = omega (arith, f.deep, w.1.0); large = omega (arith, f.large, w.0); fair = f.fair }
  formula_fits each (bracketed {g = g} f u) nodes around w =
      let f = formula_fits each u nodes (suc around) w.1 in
      record { deep = omega (arith, loosen g, f.deep, w.0); large = f.large; fair = f.fair }
  formula_fits each (single {s} {g = g} u) nodes around w = single_fits s (most_depth - around) (most_nodes - nodes) g (formula_fits each u nodes around w)
  formula_fits each (further {s} {g = g} {h} us u) nodes around w =
      let (v, c) = every_append Within (counted_guard nodes around us) _ w in
      joined_fits s (most_depth - around) (most_nodes - nodes) (most_nodes - suc (nodes + size g)) g h
      (formula_fits each us nodes around v) (formula_fits each u (suc (nodes + size g)) around c.1) (omega (arith, c.0))

abbrev pub FairGuard : Bool → Option (Formula Tested) → Type 0
FairGuard shared none = Unit {0}
FairGuard shared (some g) = (depth middle g ≤ most_depth) × EveryAtom (FairTest shared) g × (size g ≤ most_nodes)

rest_fair : {shared : Bool} {ms r : Place} {g : Option (Formula Tested)} (u : RestSaid shared ms g r) → Every Within (counted_rest u) → FairGuard shared g
rest_fair nothing w = tt
rest_fair {shared} (guarded u) w = let f = formula_fits (FairTest shared) test_fair u 0 0 w in (f.deep, f.fair, f.large)

-- ---- any number of things

module _ {A : Type 0} {One : Said A} (P : A → Type 0) (most : ℕ) (each : (ms r : Place) (x : A) → ℕ → One ms x r → List Counted)
    (one : (ms r : Place) (x : A) (i : ℕ) (d : One ms x r) → Every Within (each ms r x i d) → (i ≤ most) × P x) where
  many_fair : {ms r : Place} {xs : List A} (i : ℕ) (ds : ManySaid One ms xs r) → i ≤ suc most → Every Within (counted_many each i ds)
      → Every P xs × (i + length xs ≤ suc most)
  many_fair i done h w = (tt, omega arith)
  many_fair i (again {ms} {ns} {x = x} d ds) h w =
      let (v, c) = every_append Within (each ms ns x i d) (counted_many each (suc i) ds) w in
      let (l, p) = one ms ns x i d v in
      let (ps, q) = many_fair (suc i) ds (omega arith) c in
      ((p, ps), omega arith)

abbrev Anything : {A : Type 0} → A → Type 0
Anything a = Unit {0}

-- ---- statements and the card

-- it is set only on a card that shares one
abbrev pub FairSet : Bool → Option Numbered → Type 0
FairSet shared none = Unit {0}
FairSet shared (some v) = shared ≡ true

abbrev pub FairBranch : Bool → BranchShape → Type 0
FairBranch shared b = FairSet shared b.sets

set_fair : {shared : Bool} {ms r : Place} {v : Option Numbered} → SetSaid shared ms v r → FairSet shared v
set_fair keeps = tt
set_fair (sets_to l) = refl

branch_fair : {shared : Bool} {ms r : Place} {x : BranchShape} → BranchSaid shared ms x r → FairBranch shared x
branch_fair (branch d l s) = set_fair s

pub record FairStatement (shared : Bool) (x : StatementShape) : Type 0 where
  pub guard : FairGuard shared x.guard
  pub some : Some most_branches x.branches
  pub branches : Every (FairBranch shared) x.branches

plus_fair : {shared : Bool} (ms r : Place) (x : BranchShape) (i : ℕ) (d : PlusSaid shared ms x r) → Every Within (counted_plus ms r x i d)
    → (i ≤ most_branches) × FairBranch shared x
plus_fair ms r x i (plus d) w = (w.0, branch_fair d)

statement_fair : {shared : Bool} (ms r : Place) (x : StatementShape) (i : ℕ) (d : StatementSaid shared ms x r) → Every Within (counted_statement ms r x i d)
    → (i ≤ most_statements) × FairStatement shared x
statement_fair {shared} ms r x i (statement front u d ds) w =
    let (v, c) = every_append Within (counted_rest u) _ w.1 in
    let k = many_fair (FairBranch shared) most_branches counted_plus plus_fair 2 ds (omega arith) c.1 in
    (w.0, record { guard = rest_fair u v; some = (omega arith, omega (arith, k.1)); branches = (branch_fair d, k.0) })

-- so far a range may go
abbrev pub FairRange : ℕ → Range → Type 0
FairRange most y = y.top ≤ most

abbrev pub FairShared : Option Range → Type 0
FairShared none = Unit {0}
FairShared (some y) = FairRange top_shared y

range_fair : {ms r : Place} {y : Range} (d : RangeSaid ms y r) (most : ℕ) → Every Within (counted_range most d) → FairRange most y
range_fair range most w = w.0

shared_fair : {ms r : Place} {g : Option Range} (d : SharedSaid ms g r) → Every Within (counted_shared d) → FairShared g
shared_fair unshared w = tt
shared_fair (sharing l d) w = range_fair d top_shared w

pub record FairCard (c : CardShape) : Type 0 where
  pub shared : FairShared c.shared
  pub top : c.k ≤ top_state
  pub statements : Every (FairStatement (is_some c.shared)) c.statements
  pub some : Some most_statements c.statements
  pub modules : length c.modules ≤ most_seats - 1

pub card_fair : {ms : Place} {c : CardShape} (d : CardSaid ms c) → Every Within (counted_card d) → FairCard c
card_fair (card {ps = ps} {qs} {g = g} {x = x} d front y s ss ys) w =
    let (w₁, w₂) = every_append Within (counted_shared d) _ w in
    let (w₃, w₄) = every_append Within (counted_range top_state y) _ w₂ in
    let (v, c) = every_append Within (counted_statement ps qs x 1 s) _ w₄ in
    let (u, e) = every_append Within (counted_many counted_statement 2 ss) _ c in
    let k = many_fair (FairStatement (is_some g)) most_statements counted_statement statement_fair 2 ss (omega arith) u in
    let l = many_fair Anything most_seats counted_module (λ ms r ws i d w. (w.0, tt)) 2 ys (omega arith) e in
    record {
      shared = shared_fair d w₁;
      top = range_fair y top_state w₃;
      statements = ((statement_fair ps qs x 1 s v).1, k.0);
      some = (omega arith, omega (arith, k.1));
      modules = omega (arith, l.1);
    }
