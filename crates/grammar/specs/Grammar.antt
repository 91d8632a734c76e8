-- The grammar of a card ("Shape of a card"), without its limits, and with a number that its seats share (document 02, 2026-10). Each relation
-- says: the marks ms begin with such a thing, which says x, and go on with r. The places in marks are any. Assumes nothing.
use Rattle.std.specs.Prelude.{ℕ, Bool, true, List, [], ◌∷◌}
use Prim.Native.String.{String}
use Rattle.std.proofs.Math.Option.{Option, none, some}
use Rattle.card.specs.Text.{bytes}
use Rattle.card.specs.Card.{Mode, nondeterministic, probabilistic, Sign, all, any, Relation, Formula, atom, neg, and, or}
use Rattle.card.specs.Weight.{Weight, whole, decimal as point, ratio}
use Rattle.marks_on_a_card.specs.Marks.{text, seat, process, number, decimal, Placed, placed}
use Rattle.reading.specs.Reader.{Place, Numbered, Item, exactly, seat_word, process_word}
use Rattle.reading.specs.Group.{joint, relation, Literal, literal_of, Literals, literals_of, SharedTest, Tested, of_seats, of_shared}
use Rattle.reading.specs.Guard.{is_some}
use Rattle.reading.specs.Shape.{BranchShape, StatementShape, Range, CardShape}

abbrev pub Said : Type 0 → Type 1
Said A = Place → A → Place → Type 0

-- a sign or keyword, at p
abbrev pub sign_at : String → ℕ → Placed
sign_at t p = placed (text (bytes t)) p

abbrev pub valued : ℕ → Place → Numbered
valued v ms = record { value = v; place = ms }

-- ---- runs of marks that are fixed but for the numbers in words

pub data LineSaid : List Item → Place → List Numbered → Place → Type 0 where
  ended : {r : Place} → LineSaid [] r [] r
  fixed : {t : String} {p : ℕ} {items : List Item} {ms r : Place} {ws : List Numbered}
      → LineSaid items ms ws r
      → LineSaid (exactly t ∷ items) (sign_at t p ∷ ms) ws r
  a_seat : {i p : ℕ} {items : List Item} {ms r : Place} {ws : List Numbered}
      → LineSaid items ms ws r
      → LineSaid (seat_word ∷ items) (placed (seat i) p ∷ ms) (valued i (placed (seat i) p ∷ ms) ∷ ws) r
  a_process : {i p : ℕ} {items : List Item} {ms r : Place} {ws : List Numbered}
      → LineSaid items ms ws r
      → LineSaid (process_word ∷ items) (placed (process i) p ∷ ms) (valued i (placed (process i) p ∷ ms) ∷ ws) r

-- behind the mode: global g : [
abbrev pub shared_run : List Item
shared_run = exactly "global" ∷ exactly "g" ∷ exactly ":" ∷ exactly "[" ∷ []

-- module process1 s1 : [
abbrev pub card_run : List Item
card_run = exactly "module" ∷ process_word ∷ seat_word ∷ exactly ":" ∷ exactly "[" ∷ []

-- [] s1=
abbrev pub statement_run : List Item
statement_run = exactly "[" ∷ exactly "]" ∷ seat_word ∷ exactly "=" ∷ []

-- :(s1'=
abbrev pub branch_run : List Item
branch_run = exactly ":" ∷ exactly "(" ∷ seat_word ∷ exactly "'" ∷ exactly "=" ∷ []

-- & (g'=
abbrev pub set_run : List Item
set_run = exactly "&" ∷ exactly "(" ∷ exactly "g" ∷ exactly "'" ∷ exactly "=" ∷ []

-- module process2 = process1 [s1=s2, s2=s1] endmodule
abbrev pub module_run : List Item
module_run =
    exactly "module" ∷ process_word ∷ exactly "=" ∷ process_word
    ∷ exactly "[" ∷ seat_word ∷ exactly "=" ∷ seat_word ∷ exactly "," ∷ seat_word ∷ exactly "=" ∷ seat_word ∷ exactly "]"
    ∷ exactly "endmodule" ∷ []

-- ---- any number of things

pub data ManySaid {A : Type 0} (One : Said A) : Place → List A → Place → Type 0 where
  done : {r : Place} → ManySaid One r [] r
  again : {ms ns r : Place} {x : A} {xs : List A} → One ms x ns → ManySaid One ns xs r → ManySaid One ms (x ∷ xs) r

-- ---- groups

pub data LiteralSaid : Place → Literal → Place → Type 0 where
  literal : {i d a b c : ℕ} {q : Relation} {r : Place}
      → LiteralSaid (placed (seat i) a ∷ sign_at (relation q) b ∷ placed (number d) c ∷ r) (literal_of i q d (placed (number d) c ∷ r)) r

-- further things of one kind, each behind the sign, and the closing bracket
pub data JoinedSaid {A : Type 0} (One : Said A) (s : Sign) : Place → List A → Place → Type 0 where
  close : {a : ℕ} {r : Place} → JoinedSaid One s (sign_at ")" a ∷ r) [] r
  next : {a : ℕ} {ms ns r : Place} {l : A} {ls : List A}
      → One ms l ns → JoinedSaid One s ns ls r
      → JoinedSaid One s (sign_at (joint s) a ∷ ms) (l ∷ ls) r

abbrev pub OthersSaid : Sign → Place → List Literal → Place → Type 0
OthersSaid s = JoinedSaid LiteralSaid s

-- behind a bracket at p; a literal alone goes with `&`
pub data GroupSaid (p : Place) : Place → Literals → Place → Type 0 where
  conjoined : {ms ns r : Place} {l : Literal} {ls : List Literal}
      → LiteralSaid ms l ns → OthersSaid all ns ls r
      → GroupSaid p ms (literals_of p all (l ∷ ls)) r
  disjoined : {ms ns r : Place} {l k : Literal} {ls : List Literal}
      → LiteralSaid ms l ns → OthersSaid any ns (k ∷ ls) r
      → GroupSaid p ms (literals_of p any (l ∷ k ∷ ls)) r

-- ---- tests of the shared number, behind a bracket

pub data SharedTestSaid : Place → SharedTest → Place → Type 0 where
  shared_test : {v a b c d : ℕ} {q : Relation} {r : Place}
      → SharedTestSaid (sign_at "g" a ∷ sign_at (relation q) b ∷ placed (number v) c ∷ sign_at ")" d ∷ r)
      (record { relation = q; value = valued v (placed (number v) c ∷ sign_at ")" d ∷ r) }) r

-- ---- what a guard tests, behind a bracket at p: on a card that shares a number also that number

pub data TestedSaid : Bool → Place → Place → Tested → Place → Type 0 where
  test_seats : {shared : Bool} {p ms r : Place} {x : Literals} → GroupSaid p ms x r → TestedSaid shared p ms (of_seats x) r
  test_shared : {p ms r : Place} {x : SharedTest} → SharedTestSaid ms x r → TestedSaid true p ms (of_shared x) r

-- ---- guards

-- a unary, or operands joined by a sign
pub data Part : Type 0 where
  unary : Part
  joined_by : Sign → Part

-- what the sign joins: `&` unaries, `|` what `&` has joined
abbrev pub operand : Sign → Part
operand all = unary
operand any = joined_by all

abbrev pub joining : {A : Type 0} → Sign → Formula A → Formula A → Formula A
joining all g h = and g h
joining any g h = or g h

-- over what a group is: said of the place of its bracket and of the marks behind it; and over what may stand behind an expression's bracket
pub data FormulaSaid {A : Type 0} (Free : Place → Type 0) (Group : Place → Said A) : Part → Place → Formula A → Place → Type 0 where
  grouped : {a : ℕ} {ms r : Place} {x : A} → Group (sign_at "(" a ∷ ms) ms x r → FormulaSaid Free Group unary (sign_at "(" a ∷ ms) (atom x) r
  negated : {a : ℕ} {ms r : Place} {g : Formula A} → FormulaSaid Free Group unary ms g r → FormulaSaid Free Group unary (sign_at "!" a ∷ ms) (neg g) r
  bracketed : {a b : ℕ} {ms r : Place} {g : Formula A}
      → Free ms → FormulaSaid Free Group (joined_by any) ms g (sign_at ")" b ∷ r)
      → FormulaSaid Free Group unary (sign_at "(" a ∷ ms) g r
  single : {s : Sign} {ms r : Place} {g : Formula A} → FormulaSaid Free Group (operand s) ms g r → FormulaSaid Free Group (joined_by s) ms g r
  further : {s : Sign} {a : ℕ} {ms ns r : Place} {g h : Formula A}
      → FormulaSaid Free Group (joined_by s) ms g (sign_at (joint s) a ∷ ns) → FormulaSaid Free Group (operand s) ns h r
      → FormulaSaid Free Group (joined_by s) ms (joining s g h) r

-- on a card anything may
abbrev pub Anything : Place → Type 0
Anything ms = Unit {0}

abbrev pub GuardSaid : {A : Type 0} → (Place → Said A) → Part → Place → Formula A → Place → Type 0
GuardSaid Group v ms g r = FormulaSaid Anything Group v ms g r

-- behind the local guard: any number of `& unary`
pub data RestSaid (shared : Bool) : Place → Option (Formula Tested) → Place → Type 0 where
  nothing : {r : Place} → RestSaid shared r none r
  guarded : {a : ℕ} {ms r : Place} {g : Formula Tested} → GuardSaid (TestedSaid shared) (joined_by all) ms g r → RestSaid shared (sign_at "&" a ∷ ms) (some g) r

-- ---- branches

pub data WeightSaid : Place → Weight → Place → Type 0 where
  a_number : {v a : ℕ} {r : Place} → WeightSaid (placed (number v) a ∷ r) (whole v) r
  a_ratio : {v w a b c : ℕ} {r : Place} → WeightSaid (placed (number v) a ∷ sign_at "/" b ∷ placed (number w) c ∷ r) (ratio v w) r
  a_decimal : {v n f a : ℕ} {r : Place} → WeightSaid (placed (decimal v n f) a ∷ r) (point v n f) r

-- the update of the shared number, if there is one
pub data SetSaid : Bool → Place → Option Numbered → Place → Type 0 where
  keeps : {shared : Bool} {r : Place} → SetSaid shared r none r
  sets_to : {v a b : ℕ} {ms r : Place} {ws : List Numbered}
      → LineSaid set_run ms ws (placed (number v) a ∷ sign_at ")" b ∷ r)
      → SetSaid true ms (some (valued v (placed (number v) a ∷ sign_at ")" b ∷ r))) r

pub data BranchSaid (shared : Bool) : Place → BranchShape → Place → Type 0 where
  branch : {t a b : ℕ} {ms ns os r : Place} {w : Weight} {ws : List Numbered} {v : Option Numbered}
      → WeightSaid ms w ns
      → LineSaid branch_run ns ws (placed (number t) a ∷ sign_at ")" b ∷ os)
      → SetSaid shared os v r
      → BranchSaid shared ms (record { place = ms; weight = w; words = ws; end = valued t (placed (number t) a ∷ sign_at ")" b ∷ os); sets = v }) r

-- + and a branch
pub data PlusSaid (shared : Bool) : Place → BranchShape → Place → Type 0 where
  plus : {a : ℕ} {ms r : Place} {x : BranchShape} → BranchSaid shared ms x r → PlusSaid shared (sign_at "+" a ∷ ms) x r

-- ---- statements

pub data StatementSaid (shared : Bool) : Place → StatementShape → Place → Type 0 where
  statement : {j a b c : ℕ} {ms ns os qs r : Place} {ws : List Numbered} {g : Option (Formula Tested)} {x : BranchShape} {xs : List BranchShape}
      → LineSaid statement_run ms ws (placed (number j) a ∷ ns)
      → RestSaid shared ns g (sign_at "->" b ∷ os)
      → BranchSaid shared os x qs
      → ManySaid (PlusSaid shared) qs xs (sign_at ";" c ∷ r)
      → StatementSaid shared ms (record { words = ws; own = valued j (placed (number j) a ∷ ns); guard = g; branches = x ∷ xs; close = sign_at ";" c ∷ r }) r

-- ---- the card

abbrev pub mode_word : Mode → String
mode_word nondeterministic = "nondeterministic"
mode_word probabilistic = "probabilistic"

-- [0..k] init l; behind its opening bracket
pub data RangeSaid : Place → Range → Place → Type 0 where
  range : {k l a b c d e f g : ℕ} {r : Place}
      → RangeSaid (placed (number 0) a ∷ sign_at ".." b ∷ placed (number k) c ∷ sign_at "]" d ∷ sign_at "init" e ∷ placed (number l) f ∷ sign_at ";" g ∷ r)
      (record { top = k; start = valued l (placed (number l) f ∷ sign_at ";" g ∷ r) }) r

-- behind the mode: the shared number, if there is one
pub data SharedSaid : Place → Option Range → Place → Type 0 where
  unshared : {r : Place} → SharedSaid r none r
  sharing : {ms ns r : Place} {ws : List Numbered} {x : Range} → LineSaid shared_run ms ws ns → RangeSaid ns x r → SharedSaid ms (some x) r

pub data CardSaid : Place → CardShape → Type 0 where
  card : {mode : Mode} {a b : ℕ} {ms ns os ps qs rs : Place} {g : Option Range} {ws : List Numbered} {y : Range} {x : StatementShape} {xs : List StatementShape} {ys : List (List Numbered)}
      → SharedSaid ms g ns
      → LineSaid card_run ns ws os
      → RangeSaid os y ps
      → StatementSaid (is_some g) ps x qs
      → ManySaid (StatementSaid (is_some g)) qs xs (sign_at "endmodule" b ∷ rs)
      → ManySaid (LineSaid module_run) rs ys []
      → CardSaid (sign_at (mode_word mode) a ∷ ms)
      (record { mode = mode; shared = g; words = ws; k = y.top; l = y.start; statements = x ∷ xs; modules = ys })
