-- What the limits of a card count ("What the box holds"), in the order of the text, each with its place ("Refusal numbers"). Assumes nothing.
use Rattle.std.specs.Prelude.{ℕ, suc, ◌+◌, ◌≤◌, ◌<◌, ◌≡◌, Bool, List, [], ◌∷◌, ◌++◌}
use Rattle.std.proofs.Math.Option.{Option}
use Rattle.card.specs.Limits.{most_seats, top_state, top_shared, most_statements, most_branches, most_nodes, most_depth}
use Rattle.card.specs.Card.{Formula}
use Rattle.card.specs.Valid.{size, Every}
use Rattle.marks_on_a_card.specs.Marks.{number, placed}
use Rattle.reading.specs.Reader.{Place, Numbered}
use Rattle.reading.specs.Group.{joint, Tested}
use Rattle.reading.specs.Shape.{BranchShape, StatementShape, Range, CardShape}
use Rattle.grammar.specs.Grammar.{Said, sign_at, LineSaid, module_run, ManySaid, done, again, Part, FormulaSaid, grouped, negated, bracketed, single, further, RestSaid, nothing, guarded, BranchSaid, PlusSaid, plus, StatementSaid, statement, RangeSaid, range, SharedSaid, unshared, sharing, CardSaid, card}

-- the how-manieth of its kind it is, or its value; the most that there may be; where it stands
pub record Counted : Type 0 where
  pub number : ℕ
  pub most : ℕ
  pub place : Place

abbrev pub counted : ℕ → ℕ → Place → Counted
counted v most p = record { number = v; most = most; place = p }

abbrev pub Within : Counted → Type 0
Within x = x.number ≤ x.most

abbrev pub Past : Counted → Type 0
Past x = x.most < x.number

-- the first of them that is past its limit stands at p
pub record FirstPast (cs : List Counted) (p : Place) : Type 0 where
  pub before : List Counted
  pub first : Counted
  pub after : List Counted
  pub split : cs ≡ before ++ (first ∷ after)
  pub within : Every Within before
  pub past : Past first
  pub place : first.place ≡ p

-- ---- guards: nodes, a test at its bracket and a joined node at its sign; and open brackets and `!`

-- so many nodes of the statement stand before it, and so many brackets and `!` are open around it
abbrev pub counted_guard : {A : Type 0} {Free : Place → Type 0} {Group : Place → Said A} {v : Part} {ms r : Place} {g : Formula A} → ℕ → ℕ → FormulaSaid Free Group v ms g r → List Counted
counted_guard nodes around (grouped {a} {ms} x) = counted (suc nodes) most_nodes (sign_at "(" a ∷ ms) ∷ []
counted_guard nodes around (negated {a} {ms} u) =
    counted (suc nodes) most_nodes (sign_at "!" a ∷ ms) ∷ counted (suc around) most_depth (sign_at "!" a ∷ ms) ∷ counted_guard (suc nodes) (suc around) u
counted_guard nodes around (bracketed {a} {ms = ms} f u) = counted (suc around) most_depth (sign_at "(" a ∷ ms) ∷ counted_guard nodes (suc around) u
counted_guard nodes around (single u) = counted_guard nodes around u
counted_guard nodes around (further {s} {a} {ns = ns} {g = g} us u) =
    counted_guard nodes around us
    ++ (counted (suc (nodes + size g)) most_nodes (sign_at (joint s) a ∷ ns) ∷ counted_guard (suc (nodes + size g)) around u)

abbrev pub counted_rest : {shared : Bool} {ms r : Place} {g : Option (Formula Tested)} → RestSaid shared ms g r → List Counted
counted_rest nothing = []
counted_rest (guarded u) = counted_guard 0 0 u

-- ---- any number of things, from the i-th on

abbrev pub counted_many : {A : Type 0} {One : Said A} → ((ms r : Place) (x : A) → ℕ → One ms x r → List Counted)
    → {ms r : Place} {xs : List A} → ℕ → ManySaid One ms xs r → List Counted
counted_many each i done = []
counted_many each i (again {ms} {ns} {x = x} d ds) = each ms ns x i d ++ counted_many each (suc i) ds

-- ---- branches, at their weights

abbrev pub counted_branch : {shared : Bool} (ms r : Place) (x : BranchShape) → ℕ → BranchSaid shared ms x r → List Counted
counted_branch ms r x i d = counted i most_branches ms ∷ []

abbrev pub counted_plus : {shared : Bool} (ms r : Place) (x : BranchShape) → ℕ → PlusSaid shared ms x r → List Counted
counted_plus ms r x i (plus {ms = ns} d) = counted_branch ns r x i d

-- ---- statements and modules

abbrev pub counted_statement : {shared : Bool} (ms r : Place) (x : StatementShape) → ℕ → StatementSaid shared ms x r → List Counted
counted_statement ms r x i (statement {os = os} {qs} {x = b} line rest d ds) =
    counted i most_statements ms ∷ (counted_rest rest ++ (counted_branch os qs b 1 d ++ counted_many counted_plus 2 ds))

abbrev pub counted_module : (ms r : Place) (ws : List Numbered) → ℕ → LineSaid module_run ms ws r → List Counted
counted_module ms r ws i d = counted i most_seats ms ∷ []

-- ---- the card

-- how far a range goes
abbrev pub counted_range : {ms r : Place} {x : Range} → ℕ → RangeSaid ms x r → List Counted
counted_range most (range {k} {l} {c = c} {d} {e} {f} {g} {r}) =
    counted k most (placed (number k) c ∷ sign_at "]" d ∷ sign_at "init" e ∷ placed (number l) f ∷ sign_at ";" g ∷ r) ∷ []

abbrev pub counted_shared : {ms r : Place} {g : Option Range} → SharedSaid ms g r → List Counted
counted_shared unshared = []
counted_shared (sharing line x) = counted_range top_shared x

-- the first module stands at the front
abbrev pub counted_card : {ms : Place} {c : CardShape} → CardSaid ms c → List Counted
counted_card (card {ps = ps} {qs} {x = x} g line y s ss ys) =
    counted_shared g ++ (counted_range top_state y ++ (counted_statement ps qs x 1 s ++ (counted_many counted_statement 2 ss ++ counted_many counted_module 2 ys)))
