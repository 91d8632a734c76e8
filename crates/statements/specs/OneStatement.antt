-- What reading a statement leaves behind it. Assumes nothing.
use Rattle.std.specs.Prelude.{ℕ, ◌*◌, ◌≡◌, List, [], ◌∷◌, map, length}
use Rattle.card.specs.Limits.{row_numbers, most_nodes, most_branches}
use Rattle.card.specs.Laid.{guard_cells, guard_size}
use Rattle.card.specs.Rows.{rows_of}
use Rattle.card.specs.Lent.{Lent, lent}
use Rattle.card.specs.Stored.{stored}
use Rattle.card.specs.declared.Statement.{Statement}
use Rattle.reading.specs.Reader.{State, Result, ok, Reader, sign}
use Rattle.reading.specs.Judgements.{Judgement}
use Rattle.reading.specs.Shape.{StatementShape, statement}
use Rattle.reading.specs.Checks.{judged_statement}
use Rattle.late.specs.Late.{Late}
use Rattle.late.specs.Values.{shares, most_of}
use Rattle.late.specs.declared.state.State.{State as Carried}
use Rattle.late.specs.State.{After}
use Rattle.parts.specs.Parts.{from, Answers, Kept}
use Rattle.branches.specs.declared.Bounds.{Bounds}
use Rattle.branches.specs.Branches.{packed_in}
use Rattle.statements.specs.StatementHead.{guard_or_by}

-- ---- a statement's numbers

abbrev pub row_by : StatementShape → Statement
row_by x = record { own = x.own.value; nodes = guard_size (guard_or_by x.guard); branches = length x.branches }

-- the i-th statement's places in the card's arrays, filled
abbrev pub with_statement : ℕ → StatementShape → Lent → Lent
with_statement i x a =
    lent (stored a.rows (i * row_numbers) (rows_of (row_by x ∷ [])))
    (stored a.nodes (i * most_nodes) (guard_cells (guard_or_by x.guard) (i * most_nodes)))
    (stored a.branches (i * most_branches) (map packed_in x.branches))

-- within a card's bounds
abbrev pub statement_by : Bounds → Reader StatementShape
statement_by bounds = statement (shares bounds.values)

abbrev pub judged_by : Bounds → StatementShape → List Judgement
judged_by bounds x = judged_statement bounds.decimals bounds.top (most_of bounds.values) x

pub record StatementIn (bounds : Bounds) (s : List ℕ) (before : Late) (was is : Lent) (index : ℕ) (x : StatementShape) (state : Carried) : Type 0 where
  pub late : Kept s before (judged_by bounds x) state
  pub memory : is ≡ with_statement index x was

abbrev pub StatementRead : Bounds → List ℕ → Late → Lent → Lent → ℕ → Result StatementShape → After → Type 0
StatementRead bounds s before was is index = Answers s (StatementIn bounds s before was is index)

-- the cursor stands behind the statement's first mark
pub record StatementFrom (bounds : Bounds) (s : List ℕ) (i : ℕ) (before : Late) (was is : Lent) (index : ℕ) (r : After) : Type 0 where
  pub answers : (st : State) (n : ℕ) → sign "[" st ≡ ok tt (from s i n) → StatementRead bounds s before was is index (statement_by bounds st) r
