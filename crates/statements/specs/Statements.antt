-- What reading the statements of a card leaves behind it. Assumes nothing.
use Rattle.std.specs.Prelude.{ℕ, ◌+◌, ◌-◌, ◌≡◌, List, [], ◌∷◌, length}
use Rattle.card.specs.Limits.{most_statements}
use Rattle.card.specs.Lent.{Lent}
use Rattle.reading.specs.Reader.{Result, Reader, ◌>>=◌, ◌>>◌, return, sign}
use Rattle.reading.specs.Shape.{StatementShape, more_statements}
use Rattle.reading.specs.Checks.{judged_each}
use Rattle.late.specs.Late.{Late}
use Rattle.late.specs.Values.{shares}
use Rattle.late.specs.declared.state.State.{State as Carried}
use Rattle.late.specs.State.{After}
use Rattle.parts.specs.Parts.{from, Answers, Went}
use Rattle.branches.specs.declared.Bounds.{Bounds}
use Rattle.statements.specs.OneStatement.{with_statement, statement_by, judged_by}

-- the statements, with the keyword behind them

abbrev pub statements : Bounds → ℕ → Reader (List StatementShape)
statements bounds most = do
  x ← statement_by bounds
  xs ← more_statements (shares bounds.values) most
  sign "endmodule"
  return (x ∷ xs)

-- each statement's places filled, from the i-th on
unfoldable pub filled : ℕ → List StatementShape → Lent → Lent
filled i [] a = a
filled i (x ∷ xs) a = filled (i + 1) xs (with_statement i x a)

-- the number is that of the statements
pub record StatementsIn (bounds : Bounds) (s : List ℕ) (before : Late) (was is : Lent) (xs : List StatementShape) (state : Carried) : Type 0 where
  pub went : Went s before (length xs) (judged_each (judged_by bounds) xs) state
  pub memory : is ≡ filled 0 xs was

abbrev pub StatementsRead : Bounds → List ℕ → Late → Lent → Lent → Result (List StatementShape) → After → Type 0
StatementsRead bounds s before was is = Answers s (StatementsIn bounds s before was is)

pub record StatementsFrom (bounds : Bounds) (s : List ℕ) (i : ℕ) (before : Late) (was is : Lent) (r : After) : Type 0 where
  pub answers : (n : ℕ) → StatementsRead bounds s before was is (statements bounds (most_statements - 1) (from s i n)) r
