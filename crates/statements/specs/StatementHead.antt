-- What reading a statement's parts before its branches leaves behind it: the words before its own state, and its guard with the arrow. Assumes nothing.
use Rattle.std.specs.Prelude.{ℕ, ◌≡◌, Bool, List, [], ◌∷◌}
use Rattle.std.proofs.Math.Option.{Option, none, some}
use Rattle.card.specs.Limits.{most_nodes}
use Rattle.card.specs.Card.{Formula, Guard}
use Rattle.card.specs.Laid.{guard_cells, guard_size}
use Rattle.card.specs.Stored.{stored}
use Rattle.reading.specs.Reader.{Result, Reader, ◌>>=◌, ◌>>◌, return, sign}
use Rattle.reading.specs.Group.{Tested}
use Rattle.reading.specs.Shape.{guard}
use Rattle.reading.specs.Checks.{judged_or}
use Rattle.late.specs.Late.{Late, guard_by}
use Rattle.late.specs.Values.{shares, most_of}
use Rattle.late.specs.declared.state.State.{State as Carried}
use Rattle.late.specs.State.{After}
use Rattle.parts.specs.Parts.{from, Answers, Went, Due, sign as due, seat, marks_due, RunFrom}

-- ---- before a statement's own state

abbrev pub statement_due : List Due
statement_due = due "]" ∷ seat 1 ∷ due "=" ∷ []

abbrev pub OwnFrom : List ℕ → ℕ → Late → After → Type 0
OwnFrom s i late r = RunFrom s i (marks_due statement_due) late r

-- ---- the guard, with the arrow behind it; its number is that of its nodes, which stand from `used` on

abbrev pub guarded : Bool → Reader (Option (Formula Tested))
guarded shared = do
  g ← guard shared
  sign "->"
  return g

abbrev pub guard_or_by : Option (Formula Tested) → Option Guard
guard_or_by none = none
guard_or_by (some g) = some (guard_by g)

-- on a card with top state k, whose shared number has so many values
pub record GuardedIn (s : List ℕ) (k values : ℕ) (before : Late) (was is : List ℕ) (used : ℕ) (g : Option (Formula Tested)) (state : Carried) : Type 0 where
  pub went : Went s before (guard_size (guard_or_by g)) (judged_or k (most_of values) g) state
  pub array : is ≡ stored was used (guard_cells (guard_or_by g) used)

abbrev pub GuardedRead : List ℕ → ℕ → ℕ → Late → List ℕ → List ℕ → ℕ → Result (Option (Formula Tested)) → After → Type 0
GuardedRead s k values before was is used = Answers s (GuardedIn s k values before was is used)

-- in a statement that may have all its nodes yet
pub record GuardedFrom (s : List ℕ) (i k values : ℕ) (before : Late) (was is : List ℕ) (used : ℕ) (r : After) : Type 0 where
  pub answers : GuardedRead s k values before was is used (guarded (shares values) (from s i most_nodes)) r
