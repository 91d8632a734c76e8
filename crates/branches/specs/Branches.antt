-- What reading a weight, a branch, and the branches of a statement leaves behind it. Assumes nothing.
use Rattle.std.specs.Prelude.{ℕ, ◌-◌, min, ◌≡◌, ◌||◌, List, [], ◌∷◌, ◌++◌, map, eqb, length, set, Ok}
use Rattle.std.proofs.Math.Option.{Option}
use Rattle.card.specs.Limits.{most_branches, numbers, unit}
use Rattle.card.specs.Refusals.{out_of_shape, past_limit, wrong_weight}
use Rattle.card.specs.Text.{when◌then◌else◌}
use Rattle.card.specs.Laid.{pack_branch, set_number}
use Rattle.card.specs.Stored.{stored}
use Rattle.card.specs.Weight.{Weight, Rule}
use Rattle.weights.specs.Judged.{Judged, judged_of}
use Rattle.marks_on_a_card.specs.Kinds.{k_number, k_decimal, kind}
use Rattle.marks.specs.declared.Found.{Found}
use Rattle.marks.specs.Step.{marks_at}
use Rattle.reading.specs.Reader.{Place, Result, Reader, ◌>>=◌, ◌>>◌, return, sign, here, Numbered}
use Rattle.reading.specs.Guard.{is_some}
use Rattle.reading.specs.Judgements.{Judgement, weight, sum, unless, or_zero, units_in}
use Rattle.reading.specs.Shape.{BranchShape, weight as read_weight, setting, sets, branch, more_branches}
use Rattle.reading.specs.Checks.{weight_in, value_or, judged_set, judged_branch, judged_each}
use Rattle.late.specs.Late.{Late, blamed}
use Rattle.late.specs.Values.{shares, most_of}
use Rattle.late.specs.declared.state.State.{State as Carried}
use Rattle.late.specs.Settled.{Refusal, refusal}
use Rattle.late.specs.State.{late_in, value_in, After, Halted}
use Rattle.late_weights.specs.LateWeights.{sum_by}
use Rattle.branches.specs.declared.Bounds.{Bounds}
use Rattle.parts.specs.Parts.{from, Answers, Went, Due, sign as due, seat, marks_due, RunFrom}

-- ---- a weight, by the rule of a weight: its units, or 0 and a late refusal where it is worth nothing

abbrev pub weight_by : Option ℕ → ℕ → Late → Late
weight_by o p late = blamed (unless (is_some o) wrong_weight) p late

-- what was judged, told in the state
pub record Weighed (judged : Judged) (p : ℕ) (was is : Carried) : Type 0 where
  pub value : (o : Option ℕ) → judged ≡ judged_of o → value_in is ≡ or_zero o
  pub late : (o : Option ℕ) → judged ≡ judged_of o → late_in is ≡ weight_by o p (late_in was)

abbrev pub WeightRead : Rule → List ℕ → Late → Place → Result Weight → After → Type 0
WeightRead decimals s before p = Answers s (λ w. Went s before (units_in w) (weight decimals w p ∷ []))

pub record WeightFrom (decimals : Rule) (s : List ℕ) (i : ℕ) (before : Late) (r : After) : Type 0 where
  pub answers : (n : ℕ) → WeightRead decimals s before (marks_at 0 s i) (read_weight (from s i n)) r

-- ---- between a branch's weight and its state

abbrev pub update_due : List Due
update_due = due ":" ∷ due "(" ∷ seat 1 ∷ due "'" ∷ due "=" ∷ []

abbrev pub UpdateFrom : List ℕ → ℕ → Late → After → Type 0
UpdateFrom s i late r = RunFrom s i (marks_due update_due) late r

-- ---- what a branch makes of the shared number (document 02, 2026-10): in numbers one more than it, and 0 for nothing

abbrev pub set_due : List Due
set_due = due "&" ∷ due "(" ∷ due "g" ∷ due "'" ∷ due "=" ∷ []

abbrev pub set_in : Option Numbered → ℕ
set_in v = set_number (value_or v)

abbrev pub SetRead : List ℕ → ℕ → Late → Result (Option Numbered) → After → Type 0
SetRead s most before = Answers s (λ v. Went s before (set_in v) (judged_set most v))

pub record SettingFrom (s : List ℕ) (i most : ℕ) (before : Late) (r : After) : Type 0 where
  pub answers : (n : ℕ) → SetRead s most before (setting (from s i n)) r

-- where a number of so many values is shared
pub record SetsFrom (s : List ℕ) (i values : ℕ) (before : Late) (r : After) : Type 0 where
  pub answers : (n : ℕ) → SetRead s (most_of values) before (sets (shares values) (from s i n)) r

-- ---- a branch, in the array as the packer makes it

abbrev pub packed_in : BranchShape → ℕ
packed_in b = pack_branch (min (units_in b.weight) unit) (min (set_in b.sets) numbers) (min b.end.value numbers)

-- within a card's bounds
abbrev pub branch_by : Bounds → Reader BranchShape
branch_by bounds = branch (shares bounds.values)

abbrev pub judged_by : Bounds → BranchShape → List Judgement
judged_by bounds b = judged_branch bounds.decimals bounds.top (most_of bounds.values) b

pub record Branched (bounds : Bounds) (s : List ℕ) (before : Late) (was is : List ℕ) (place : ℕ) (b : BranchShape) (state : Carried) : Type 0 where
  pub went : Went s before (units_in b.weight) (judged_by bounds b) state
  pub array : is ≡ set was place (packed_in b)

abbrev pub BranchRead : Bounds → List ℕ → Late → List ℕ → List ℕ → ℕ → Result BranchShape → After → Type 0
BranchRead bounds s before was is place = Answers s (Branched bounds s before was is place)

pub record BranchFrom (bounds : Bounds) (s : List ℕ) (i : ℕ) (before : Late) (was is : List ℕ) (place : ℕ) (r : After) : Type 0 where
  pub answers : (n : ℕ) → BranchRead bounds s before was is place (branch_by bounds (from s i n)) r

-- ---- the branches of a statement, with the `;`

pub record BranchesShape : Type 0 where
  pub branches : List BranchShape
  pub close : Place

-- one, and so many more at most
abbrev pub branches : Bounds → ℕ → Reader BranchesShape
branches bounds most = do
  b ← branch_by bounds
  bs ← more_branches (shares bounds.values) most
  p ← here
  sign ";"
  return (record { branches = b ∷ bs; close = p })

abbrev pub judged_branches : Bounds → BranchesShape → List Judgement
judged_branches bounds x = judged_each (judged_by bounds) x.branches ++ (sum (map weight_in x.branches) x.close ∷ [])

-- by the mark behind the last branch
pub record ClosedBy (m : Found) (next count total : ℕ) (late : Late) (r : After) : Type 0 where
  pub closes : m.kind ≡ kind ";" → (r.next ≡ Ok next) × (value_in r.state ≡ count) × (late_in r.state ≡ sum_by total m.place late)
  pub stops : (m.kind ≡ kind ";" → ⊥) → Halted out_of_shape m.place r

-- by the mark where one branch too many begins
abbrev pub past_by : Found → Refusal
past_by m = refusal (when eqb m.kind k_number || eqb m.kind k_decimal then past_limit else out_of_shape) m.place

pub record BranchesIn (bounds : Bounds) (s : List ℕ) (before : Late) (was is : List ℕ) (first : ℕ) (x : BranchesShape) (state : Carried) : Type 0 where
  pub went : Went s before (length x.branches) (judged_branches bounds x) state
  pub array : is ≡ stored was first (map packed_in x.branches)

abbrev pub BranchesRead : Bounds → List ℕ → Late → List ℕ → List ℕ → ℕ → Result BranchesShape → After → Type 0
BranchesRead bounds s before was is first = Answers s (BranchesIn bounds s before was is first)

pub record BranchesFrom (bounds : Bounds) (s : List ℕ) (i : ℕ) (before : Late) (was is : List ℕ) (first : ℕ) (r : After) : Type 0 where
  pub answers : (n : ℕ) → BranchesRead bounds s before was is first (branches bounds (most_branches - 1) (from s i n)) r
