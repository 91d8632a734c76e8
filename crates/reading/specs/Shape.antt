-- The shape of a card ("Shape of a card"), with its limits ("What the box holds"), and with a number that its seats share (document 02,
-- 2026-10). Assumes nothing.
use Rattle.std.specs.Prelude.{ℕ, zero, suc, ◌-◌, Bool, true, false, List, [], ◌∷◌, eqb, leb}
use Prim.Native.String.{String}
use Rattle.std.proofs.Math.Option.{Option, none, some}
use Rattle.card.specs.Limits.{most_seats, top_state, top_shared, most_statements, most_branches, most_nodes, most_depth}
use Rattle.card.specs.Refusals.{out_of_shape, past_limit}
use Rattle.card.specs.Text.{when◌then◌else◌}
use Rattle.card.specs.Card.{Mode, nondeterministic, probabilistic, Formula}
use Rattle.card.specs.Weight.{Weight, whole, decimal as point, ratio}
use Rattle.marks_on_a_card.specs.Marks.{Mark, text, seat, process, number, decimal, outside}
use Rattle.reading.specs.Reader.{Place, at, Result, ok, stop, Reader, ◌>>=◌, ◌>>◌, return, refuse, refuse_at, the, is, if_next, sign, number_of, here, Numbered, numbered, exactly, seat_word, process_word, line}
use Rattle.reading.specs.Guard.{is_some, conjunction, unary}
use Rattle.reading.specs.Group.{Tested, tested}

-- ---- what stands on a card of the right shape, and where

pub record BranchShape : Type 0 where
  pub place : Place
  pub weight : Weight
  pub words : List Numbered  -- its seat word
  pub end : Numbered
  pub sets : Option Numbered  -- what it makes of the shared number

pub record StatementShape : Type 0 where
  pub words : List Numbered  -- its seat word
  pub own : Numbered
  pub guard : Option (Formula Tested)
  pub branches : List BranchShape
  pub close : Place

-- [0..top] init start;
pub record Range : Type 0 where
  pub top : ℕ
  pub start : Numbered

pub record CardShape : Type 0 where
  pub mode : Mode
  pub shared : Option Range  -- of the shared number, where one is declared
  pub words : List Numbered  -- the module's word and the seat's
  pub k : ℕ
  pub l : Numbered
  pub statements : List StatementShape
  pub modules : List (List Numbered)  -- the six words of each further module

-- ---- counted repetition: as often as a thing starts, and then one past the most is refused

abbrev pub many : {A : Type 0} → ℕ → String → Reader A → Reader (List A) → Reader (List A)
many zero t one past = if_next t past (return [])
many (suc most) t one past =
    if_next t
    (do
      x ← one
      xs ← many most t one past
      return (x ∷ xs))
    (return [])

-- ---- branches

abbrev pub weight_of : Mark → Option Weight
weight_of (text s) = none
weight_of (seat i) = none
weight_of (process i) = none
weight_of (number v) = some (whole v)
weight_of (decimal v n f) = some (point v n f)
weight_of outside = none

-- a number, two numbers with `/` between, or a decimal
abbrev pub over : Weight → Reader Weight
over (whole a) =
    if_next "/"
    (do
      sign "/"
      b ← the number_of
      return (ratio a b))
    (return (whole a))
over (point v n f) = return (point v n f)
over (ratio a b) = return (ratio a b)

abbrev pub weight : Reader Weight
weight = do
  w ← the weight_of
  over w

-- & (g'=v), if it stands there
abbrev pub setting : Reader (Option Numbered)
setting =
    if_next "&"
    (do
      ws ← line (exactly "&" ∷ exactly "(" ∷ exactly "g" ∷ exactly "'" ∷ exactly "=" ∷ [])
      v ← numbered number_of
      sign ")"
      return (some v))
    (return none)

-- only on a card that shares a number
abbrev pub sets : Bool → Reader (Option Numbered)
sets false = return none
sets true = setting

abbrev pub branch : Bool → Reader BranchShape
branch shared = do
  p ← here
  w ← weight
  ws ← line (exactly ":" ∷ exactly "(" ∷ seat_word ∷ exactly "'" ∷ exactly "=" ∷ [])
  t ← numbered number_of
  sign ")"
  v ← sets shared
  return (record { place = p; weight = w; words = ws; end = t; sets = v })

abbrev pub next_branch : Bool → Reader BranchShape
next_branch shared = sign "+" >> branch shared

-- one branch too many starts with a weight's first mark
abbrev pub past_branches : Reader (List BranchShape)
past_branches = do
  sign "+"
  p ← here
  w ← the weight_of
  refuse_at past_limit p

abbrev pub more_branches : Bool → ℕ → Reader (List BranchShape)
more_branches shared most = many most "+" (next_branch shared) past_branches

-- ---- statements

unfoldable pub guard : Bool → Reader (Option (Formula Tested))
guard shared =
    if_next "&"
    (do
      sign "&"
      g ← conjunction (unary shared tested most_depth)
      return (some g))
    (return none)

-- a new statement may have so many nodes
abbrev pub may_have : ℕ → Reader (Unit {0})
may_have n = λ s. ok tt (at s.marks n)

abbrev pub statement : Bool → Reader StatementShape
statement shared = do
  ws ← line (exactly "[" ∷ exactly "]" ∷ seat_word ∷ exactly "=" ∷ [])
  j ← numbered number_of
  may_have most_nodes
  g ← guard shared
  sign "->"
  b ← branch shared
  bs ← more_branches shared (most_branches - 1)
  p ← here
  sign ";"
  return (record { words = ws; own = j; guard = g; branches = b ∷ bs; close = p })

abbrev pub more_statements : Bool → ℕ → Reader (List StatementShape)
more_statements shared most = many most "[" (statement shared) (refuse past_limit)

-- ---- the further modules

abbrev pub copy : Reader (List Numbered)
copy = line
    (exactly "module" ∷ process_word ∷ exactly "=" ∷ process_word
    ∷ exactly "[" ∷ seat_word ∷ exactly "=" ∷ seat_word ∷ exactly "," ∷ seat_word ∷ exactly "=" ∷ seat_word ∷ exactly "]"
    ∷ exactly "endmodule" ∷ [])

abbrev pub more_modules : ℕ → Reader (List (List Numbered))
more_modules most = many most "module" copy (refuse past_limit)

-- ---- the card

abbrev pub mode_of : Mark → Option Mode
mode_of m = when is "nondeterministic" m then some nondeterministic else (when is "probabilistic" m then some probabilistic else none)

-- only `0` fits before `..`
abbrev pub only_zero : Option ℕ → Option ℕ
only_zero none = none
only_zero (some v) = when eqb v 0 then some v else none

abbrev pub zero_of : Mark → Option ℕ
zero_of m = only_zero (number_of m)

abbrev pub top : ℕ → Reader ℕ
top most = do
  p ← here
  k ← the number_of
  when leb k most then return k else refuse_at past_limit p

-- behind its opening bracket
abbrev pub range : ℕ → Reader Range
range most = do
  z ← the zero_of
  sign ".."
  k ← top most
  sign "]"
  sign "init"
  l ← numbered number_of
  sign ";"
  return (record { top = k; start = l })

-- global g : [0..m] init v;
abbrev pub declaration : Reader Range
declaration = do
  ws ← line (exactly "global" ∷ exactly "g" ∷ exactly ":" ∷ exactly "[" ∷ [])
  range top_shared

abbrev pub ended : Place → ℕ → Result (Unit {0})
ended [] n = ok tt (at [] n)
ended (m ∷ ms) n = stop out_of_shape (m ∷ ms)

abbrev pub the_end : Reader (Unit {0})
the_end = λ s. ended s.marks s.nodes

-- behind the mode, and behind the shared number where one is declared
abbrev pub modules : Mode → Option Range → Reader CardShape
modules mode g = do
  ws ← line (exactly "module" ∷ process_word ∷ seat_word ∷ exactly ":" ∷ exactly "[" ∷ [])
  r ← range top_state
  x ← statement (is_some g)
  xs ← more_statements (is_some g) (most_statements - 1)
  sign "endmodule"
  ms ← more_modules (most_seats - 1)
  return (record { mode = mode; shared = g; words = ws; k = r.top; l = r.start; statements = x ∷ xs; modules = ms })

abbrev pub body : Reader CardShape
body = do
  mode ← the mode_of
  if_next "global"
      (do
        g ← declaration
        modules mode (some g))
      (modules mode none)

abbrev pub card : Reader CardShape
card = do
  c ← body
  the_end
  return c
