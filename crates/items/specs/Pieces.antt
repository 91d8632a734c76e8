-- What the pieces of the guard reader promise each other: each goes on from what another has read. Assumes nothing.
use Rattle.std.specs.Prelude.{ℕ, ◌<◌, ◌≡◌, Bool, true, false, List, Ok, Err}
use Rattle.items.specs.declared.Ahead.{Ahead}
use Prim.Native.String.{String}
use Rattle.card.specs.Limits.{most_nodes}
use Rattle.card.specs.Card.{Formula, neg, and, or}
use Rattle.marks_on_a_card.specs.Kinds.{kind}
use Rattle.marks.specs.Step.{step_at, marks_at}
use Rattle.reading.specs.Reader.{at as from, Result, Reader, bind, ◌>>◌, return, sign}
use Rattle.reading.specs.Guard.{chain, conjunction, unary_by}
use Rattle.reading.specs.Group.{joint}
use Rattle.late.specs.Late.{Late}
use Rattle.late.specs.declared.state.State.{State as Carried}
use Rattle.late.specs.State.{left_in, free_in, late_in, After, after}
use Rattle.group.specs.LiteralRead.{sign_in}
use Rattle.items.specs.Language.{Language}
use Rattle.items.specs.KeptItems.{Ready}
use Rattle.items.specs.GuardRead.{GuardRead}

abbrev pub joiner : Bool → String
joiner b = joint (sign_in b)

-- something was read: its nodes are stored, and there is room for what may follow
pub record Begun (state : Carried) : Type 0 where
  pub ready : Ready state
  pub stored : 0 < free_in state

module _ {A : Type 0} where
  abbrev pub join_of : Bool → Formula A → Formula A → Formula A
  join_of false = and
  join_of true = or

  -- a `!` before it, a bracket behind it
  abbrev pub then_not : Formula A → Reader (Formula A)
  then_not g = return (neg g)

  abbrev pub then_close : Formula A → Reader (Formula A)
  then_close g = sign ")" >> return g

module _ (L : Language) where
  abbrev pub Guards : Type 0
  Guards = Reader (Formula L.Item)

  abbrev pub unary_in : ℕ → Guards
  unary_in depth = unary_by L.starts L.item depth

  -- `&` binds before `|`: it joins unaries, and `|` joins what `&` has joined
  abbrev pub operand_of : Bool → ℕ → Guards
  operand_of false depth = unary_in depth
  operand_of true depth = conjunction (unary_in depth)

  abbrev pub chained : Bool → ℕ → Formula L.Item → Guards
  chained b depth g = chain (joiner b) (join_of b) (operand_of b depth) most_nodes g

  -- whatever guard g and the array `mid` stand for: r and the array `is` stand for reading on behind it
  abbrev pub Onward : List ℕ → ℕ → List ℕ → List ℕ → After → (Formula L.Item → Guards) → After → Type 0
  Onward s k mid is g f r =
      (was : List ℕ) (used : ℕ) (before : Late) (x : Result (Formula L.Item))
      → GuardRead L s k was mid used before x g → GuardRead L s k was is used before (bind x f) r

  -- at place i of the card stands no bracket that starts an item
  abbrev pub NoItem : List ℕ → ℕ → Type 0
  NoItem s i = (step_at s i).mark.kind ≡ kind "(" → L.starts (marks_at 0 s (step_at s i).next.at) ≡ false

  -- an item that starts there is a unary, however many brackets may still be opened; where none does nothing changes
  abbrev pub ItemKept : List ℕ → ℕ → ℕ → List ℕ → List ℕ → Carried → Carried → Ahead → Type 0
  ItemKept s i k was is state behind (Ahead.Kept r) = (depth : ℕ) → GuardRead L s k was is (free_in state) (late_in state) (unary_in depth (from (marks_at 0 s i) (left_in state))) (after behind (Ok r))
  ItemKept s i k was is state behind Ahead.NoItem = (is ≡ was) × (behind ≡ state) × NoItem s i
  ItemKept s i k was is state behind Ahead.Stopped = (depth : ℕ) → GuardRead L s k was is (free_in state) (late_in state) (unary_in depth (from (marks_at 0 s i) (left_in state))) (after behind (Err behind.stop))
