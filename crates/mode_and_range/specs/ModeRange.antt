-- What reading the mode of a card, and a range with its start, leaves behind it. Assumes nothing.
use Rattle.std.specs.Prelude.{ℕ, ◌≤◌, ◌≡◌, List, [], ◌∷◌, OnOk}
use Rattle.card.specs.Card.{Mode}
use Rattle.card.specs.Laid.{mode_number}
use Rattle.reading.specs.Reader.{Result, Reader, ◌>>=◌, ◌>>◌, the, sign}
use Rattle.reading.specs.Shape.{Range, mode_of, zero_of, top, range}
use Rattle.reading.specs.Checks.{judged_state}
use Rattle.late.specs.Late.{Late}
use Rattle.late.specs.declared.state.State.{State as Carried}
use Rattle.late.specs.State.{late_in, value_in, After}
use Rattle.parts.specs.Parts.{from, Answers, Kept}

-- a number that is not judged
pub record Valued (before : Late) (v : ℕ) (state : Carried) : Type 0 where
  pub value : value_in state ≡ v
  pub late : late_in state ≡ before

abbrev pub ModeRead : List ℕ → Late → Result Mode → After → Type 0
ModeRead s before = Answers s (λ m. Valued before (mode_number m))

pub record ModeFrom (s : List ℕ) (i : ℕ) (before : Late) (r : After) : Type 0 where
  pub answers : (n : ℕ) → ModeRead s before (the mode_of (from s i n)) r

-- ---- 0..k, where k may be `most`

abbrev pub span : ℕ → Reader ℕ
span most = do
  z ← the zero_of
  sign ".."
  top most

abbrev pub SpanRead : List ℕ → Late → Result ℕ → After → Type 0
SpanRead s before = Answers s (Valued before)

pub record SpanFrom (s : List ℕ) (i most : ℕ) (before : Late) (r : After) : Type 0 where
  pub answers : (n : ℕ) → SpanRead s before (span most (from s i n)) r
  pub within : OnOk r.next (value_in r.state ≤ most)

-- ---- the same with what it starts at

pub record RangeIn (s : List ℕ) (before : Late) (x : Range) (state : Carried) : Type 0 where
  pub top : state.top ≡ x.top
  pub start : state.start ≡ x.start.value
  pub late : Kept s before (judged_state x.top x.start ∷ []) state

abbrev pub RangeRead : List ℕ → Late → Result Range → After → Type 0
RangeRead s before = Answers s (RangeIn s before)

pub record RangeFrom (s : List ℕ) (i most : ℕ) (before : Late) (r : After) : Type 0 where
  pub answers : (n : ℕ) → RangeRead s before (range most (from s i n)) r
  pub within : OnOk r.next (r.state.top ≤ most)
