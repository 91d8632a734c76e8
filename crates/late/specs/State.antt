-- The state of reading a card, which the readers lend each other, and what a reader leaves behind it. Assumes nothing.
use Rattle.std.specs.Prelude.{ℕ, ◌≡◌, Ok, Err}
use Rattle.std.specs.Prelude.{Result}
use Rattle.late.specs.Late.{Late, none_yet}
use Rattle.late.specs.Settled.{Refusal, refusal}
use Rattle.late.specs.declared.state.State.{State}
use Rattle.late.specs.declared.state.Stopped.{Stopped}

-- ---- what it holds

-- what is judged late (specs/Late.antt)
abbrev pub late_in : State → Late
late_in state = state.late

-- how many nodes a guard may still have, and where the next one is stored
abbrev pub left_in : State → ℕ
left_in state = state.left

abbrev pub free_in : State → ℕ
free_in state = state.free

-- what a part of the card hands back
abbrev pub value_in : State → ℕ
value_in state = state.value

-- before anything is read: a guard may have so many nodes
abbrev pub at_first : ℕ → State
at_first left = record { late = none_yet; stop = refusal 0 0; left = left; free = 0; value = 0; mode = 0; top = 0; start = 0; shared = 0; initial = 0 }

-- ---- what is changed, and nothing else

abbrev pub with_late : State → Late → State
with_late state x = record state { late = x }

abbrev pub with_stop : State → Refusal → State
with_stop state x = record state { stop = x }

-- ---- what a reader leaves behind it: the state, and the next place or the refusal that it stopped with

abbrev pub NextPlace : Type 0
NextPlace = Result ℕ Refusal

pub record After : Type 0 where
  pub state : State
  pub next : NextPlace

abbrev pub after : State → NextPlace → After
after state next = record { state = state; next = next }

-- the reader of a guard hands back the next place; or it stopped, and the refusal stands in the state
abbrev pub reached : State → Result ℕ Stopped → After
reached state (Ok i) = after state (Ok i)
reached state (Err e) = after state (Err state.stop)

-- it stopped with this refusal
pub record Halted (n p : ℕ) (r : After) : Type 0 where
  pub refused : r.next ≡ Err (refusal n p)
