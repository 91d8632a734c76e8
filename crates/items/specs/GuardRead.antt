-- What the code leaves behind it for what reading a guard finds, in any language of guards. Assumes nothing.
use Rattle.std.specs.Prelude.{ℕ, ◌+◌, ◌≡◌, List, length, Ok, Err}
use Rattle.card.specs.Card.{Formula}
use Rattle.card.specs.Valid.{size}
use Rattle.card.specs.Laid.{cells}
use Rattle.card.specs.Stored.{stored}
use Rattle.marks_on_a_card.specs.Marks.{place_of}
use Rattle.marks.specs.Step.{marks_at}
use Rattle.reading.specs.Reader.{State, Result, ok, stop}
use Rattle.late.specs.Late.{Late}
use Rattle.late.specs.State.{NextPlace, left_in, free_in, late_in, After, Halted}
use Rattle.items.specs.Language.{Language, leaves_of, judged_of}

-- there is a next place, and the marks from there on are those left
abbrev pub Reaches : List ℕ → State → NextPlace → Type 0
Reaches s behind (Ok i) = marks_at 0 s i ≡ behind.marks
Reaches s behind (Err e) = ⊥

-- A guard was read from the card s with top state k, its nodes stored from `used` on in the array `was`, which is now `is`; the
-- next place may stand before the blanks of the next mark. Or reading stopped, and the array from `used` on holds anything.
pub record Read (L : Language) (s : List ℕ) (k : ℕ) (was is : List ℕ) (used : ℕ) (before : Late) (g : Formula L.Item) (behind : State) (r : After) : Type 0 where
  pub rest : Reaches s behind r.next
  pub free : free_in r.state ≡ used + size g
  pub left : left_in r.state ≡ behind.nodes
  pub late : late_in r.state ≡ judged_of L k (length s) g before
  pub nodes : is ≡ stored was used (cells (leaves_of L g) used)

abbrev pub GuardRead : (L : Language) → List ℕ → ℕ → List ℕ → List ℕ → ℕ → Late → Result (Formula L.Item) → After → Type 0
GuardRead L s k was is used before (ok g behind) r = Read L s k was is used before g behind r
GuardRead L s k was is used before (stop n p) r = Halted n (place_of (length s) p) r
