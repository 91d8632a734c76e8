-- The same seats in another order: only the place of refusal 9, which names the first seat above k, may change. Assumes nothing.
use Rattle.std.specs.Prelude.{ℕ, ◌≡◌, ◌⊎◌, List, [], take, drop}
use Rattle.std.proofs.Math.Option.{Option, none, some}
use Rattle.card.specs.Refusals.{seat_above_top}
use Rattle.card.specs.Card.{Shared, Card}
use Rattle.meaning.specs.Reordered.{Swapped}
use Rattle.reading.specs.Reading.{taken, read_of}
use Rattle.entry.specs.Said.{refused}
use Rattle.room.specs.Answer.{answer_number}
use Rattle.room.specs.Answer.{Answer}
use Rattle.panel_said.specs.PanelSaid.{panel_said}

-- the bytes of the seats, and those behind them: all are seats where no number is shared, else the first n (document 02, 2026-10)
abbrev pub seat_bytes : Option Shared → ℕ → List ℕ → List ℕ
seat_bytes none n x = x
seat_bytes (some s) n x = take n x

abbrev pub bytes_behind : Option Shared → ℕ → List ℕ → List ℕ
bytes_behind none n x = []
bytes_behind (some s) n x = drop n x

pub record SeatsReordered (c : Card) (x y : List ℕ) : Type 0 where
  pub seats : Swapped (seat_bytes c.shared c.n x) (seat_bytes c.shared c.n y)
  pub behind : bytes_behind c.shared c.n x ≡ bytes_behind c.shared c.n y

-- on whichever card these bytes are
abbrev pub ReorderedOn : List ℕ → List ℕ → List ℕ → Type 0
ReorderedOn card x y = (c : Card) → read_of card ≡ taken c → SeatsReordered c x y

-- what is said is the same, or both are 9
abbrev pub SaidAlike : List ℕ → List ℕ → List ℕ → Type 0
SaidAlike card x y =
    (panel_said card x ≡ panel_said card y)
    ⊎ ((p : ℕ) × (q : ℕ) × (panel_said card x ≡ refused seat_above_top p) × (panel_said card y ≡ refused seat_above_top q))

-- two answers and the rooms afterwards
pub record Alike (a b : Answer) (is-a is_b : List ℕ) : Type 0 where
  pub rooms : is-a ≡ is_b
  pub numbers : answer_number a ≡ answer_number b
  pub answers : (answer_number a ≡ seat_above_top → ⊥) → a ≡ b
