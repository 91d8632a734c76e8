-- A state of the game: where the seats are, seat by seat or as counts, and the number that all of them share (document 02, 2026-10). On a card
-- without such a number it is 0. Assumes nothing.
use Rattle.std.specs.Prelude.{ℕ, List}
use Rattle.std.proofs.Math.Option.{Option, none, some}
use Rattle.card.specs.Card.{Shared}
use Rattle.card.specs.Valid.{values_of}
use Rattle.meaning.specs.Sums.{or_one}

-- the state of each seat, or how many seats are in each state
pub record Position : Type 0 where
  pub each : List ℕ
  pub shared : ℕ

abbrev pub position : List ℕ → ℕ → Position
position each shared = record { each = each; shared = shared }

-- what it can be: 0 where there is none
abbrev pub shared_values : Option Shared → ℕ
shared_values s = or_one (values_of s)

-- what a branch makes of it
abbrev pub set_to : ℕ → Option ℕ → ℕ
set_to g none = g
set_to g (some v) = v
