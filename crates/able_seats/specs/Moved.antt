-- The answer of `first_move`: a statement by its place, nobody, or a refusal; and its two numbers, which are 0 and the place from 1 for a statement, 0
-- and 0 for nobody ("2026-07"). Assumes nothing.
use Rattle.std.specs.Prelude.{ℕ, Result, Ok, Err}
use Rattle.std.specs.Prelude.{Option as Maybe}
use Rattle.std.specs.Prelude.{None, Some}
use Rattle.card.specs.declared.Refusal.{Refusal}
pub use Rattle.card.specs.Verdict.{Refused}
use Rattle.std.proofs.Math.Option.{Option, none, some}
use Rattle.entry.specs.Said.{Said, says, refused}

abbrev pub FirstMove : Type 0
FirstMove = Result (Maybe ℕ) Refusal

abbrev pub Statement : ℕ → FirstMove
Statement q = Ok (Some q)

abbrev pub Nobody : FirstMove
Nobody = Ok None

-- a statement by its place, as the code has it
abbrev pub place_of : Option ℕ → Maybe ℕ
place_of (some q) = Some q
place_of none = None

abbrev pub moved : Said (Option ℕ) → FirstMove
moved (says m) = Ok (place_of m)
moved (refused number place) = Refused number place

abbrev pub move_number : FirstMove → ℕ
move_number (Ok m) = 0
move_number (Err e) = e.number

abbrev pub move_value : FirstMove → ℕ
move_value (Ok (Some q)) = q
move_value (Ok None) = 0
move_value (Err e) = e.place
