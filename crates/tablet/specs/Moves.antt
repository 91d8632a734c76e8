-- What C is told of who may move (document 02, 2026-07): 0 with a statement's place from 1, 0 and 0 for nobody, or a refusal. Assumes nothing.
use Rattle.std.specs.Prelude.{ℕ}
use Rattle.std.proofs.Math.Option.{Option}
use Rattle.entry.specs.Said.{Said}
use Rattle.able_seats.specs.Moved.{FirstMove}
use Rattle.able_seats.specs.Moved.{moved, move_number, move_value}
use Rattle.answers.specs.declared.OpenPanelAnswer.{OpenPanelAnswer}

abbrev pub move_numbers : FirstMove → OpenPanelAnswer
move_numbers a = record { number = move_number a; value = move_value a }

abbrev pub moved_numbers : Said (Option ℕ) → OpenPanelAnswer
moved_numbers said = move_numbers (moved said)
