-- A room that every spectator's line fits into: as long as the longest. Assumes nothing.
use Rattle.std.specs.Prelude.{ℕ, ◌+◌, ◌*◌, ◌/◌}
use Rattle.card.specs.Limits.{most_seats, public_classes}

-- the word, a blank and a digit for each class, a second digit for each ten of the seats, LF
abbrev pub classes_room : ℕ
classes_room = 7 + 2 * public_classes + most_seats / 10 + 1
