-- Which odds a number asks for (document 02, 2026-08). Assumes nothing.
use Rattle.std.specs.Prelude.{ℕ, eqb}
use Rattle.card.specs.Text.{when◌then◌else◌}
use Rattle.evenings.specs.Rounds.{Aim, largest, smallest}

-- 0 asks for the smallest, any other number for the largest
abbrev pub aim_by : ℕ → Aim
aim_by aim = when eqb aim 0 then smallest else largest
