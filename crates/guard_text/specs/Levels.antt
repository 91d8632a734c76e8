-- Where a part of a guard stands, as a number. Assumes nothing.
use Rattle.std.specs.Prelude.{ℕ, zero, suc}
use Rattle.card.specs.Valid.{Level, loose, middle, tight}

abbrev pub tight_number : ℕ
tight_number = 2

abbrev pub level_of : ℕ → Level
level_of zero = loose
level_of (suc zero) = middle
level_of (suc (suc v)) = tight
