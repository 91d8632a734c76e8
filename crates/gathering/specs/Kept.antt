-- The bytes of the live entries among so many, one behind the other. Assumes nothing.
use Rattle.std.specs.Prelude.{ℕ, zero, suc, List, [], ◌++◌, take, drop}
use Rattle.card.specs.Limits.{entry_bytes}
use Rattle.card.specs.Text.{when◌then◌else◌}
use Rattle.deck.specs.Contents.{row_of}
use Rattle.deck.specs.Deck.{live_of}

-- of one: a withdrawn one leaves nothing
abbrev pub kept_row : List ℕ → List ℕ
kept_row t = when live_of (row_of t) then take entry_bytes t else []

abbrev pub kept_rows : ℕ → List ℕ → List ℕ
kept_rows zero t = []
kept_rows (suc count) t = kept_row t ++ kept_rows count (drop entry_bytes t)
