-- What is known before the first entry, and behind an entry: an entry that is kept moves the last number and the last end, and is counted with its body; one that is dropped moves nothing. Assumes nothing.
use Rattle.std.specs.Prelude.{ℕ, suc, ◌+◌, ◌≤◌}
use Rattle.card.specs.Limits.{deck_bytes}
use Rattle.deck.specs.Contents.{Row, end_of, behind}
use Rattle.mending.specs.Mending.{Fate, kept, dropped}
use Rattle.mending_walk.specs.declared.Walk.{Walk}

abbrev pub walk_before : (count : ℕ) → Walk
walk_before count = record { least = 0; last = behind count; cards = 0; bytes = 0 }

abbrev pub walked_by : Fate → Row → Walk → Walk
walked_by kept r w = record { least = suc r.number; last = end_of r; cards = w.cards + 1; bytes = w.bytes + r.size }
walked_by (dropped rule) r w = w

-- counts that have room for one more entry
pub record Roomy (w : Walk) : Type 0 where
  pub cards : w.cards ≤ deck_bytes
  pub bytes : w.bytes ≤ deck_bytes
