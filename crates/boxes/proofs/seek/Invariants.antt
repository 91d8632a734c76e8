-- `boxes::seek` meets its contract: from entry to entry, where what is left of the contents decides (`ahead`). Assumes nothing.
use mathlib.Core.Path.{◌≡◌}
use Rattle.deck.specs.Contents.{contents_of}
use Rattle.deck.specs.Lookup.{live_row}
use Rattle.boxes.proofs.Seeking.{ahead}
use Rattle.boxes.proofs.seek.Given as goal

abbrev pub invariant-loop-i : goal.invariant-loop-i
invariant-loop-i l = live_row l.number (contents_of l.deck) ≡ ahead l.deck l.number l.i
