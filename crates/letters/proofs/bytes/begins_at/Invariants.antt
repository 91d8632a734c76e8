-- The loop's invariant: what the bytes passed leave to compare decides.
use Rattle.marks_on_a_card.specs.Bytes.{begun}
use lib.ListN.{drop}
use Prim.Native.Nat.{◌+◌}
use mathlib.Core.Path.{◌≡◌}
use Rattle.letters.proofs.bytes.begins_at.Given as goal

abbrev pub invariant-loop-i : goal.invariant-loop-i
invariant-loop-i l = begun l.these (drop l.at l.card) ≡ begun (drop l.i l.these) (drop (l.at + l.i) l.card)
