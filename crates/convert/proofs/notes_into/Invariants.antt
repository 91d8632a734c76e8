-- `convert::notes_into` meets its contract: entry by entry, where notes found so far stand before those that follow (`Going`). Assumes nothing.
use Rattle.converted_rows.specs.Notes.{numbers_of}
use Rattle.convert.proofs.Walk.{Going}
use Rattle.convert.proofs.notes_into.Given as goal

abbrev pub invariant-loop-i : goal.invariant-loop-i
invariant-loop-i l = Going l.deck (numbers_of l.initial.notes) (numbers_of l.notes) l.i l.end
