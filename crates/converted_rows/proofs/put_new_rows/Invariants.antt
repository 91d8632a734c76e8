-- `converted_rows::put_new_rows` meets its contract: each turn leaves one entry less to be put. Assumes nothing.
use Rattle.converted_rows.specs.Notes.{numbers_of}
use Rattle.converted_rows.proofs.Rows.{RowsLeft}
use Rattle.converted_rows.proofs.put_new_rows.Given as goal

abbrev pub invariant-loop-i : goal.invariant-loop-i
invariant-loop-i l = RowsLeft l.deck (numbers_of l.notes) l.first l.initial.room l.room l.at l.i l.offset l.to
