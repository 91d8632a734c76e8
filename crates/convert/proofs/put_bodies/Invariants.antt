-- `convert::put_bodies` meets its contract: each turn leaves one body less to be put. Assumes nothing.
use Rattle.converted_rows.specs.Notes.{numbers_of}
use Rattle.convert.proofs.Bodies.{BodiesLeft}
use Rattle.convert.proofs.put_bodies.Given as goal

abbrev pub invariant-loop-i : goal.invariant-loop-i
invariant-loop-i l = BodiesLeft l.deck (numbers_of l.notes) l.initial.room l.room l.at l.i l.to
