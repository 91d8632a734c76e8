-- `convert::put_bodies` meets its contract: each turn leaves one body less to be put. Assumes nothing.
use borrow.Author.Rules.{rules}
use Rattle.converted_rows.specs.Notes.{numbers_of}
use Rattle.converted_rows.proofs.Numbers.{within, past, number_here}
use Rattle.converted_rows.proofs.Left.{in_contents}
use Rattle.convert.proofs.Bodies.{bodies_start, bodies_end, bodies_next, right_row, part_fits}
use Rattle.convert.proofs.put_bodies.Goals as goal

pub loop-i-init : goal.loop-i-init
loop-i-init c =
    bodies_start c.args.deck.now (numbers_of c.args.notes.now) c.requires.each (search rules) c.place-to.ensures c.requires.bodies_fit

pub put_body-to-requires : goal.put_body-to-requires
put_body-to-requires c =
    record { entry_bytes_in_bounds = in_contents c.requires.each (within _ c.loop-i-test.true); right_row = right_row _ _ c.requires.each c.loop-i.invariant (within _ c.loop-i-test.true); deck_in_bounds = part_fits _ _ c.requires.each c.loop-i.invariant (within _ c.loop-i-test.true) (number_here c.args.notes.now c.loop-i-test.true) }

pub loop-i-preserved : goal.loop-i-preserved
loop-i-preserved c =
    bodies_next _ _ c.requires.each c.loop-i.invariant (within _ c.loop-i-test.true) (number_here c.args.notes.now c.loop-i-test.true) c.put_body-to.ensures

pub returns : goal.returns
returns c =
    bodies_end _ _ c.requires.each c.loop-i.invariant (past _ c.loop-i-test.false)
