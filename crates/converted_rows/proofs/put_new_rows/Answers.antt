-- `converted_rows::put_new_rows` meets its contract: each turn leaves one entry less to be put. Assumes nothing.
use Rattle.converted_rows.specs.Notes.{numbers_of}
use Rattle.converted_rows.proofs.Rows.{rows_start, rows_end, rows_next, fits, offset_short}
use Rattle.converted_rows.proofs.Left.{in_contents}
use Rattle.converted_rows.proofs.Numbers.{within, past, size_here}
use native.Mathlib.Omega.{arith}
use borrow.Author.Rules.{rules}
use Rattle.converted_rows.proofs.put_new_rows.Goals as goal

pub loop-i-init : goal.loop-i-init
loop-i-init c =
    rows_start c.args.deck.now (numbers_of c.args.notes.now) c.args.first c.requires.each (search rules) c.place-to.ensures c.requires.sizes_fit

pub new_size-size-requires : goal.new_size-size-requires
new_size-size-requires c =
    in_contents c.requires.each (within _ c.loop-i-test.true)

pub put_sized_row-to-requires : goal.put_sized_row-to-requires
put_sized_row-to-requires c =
    record { entry_bytes_in_bounds = in_contents c.requires.each (within _ c.loop-i-test.true); offset_lt_word_numbers = fits _ _ _ c.requires.each c.loop-i.invariant (within _ c.loop-i-test.true) (size_here c.args.notes.now c.loop-i-test.true _ c.new_size-size.ensures) }

pub overflow_add-offset : goal.overflow_add-offset
overflow_add-offset c =
    let short = offset_short _ _ _ c.requires.each c.loop-i.invariant (within _ c.loop-i-test.true) (size_here c.args.notes.now c.loop-i-test.true _ c.new_size-size.ensures) in
    omega (arith, short)

pub loop-i-preserved : goal.loop-i-preserved
loop-i-preserved c =
    rows_next _ _ _ c.requires.each c.loop-i.invariant (within _ c.loop-i-test.true) (size_here c.args.notes.now c.loop-i-test.true _ c.new_size-size.ensures) c.put_sized_row-to.ensures

pub returns : goal.returns
returns c =
    rows_end _ _ _ c.requires.each c.loop-i.invariant (past _ c.loop-i-test.false)
