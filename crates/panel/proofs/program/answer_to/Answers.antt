-- `panel::program::answer_to` meets its contract: the line of seats ends where it was found, and the card is what stands behind it. Assumes nothing.
use borrow.Author.Rules.{rules}
use lib.Seq.{length-take-le}
use mathlib.Core.Path.{refl, sym}
use native.Mathlib.Omega.{arith}
use Rattle.panel.proofs.SeatsLine.{line_found, found_within}
use Rattle.panel.proofs.Parts.{handed_count, answer_said, card_from, card_left}
use Rattle.panel.proofs.program.answer_to.Goals as goal

pub slice_bounds-put_seats-end : goal.slice_bounds-put_seats-end
slice_bounds-put_seats-end c =
    sym (length-take-le _ _ (found_within c.args.input.now c.line_end-end.ensures))

pub slice_bounds-print-end-then-end-input : goal.slice_bounds-print-end-then-end-input
slice_bounds-print-end-then-end-input c =
    handed_count _ _ c.put_seats-count.ensures.value c.put_seats-count.ensures.seats_after

pub returns-then-end-input : goal.returns-then-end-input
returns-then-end-input c =
    rw (answer_said _ _ _ (line_found c.args.input.now c.line_end-end.ensures) (search rules) c.put_seats-count.ensures.value c.put_seats-count.ensures.seats_after (card_from _ (line_found c.args.input.now c.line_end-end.ensures) c.if-end-input.true refl)) at c.print.ensures

pub slice_bounds-print-count-2 : goal.slice_bounds-print-count-2
slice_bounds-print-count-2 c =
    omega (arith, found_within c.args.input.now c.line_end-end.ensures)

pub slice_bounds-print-start-2 : goal.slice_bounds-print-start-2
slice_bounds-print-start-2 c =
    omega (arith, found_within c.args.input.now c.line_end-end.ensures)

pub slice_bounds-print-end-2 : goal.slice_bounds-print-end-2
slice_bounds-print-end-2 c =
    omega (arith, found_within c.args.input.now c.line_end-end.ensures)

pub slice_bounds-print-end-3 : goal.slice_bounds-print-end-3
slice_bounds-print-end-3 c =
    handed_count _ _ c.put_seats-count.ensures.value c.put_seats-count.ensures.seats_after

pub returns : goal.returns
returns c =
    rw (answer_said _ _ _ (line_found c.args.input.now c.line_end-end.ensures) (search rules) c.put_seats-count.ensures.value c.put_seats-count.ensures.seats_after (card_left _ (line_found c.args.input.now c.line_end-end.ensures) c.if-end-input.false)) at c.print-2.ensures
