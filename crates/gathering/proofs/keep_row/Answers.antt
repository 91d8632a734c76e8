-- `gathering::keep_row` meets its contract: a withdrawn entry leaves nothing, a live one its eight bytes. Assumes nothing.
use Rattle.gathering.proofs.Keeping.{row_gone, row_kept}
use mathlib.Core.Path.{refl}
use Rattle.gathering.proofs.keep_row.Goals as goal

pub returns-then-deck-from-ne1 : goal.returns-then-deck-from-ne1
returns-then-deck-from-ne1 c =
    let given = c.args in
    row_gone given.deck.now given.from refl c.if-deck-from-ne1.true given.to

pub returns : goal.returns
returns c =
    let given = c.args in
    row_kept given.deck.now given.from refl c.if-deck-from-ne1.false c.requires.entry_bytes_in_bounds given.to c.move_down.ensures
