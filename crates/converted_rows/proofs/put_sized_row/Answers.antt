-- `converted_rows::put_sized_row` meets its contract: its eight bytes with the new offset and size. Assumes nothing.
use Rattle.converted_rows.proofs.Rows.{sized_row}
use mathlib.Core.Path.{refl}
use Rattle.converted_rows.proofs.put_sized_row.Goals as goal

pub put_row-requires : goal.put_row-requires
put_row-requires c =
    (c.word_at-number.ensures.1, c.requires.offset_lt_word_numbers.0, c.requires.offset_lt_word_numbers.1)

pub returns : goal.returns
returns c =
    sized_row c.args.deck.now c.args.from _ _ c.word_at-number.ensures.0 refl refl c.put_row.ensures
