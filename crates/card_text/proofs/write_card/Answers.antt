-- `card_text::write_card` meets its contract: a text that is reckoned to fit is put at once, and any other is measured first. Assumes nothing.
use Rattle.card_text.proofs.Laws.{held_most}
use Rattle.room.proofs.Entries.{entered_whole, entered_short, entered_exact}
use mathlib.Core.Path.{refl, sym}
use native.Mathlib.Omega.{arith}
use lib.Seq.{length-take-le}
use borrow.Author.Rules.{rules}
use Rattle.card_text.proofs.write_card.Goals as goal

pub returns-then-most-room : goal.returns-then-most-room
returns-then-most-room c =
    entered_whole refl (omega (arith, held_most c.requires, c.written_most-most.ensures, c.if-most-room.true)) c.put_card.ensures

pub returns-then-room-need : goal.returns-then-room-need
returns-then-room-need c = entered_short c.written_length-need.ensures refl c.if-room-need.true

pub slice_bounds-put_card-end-3 : goal.slice_bounds-put_card-end-3
slice_bounds-put_card-end-3 c =
    sym (length-take-le _ c.args.room.now (search rules))

pub returns : goal.returns
returns c =
    entered_exact c.written_length-need.ensures refl (search rules) (search rules) c.put_card-2.ensures
