-- `reduced_text::reduce_card` meets its contract: a text that fits in any case is put at once; else a draft tells its length, and is the text where
-- it has places for it. Assumes nothing.
use Rattle.reduced_text.proofs.Stored.{held_most, held_cap}
use Rattle.room.proofs.Drafts.{drafted_long, drafted_fits, drafted_count, entered_copied}
use Rattle.room.proofs.Entries.{entered_whole, entered_short, entered_exact}
use mathlib.Core.Path.{refl, sym}
use native.Mathlib.Omega.{arith}
use lib.Seq.{length-take-le}
use borrow.Author.Rules.{rules}
use Rattle.reduced_text.proofs.reduce_card.Goals as goal

pub returns-then-room-ge-REDUCED_ROOM : goal.returns-then-room-ge-REDUCED_ROOM
returns-then-room-ge-REDUCED_ROOM c =
    entered_whole refl (omega (arith, held_most c.requires, c.if-room-ge-REDUCED_ROOM.true)) c.put_program.ensures

pub returns-then-room-need : goal.returns-then-room-need
returns-then-room-need c =
    entered_short (drafted_long (held_cap c.requires) c.put_program-need.ensures) refl c.if-room-need.true

pub slice_bounds-draft-end : goal.slice_bounds-draft-end
slice_bounds-draft-end c =
    drafted_fits (held_cap c.requires) c.put_program-need.ensures c.if-need-le-DRAFT_PLACES.true

pub slice_bounds-put_run-end : goal.slice_bounds-put_run-end
slice_bounds-put_run-end c =
    drafted_count (held_cap c.requires) c.put_program-need.ensures c.if-need-le-DRAFT_PLACES.true

pub returns-then-need-le-DRAFT_PLACES : goal.returns-then-need-le-DRAFT_PLACES
returns-then-need-le-DRAFT_PLACES c =
    entered_copied (held_cap c.requires) c.put_program-need.ensures c.if-need-le-DRAFT_PLACES.true refl c.if-room-need.false c.put_run.ensures

pub slice_bounds-put_program-end-5 : goal.slice_bounds-put_program-end-5
slice_bounds-put_program-end-5 c =
    sym (length-take-le _ c.args.room.now (search rules))

pub returns : goal.returns
returns c =
    entered_exact (drafted_long (held_cap c.requires) c.put_program-need.ensures) refl (search rules) (search rules) c.put_program-2.ensures
