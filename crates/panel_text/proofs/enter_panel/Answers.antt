-- `panel_text::enter_panel` meets its contract: a text that fits is put, in one walk or in two. Assumes nothing.
use borrow.Author.Rules.{rules}
use lib.Seq.{length-take-le}
use mathlib.Core.Path.{refl, sym}
use native.Mathlib.Omega.{arith}
use Rattle.panel_text.proofs.Stored.{entered_small, entered_part}
use Rattle.room.proofs.Entries.{entered_whole}
use Rattle.panel_text.proofs.enter_panel.Goals as goal

pub put_panel-requires : goal.put_panel-requires
put_panel-requires c = c.requires.showing

pub returns-then-room-ge-PANEL_ROOM : goal.returns-then-room-ge-PANEL_ROOM
returns-then-room-ge-PANEL_ROOM c =
    entered_whole refl (omega (arith, c.requires.short, c.if-room-ge-PANEL_ROOM.true)) c.put_panel.ensures

pub measure-need-requires : goal.measure-need-requires
measure-need-requires c = c.requires

pub returns-then-room-need : goal.returns-then-room-need
returns-then-room-need c = entered_small c.measure-need.ensures c.if-room-need.true

pub slice_bounds-put_panel-end-2 : goal.slice_bounds-put_panel-end-2
slice_bounds-put_panel-end-2 c =
    sym (length-take-le _ c.args.room.now (search rules))

pub put_panel-requires-2 : goal.put_panel-requires-2
put_panel-requires-2 c =
    c.requires.showing

pub returns : goal.returns
returns c =
    entered_part c.measure-need.ensures refl c.if-room-need.false c.put_panel-2.ensures
