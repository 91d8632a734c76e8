-- `class_counts::enter_classes` meets its contract: a line that fits is put, and one that does not has told its length. Assumes nothing.
use Rattle.class_counts.proofs.Laws.{measured, line_put}
use Rattle.room.proofs.Entries.{entered_short, entered_whole}
use native.Mathlib.Omega.{arith}
use mathlib.Core.Path.{refl}
use Rattle.class_counts.proofs.enter_classes.Goals as goal

pub returns-then-room-need : goal.returns-then-room-need
returns-then-room-need c =
    entered_short (measured _ c.put_line-need.ensures c.requires) refl c.if-room-need.true

pub returns : goal.returns
returns c =
    entered_whole refl (omega (arith, measured _ c.put_line-need.ensures c.requires, c.if-room-need.false)) (line_put _ c.put_line.ensures)
