-- `room::put_byte` meets its contract: a byte within the room is stored, past its end it is only counted. Assumes nothing.
-- One byte: within the room it is stored, past its end nothing is. Assumes nothing.
use borrow.Author.Rules.{rules}
use Rattle.room.proofs.Stores.{put_in, put_past}
use Rattle.room.proofs.put_byte.Goals as goal

pub returns-then-at-room : goal.returns-then-at-room
returns-then-at-room c = put_in (search rules) c.if-at-room.true

pub returns : goal.returns
returns c = put_past (search rules) c.if-at-room.false c.after.ensures
