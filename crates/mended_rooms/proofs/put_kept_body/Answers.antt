-- `mended_rooms::put_kept_body` meets its contract: one that is dropped puts nothing, else its range of the deck. Assumes nothing.
use borrow.Author.Rules.{rules}
use Rattle.room.proofs.Laws.{put_none}
use Rattle.mended_rooms.proofs.put_kept_body.Goals as goal

pub returns-in-Some : goal.returns-in-Some
returns-in-Some c = rw c.in-Some.is (put_none (search rules) c.place.ensures)
