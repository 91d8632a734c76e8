-- `mend::mend` meets its contract: head, what is kept, and the rooms, in this order. Assumes nothing.
use Rattle.mended_rooms.proofs.Entering.{mends_refused}
use Rattle.mending.proofs.MendStage.{head_wrong}
use Rattle.mend.proofs.mend.Goals as goal

pub returns-in_default : goal.returns-in_default
returns-in_default c =
    rw c.malformed.ensures (mends_refused c.args.deck.now (head_wrong c.args.deck.now c.in_default.ensures))
