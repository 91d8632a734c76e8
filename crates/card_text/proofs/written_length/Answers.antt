-- `card_text::written_length` meets its contract: a put answers the place behind its text, wherever it is put. Assumes nothing.
use Rattle.card_text.proofs.Laws.{held_cap}
use Rattle.room.proofs.Drafts.{drafted_long}
use Rattle.card_text.proofs.written_length.Goals as goal

pub returns : goal.returns
returns c =
    drafted_long (held_cap c.requires) c.put_card.ensures
