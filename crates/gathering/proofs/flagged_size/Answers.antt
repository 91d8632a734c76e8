-- `gathering::flagged_size` meets its contract: by the flag. Assumes nothing.
use Rattle.gathering.proofs.Entries.{flag_here, other_here}
use mathlib.Core.Path.{refl}
use Rattle.gathering.proofs.flagged_size.Goals as goal

pub returns-then-deck-at : goal.returns-then-deck-at
returns-then-deck-at c = other_here c.args.deck.now c.args.at refl c.if-deck-at.true

pub returns : goal.returns
returns c = flag_here c.args.deck.now c.args.at refl c.if-deck-at.false c.word_at.ensures
