-- The arrays are cleared, and the search says what is due. Assumes nothing.
use Rattle.outline.proofs.stopped.Goals as goal

pub returns : goal.returns
returns c = record { refusal = c.searched.ensures; memory = c.clear.ensures }
