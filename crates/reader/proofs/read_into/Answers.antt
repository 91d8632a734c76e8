-- The same under the rule of today. Assumes nothing.
use Rattle.reader.proofs.read_into.Goals as goal

pub read_under-requires : goal.read_under-requires
read_under-requires c = c.requires

pub returns : goal.returns
returns c = c.read_under.ensures
