-- `mend::accepted` meets its contract: by the reader's answer. Assumes nothing.
use mathlib.Core.Path.{◌∙◌}
use Rattle.outline.proofs.ReadInto.{arrays_none}
use Rattle.mend.proofs.Accepting.{is_taken_law}
use Rattle.mend.proofs.accepted.Goals as goal

pub read_into-requires : goal.read_into-requires
read_into-requires c = arrays_none

pub returns : goal.returns
returns c = c.is_ok.ensures.value ∙ is_taken_law _ c.read_into.ensures
