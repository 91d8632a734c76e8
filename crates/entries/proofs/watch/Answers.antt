-- `entries::watch` meets its contract: what it tells is found by the laws that it names. Assumes nothing.
use Rattle.outline.proofs.ReadInto.{arrays_none}
use Rattle.entries.proofs.watch.Goals as goal

pub read_into-requires : goal.read_into-requires
read_into-requires c = arrays_none
