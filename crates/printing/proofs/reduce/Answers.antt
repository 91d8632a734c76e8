-- `printing::reduce` meets its contract: a refusal of the card is the card's, and of a card that is taken its text is what is said. Assumes
-- nothing.
use Rattle.texts_said.specs.ReduceSaid.{reduce_said, reduce_card}
use Rattle.outline.proofs.ReadInto.{arrays_none, refused_said, taken_holds, taken_said}
use Rattle.std.proofs.lemmas.Result.{err_from_is_err_and}
use Rattle.room.proofs.Entries.{entered_refused}
use Rattle.printing.proofs.reduce.Goals as goal

pub read_into-requires : goal.read_into-requires
read_into-requires c = arrays_none

pub returns-in_err-head : goal.returns-in_err-head
unfolding reduce_said
returns-in_err-head c =
    let (z, number, place) = err_from_is_err_and c.from_residual.result c.from_residual.ensures.1 in
    rw (number, place) (entered_refused (refused_said _ c.read_into.ensures reduce_card c.in_err-head.was))

pub reduce_card-requires : goal.reduce_card-requires
reduce_card-requires c = taken_holds _ c.read_into.ensures c.in_ok-head.was

pub returns : goal.returns
unfolding reduce_said
returns c =
    rw (taken_said _ c.read_into.ensures reduce_card c.in_ok-head.was) at c.reduce_card.ensures
