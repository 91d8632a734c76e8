-- `converted_card::put_written` meets its contract: the card in the arrays is put from the place on. Assumes nothing.
use mathlib.Core.Path.{sym}
use Rattle.card.proofs.HeldIn.{holds_branches}
use Rattle.converted_card.proofs.Parts.{form_put, next_small}
use Rattle.converted_card.proofs.Reading.{taken_in, nothing_written}
use Rattle.room.proofs.Laws.{put_as, put_none}
use Rattle.outline.proofs.ReadInto.{arrays_none}
use native.Mathlib.Omega.{arith}
use borrow.Author.Rules.{rules}
use Rattle.converted_card.proofs.put_written.Goals as goal

pub read_under-requires : goal.read_under-requires
read_under-requires c = arrays_none

pub returns : goal.returns
returns c =
    put_as (nothing_written c.read_under.ensures c.in_default.is) (put_none (search rules) c.place.ensures)

pub slice_bounds-put_card-end-in-Ok : goal.slice_bounds-put_card-end-in-Ok
slice_bounds-put_card-end-in-Ok c =
    sym (holds_branches (taken_in c.read_under.ensures c.in-Ok.is).holds)

pub put_card-long-requires : goal.put_card-long-requires
put_card-long-requires c =
    (taken_in c.read_under.ensures c.in-Ok.is).holds

pub overflow_add-result : goal.overflow_add-result
overflow_add-result c =
    let small = next_small c.read_under.ensures c.in-Ok.is c.args.room.now c.args.at (search rules) c.requires c.put_card-long.ensures in
    omega (arith, small)

pub returns-in-Ok : goal.returns-in-Ok
returns-in-Ok c =
    form_put c.read_under.ensures c.in-Ok.is c.args.room.now c.args.at (search rules) c.requires c.put_card-long.ensures
