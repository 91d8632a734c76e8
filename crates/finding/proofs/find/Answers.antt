-- `finding::find` meets its contract: the part that `locate` names. Assumes nothing.
use Rattle.std.proofs.Common.{refl}
use Rattle.boxes.proofs.Lookup.{part_inside, find_found}
use Rattle.finding.proofs.find.Goals as goal

pub part-requires : goal.part-requires
part-requires c = part_inside c.args.deck.now c.args.number c.locate-found.ensures c.in-Ok.is

pub returns-in-Ok : goal.returns-in-Ok
returns-in-Ok c = find_found c.args.deck.now c.args.number c.locate-found.ensures (rw c.in-Ok.is c.part.ensures) c.tell.ensures

pub returns-in-Err : goal.returns-in-Err
returns-in-Err c = find_found c.args.deck.now c.args.number c.locate-found.ensures (rw c.in-Err.is refl) c.tell.ensures
