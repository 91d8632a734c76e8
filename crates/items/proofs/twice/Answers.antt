-- A look at the first term.
use Rattle.std.specs.Prelude.{Ok, Err}
use Rattle.items.proofs.OneLaws.{looks_twice}
use Rattle.items.proofs.twice.Goals as goal

pub returns-in-Ok : goal.returns-in-Ok
returns-in-Ok c = looks_twice c.args.part.now (Ok c.in-Ok.first) c.in-Ok.ensures

pub returns-in-Err : goal.returns-in-Err
returns-in-Err c = looks_twice c.args.part.now (Err c.in-Err.field-0) c.in-Err.ensures
