-- A weight's units are kept, or its place is blamed. Assumes nothing.
use mathlib.Core.Path.{refl}
use Rattle.branches.proofs.BranchLaws.{units_weighed, broken_weighed}
use Rattle.branches.proofs.weighed.Goals as goal

pub returns-in-Some : goal.returns-in-Some
returns-in-Some c = units_weighed c.args.state.now c.in-Some.weight c.in-Some.is refl

pub returns-in-None : goal.returns-in-None
returns-in-None c = broken_weighed c.args.state.now c.in-None.is c.blame.ensures
