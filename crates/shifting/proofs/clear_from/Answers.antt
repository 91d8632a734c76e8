-- `shifting::clear_from` meets its contract: one text of zero bytes. Assumes nothing.
use Rattle.shifting.proofs.Moves.{cleared}
use native.Mathlib.Omega.{arith}
use Rattle.shifting.proofs.clear_from.Goals as goal

pub returns : goal.returns
returns c = cleared c.args.room.now c.args.at _ c.requires (omega arith) (c.fill.ensures.after (λ y e. e))
