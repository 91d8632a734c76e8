-- `mend::fates_into` meets its contract: entry by entry, where fates and entries kept so far stand before those that follow (`Going`). Assumes nothing.
use native.Mathlib.Omega.{arith}
use Rattle.mend.proofs.Going.{begins, on}
use Rattle.mend.proofs.fates_into.Goals as goal

pub loop-i-init : goal.loop-i-init
loop-i-init c = begins c.args.deck.now c.requires.head c.args.fates.now c.requires.count_value c.before-walk.ensures

pub loop-i-preserved : goal.loop-i-preserved
loop-i-preserved c =
    on c.args.deck.now c.requires.head _ c.loop-i.invariant (omega arith) c.at-entry.ensures c.fate_of-fate.ensures c.behind-walk.ensures (omega arith)
