-- Invariant: the first statements are those of the rows (Made, proofs/Structs.antt). Assumes nothing.
use native.Mathlib.Omega.{arith}
use Rattle.outline.proofs.Structs.{made_start, made_next, made_all}
use Rattle.outline.proofs.statements_in.Goals as goal

pub loop-i-init : goal.loop-i-init
loop-i-init c = made_start

pub loop-i-preserved : goal.loop-i-preserved
loop-i-preserved c = made_next c.loop-i.invariant (omega arith)

pub returns : goal.returns
returns c = made_all c.loop-i.invariant (omega arith)
