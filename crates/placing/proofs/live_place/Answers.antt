-- `placing::live_place` meets its contract: what is left of the contents decides. Assumes nothing.
use Rattle.placing.proofs.Seeking.{seek_hit, seek_miss}
use mathlib.Core.Path.{sym, ◌∙◌}
use native.Mathlib.Omega.{arith}
use Rattle.placing.proofs.live_place.Goals as goal

pub returns-then-is_live : goal.returns-then-is_live
returns-then-is_live c = seek_hit _ _ c.loop-i.invariant (omega arith) (sym c.if-is_live.true ∙ c.is_live.ensures)

pub loop-i-preserved : goal.loop-i-preserved
loop-i-preserved c = seek_miss _ _ c.loop-i.invariant (omega arith) (sym c.if-is_live.false ∙ c.is_live.ensures)
