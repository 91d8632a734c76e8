-- `boxes::seek` meets its contract: from entry to entry, where what is left of the contents decides (`ahead`). Assumes nothing.
use Rattle.std.proofs.Common.{◌∙◌, sym}
use Rattle.boxes.proofs.Seeking.{hit, miss}
use Rattle.boxes.proofs.seek.Goals as goal

pub returns-then-is_live : goal.returns-then-is_live
returns-then-is_live c =
    hit _ _ _ c.loop-i.invariant c.loop-i-test.true c.args.which (sym c.if-is_live.true ∙ c.is_live.ensures) c.at-entry.ensures

pub loop-i-preserved : goal.loop-i-preserved
loop-i-preserved c =
    miss _ _ _ c.loop-i.invariant c.loop-i-test.true (sym c.if-is_live.false ∙ c.is_live.ensures)
