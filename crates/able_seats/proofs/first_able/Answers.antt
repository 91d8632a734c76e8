-- `able_seats::first_able` meets its contract: before each turn the walk from the first statement is the walk from statement i on. Assumes nothing.
use Rattle.able_seats.proofs.Laws.{row_start, row_taken, row_passed, row_none}
use Rattle.able_seats.specs.Moved.{place_of}
use native.Mathlib.Omega.{arith}
use mathlib.Core.Path.{sym, ap, ◌∙◌}
use Rattle.able_seats.proofs.first_able.Goals as goal

pub loop-i-init : goal.loop-i-init
loop-i-init c = row_start _ _ _ _ _

pub returns-then-able-ne0 : goal.returns-then-able-ne0
returns-then-able-ne0 c = sym (ap place_of (c.loop-i.invariant ∙ row_taken _ _ _ _ _ _ c.loop-i-test.true c.able-able.ensures c.if-able-ne0.true))

pub loop-i-preserved : goal.loop-i-preserved
loop-i-preserved c = c.loop-i.invariant ∙ row_passed _ _ _ _ _ _ c.loop-i-test.true c.able-able.ensures c.if-able-ne0.false

pub returns : goal.returns
returns c = sym (ap place_of (c.loop-i.invariant ∙ row_none _ _ _ _ _ _ (omega arith)))
