-- `card_text::put_modules` meets its contract: one module more after each turn. Assumes nothing.
use Rattle.card_text.proofs.Laws.{modules_counted}
use Rattle.phrases.proofs.Counted.{counted_start, counted_next, counted_end}
use native.Mathlib.Omega.{arith}
use borrow.Author.Rules.{rules}
use Rattle.card_text.proofs.put_modules.Goals as goal

pub loop-i-init : goal.loop-i-init
loop-i-init c = (omega arith, counted_start _ 1 (search rules) c.place-to.ensures)

pub loop-i-preserved : goal.loop-i-preserved
loop-i-preserved c = (omega arith, counted_next _ 1 _ (search rules) c.loop-i.invariant.1 c.put_module-to.ensures)

pub returns : goal.returns
returns c = counted_end _ 1 _ _ c.loop-i-test.false c.loop-i.invariant.0 (modules_counted _ _) c.loop-i.invariant.1
