-- `leaf_text::put_literals` meets its contract: one literal more after each turn. Assumes nothing.
use Rattle.leaf_text.proofs.Laws.{literals_counted}
use Rattle.phrases.proofs.Counted.{counted_start, counted_next, counted_end}
use Rattle.room.proofs.Laws.{put_length}
use native.Mathlib.Omega.{arith}
use borrow.Author.Rules.{rules}
use Rattle.leaf_text.proofs.put_literals.Goals as goal

pub loop-i-init : goal.loop-i-init
loop-i-init c = (omega arith, counted_start _ _ (search rules) c.place-to.ensures)

pub loop-i-preserved : goal.loop-i-preserved
loop-i-preserved c =
    (omega arith, counted_next _ _ _ (search rules) c.loop-i.invariant.1 c.put_further-to.ensures)

pub returns : goal.returns
returns c = counted_end _ _ _ _ c.loop-i-test.false c.loop-i.invariant.0 (literals_counted _ _ _ _ _) c.loop-i.invariant.1
