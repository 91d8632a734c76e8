-- `mended_rooms::put_list` meets its contract: after i turns the first i lines are put. Assumes nothing.
use borrow.Author.Rules.{rules}
use Rattle.phrases.proofs.Laws.{puts_none}
use Rattle.mended_rooms.proofs.Listed.{lines_next, lines_end}
use Rattle.mended_rooms.proofs.put_list.Goals as goal

pub loop-fate-init : goal.loop-fate-init
loop-fate-init c = puts_none (search rules) c.place-to.ensures

pub loop-fate-preserved : goal.loop-fate-preserved
loop-fate-preserved c = lines_next c.args.fates.now c.loop-fate.fate-index c.loop-fate-test.true c.loop-fate.invariant c.put_line-to.ensures

pub returns : goal.returns
returns c = lines_end c.args.fates.now _ c.loop-fate-test.false c.loop-fate.invariant
