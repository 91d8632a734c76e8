-- `deck_writer::put_lines` meets its contract: each turn leaves one entry less to be put. Assumes nothing.
use borrow.Author.Rules.{rules}
use Rattle.deck_writer.proofs.Putting.{lines_start, lines_end, lines_next}
use Rattle.deck_writer.proofs.put_lines.Goals as goal

pub loop-i-init : goal.loop-i-init
loop-i-init c = lines_start c.args.contents.now c.args.first (search rules) c.place-to.ensures c.requires

pub loop-i-preserved : goal.loop-i-preserved
loop-i-preserved c = lines_next c.loop-i.invariant c.loop-i-test.true c.at-entry.ensures c.put_row-to.ensures

pub returns : goal.returns
returns c = lines_end c.loop-i.invariant c.loop-i-test.false
