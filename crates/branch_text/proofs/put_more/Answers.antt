-- `branch_text::put_more` meets its contract: one branch more after each turn. Assumes nothing.
use Rattle.leaf_text.specs.Style.{look}
use Rattle.branch_text.proofs.Laws.{more_next, more_end}
use Rattle.branch_text.specs.Branches.{branch_text}
use Rattle.phrases.proofs.Laws.{put_first, puts_then, puts_as, puts_none}
use borrow.Author.Rules.{rules}
use Rattle.branch_text.proofs.put_more.Goals as goal

pub loop-branch-init : goal.loop-branch-init
loop-branch-init c = puts_none (search rules) c.place-to.ensures

pub loop-branch-preserved : goal.loop-branch-preserved
loop-branch-preserved c =
    puts_as _ (more_next (branch_text (look c.args.style)) c.args.branches.now _ c.loop-branch-test.true) (puts_then c.loop-branch.invariant (puts_then (put_first c.put_bytes-a.ensures) c.put_branch-to.ensures))

pub returns : goal.returns
returns c =
    more_end (branch_text (look c.args.style)) c.args.branches.now _ c.loop-branch-test.false c.loop-branch.invariant
