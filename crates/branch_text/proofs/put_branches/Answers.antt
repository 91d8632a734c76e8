-- `branch_text::put_branches` meets its contract: none, or the first and then the others. Assumes nothing.
use Rattle.leaf_text.specs.Style.{look}
use Rattle.branch_text.proofs.Laws.{summed_none, summed_some}
use Rattle.branch_text.specs.Branches.{branch_text}
use Rattle.phrases.proofs.Laws.{puts_then, puts_as, puts_none}
use borrow.Author.Rules.{rules}
use Rattle.branch_text.proofs.put_branches.Goals as goal

pub returns-in-empty : goal.returns-in-empty
returns-in-empty c =
    puts_as _ (summed_none (branch_text (look c.args.style)) c.args.branches.now c.in-empty.len_below) (puts_none (search rules) c.place.ensures)

pub returns-in-len1-up : goal.returns-in-len1-up
returns-in-len1-up c =
    puts_as _ (summed_some (branch_text (look c.args.style)) c.args.branches.now c.in-len1-up.len_at_least) (puts_then c.put_branch-a.ensures c.put_more.ensures)
