-- `branch_text::put_branch` meets its contract: its parts, one after the other. Assumes nothing.
use Rattle.phrases.proofs.Laws.{puts_then, puts_as}
use Rattle.leaf_text.specs.Style.{look}
use Rattle.branch_text.proofs.Laws.{branch_parts}
use Rattle.branch_text.proofs.put_branch.Goals as goal

pub returns : goal.returns
returns c =
    puts_as _ (branch_parts (look c.args.style) c.args.branch c.units_of-units.ensures c.set_of-sets.ensures.part c.end_of-end.ensures.part) (puts_then c.put_weight-a.ensures c.put_end.ensures)
