-- `branch_text::put_end` meets its contract: by which text it is, and by whether something is set. Assumes nothing.
use Rattle.leaf_text.specs.Style.{look}
use Rattle.branch_text.proofs.Laws.{written_set, reduced_end}
use Rattle.phrases.proofs.Laws.{put_first, puts_then, puts_as}
use native.Mathlib.Omega.{arith}
use Rattle.branch_text.proofs.put_end.Goals as goal

pub returns-else-sets-eq0 : goal.returns-else-sets-eq0
returns-else-sets-eq0 c =
    puts_as _ (written_set (look c.args.style) c.args.end c.args.sets c.in-Written.is (λ e. omega arith)) (puts_then c.put_seat-a.ensures c.put_set_last.ensures)

pub returns-in-Reduced : goal.returns-in-Reduced
returns-in-Reduced c =
    puts_as _ (reduced_end (look c.args.style) c.args.end c.args.sets c.in-Reduced.is) (puts_then (put_first c.put_byte-a.ensures) c.put_update.ensures)
