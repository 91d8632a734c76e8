-- `branch_text::put_more` meets its contract: one branch more after each turn. Assumes nothing.
use Rattle.leaf_text.specs.Style.{look}
use Rattle.branch_text.proofs.Laws.{some_more}
use Rattle.branch_text.specs.Branches.{branch_text}
use Rattle.phrases.specs.Puts.{Puts}
use Rattle.branch_text.proofs.put_more.Given as goal

abbrev pub invariant-loop-branch : goal.invariant-loop-branch
invariant-loop-branch l = Puts l.initial.room l.room l.at (some_more (branch_text (look l.style)) l.branches l.branch-index) l.to
