-- `guard_text::put_test` meets its contract: by whether there are nodes; the last is the root. Assumes nothing.
use native.Mathlib.Omega.{arith}
use Rattle.phrases.proofs.Laws.{put_first, puts_then, puts_as, puts_none}
use Rattle.leaf_text.specs.Style.{look, brackets_of, leaf_text}
use Rattle.guard_text.proofs.Laws.{test_none, test_some}
use borrow.Author.Rules.{rules}
use Rattle.guard_text.proofs.put_test.Goals as goal

pub returns-then-count-eq0 : goal.returns-then-count-eq0
returns-then-count-eq0 c =
    let a = c.args in
    puts_as _ (test_none (brackets_of (look a.style)) (leaf_text (look a.style)) a.nodes.now a.from a.count c.if-count-eq0.true) (puts_none (search rules) c.place.ensures)

pub returns : goal.returns
returns c =
    let a = c.args in
    puts_as _ (test_some (brackets_of (look a.style)) (leaf_text (look a.style)) a.nodes.now a.from a.count _ c.if-count-eq0.false (omega arith)) (puts_then (put_first c.put_filled-a.ensures) c.put_guard.ensures)
