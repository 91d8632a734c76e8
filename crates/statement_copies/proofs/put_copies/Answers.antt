-- `statement_copies::put_copies` meets its contract: one copy more after each turn. Assumes nothing.
use Rattle.phrases.proofs.Counted.{counted_start, counted_next, counted_end}
use Rattle.phrases.proofs.Laws.{put_first, puts_then}
use native.Mathlib.Nat.{sub-zero}
use borrow.Author.Rules.{rules}
use Rattle.statement_copies.proofs.put_copies.Goals as goal

pub loop-m-init : goal.loop-m-init
loop-m-init c = counted_start _ 0 (search rules) c.place-to.ensures

pub loop-m-preserved : goal.loop-m-preserved
loop-m-preserved c =
    counted_next _ 0 _ (search rules) c.loop-m.invariant (puts_then c.put_first-a.ensures (put_first c.put_run-to.ensures))

pub returns : goal.returns
returns c =
    counted_end _ 0 _ c.args.style.copies c.loop-m-test.false (search rules) (λ t. rw sub-zero) c.loop-m.invariant
