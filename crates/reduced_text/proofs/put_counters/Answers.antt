-- `reduced_text::put_counters` meets its contract: one counter more after each turn. Assumes nothing.
use Rattle.reduced_text.proofs.Laws.{counters_all}
use Rattle.phrases.proofs.Counted.{counted_start, counted_next, counted_end}
use Prim.Native.Nat.{◌+◌}
use borrow.Author.Rules.{rules}
use Rattle.reduced_text.proofs.put_counters.Goals as goal

pub loop-d-init : goal.loop-d-init
loop-d-init c = counted_start _ 0 (search rules) c.place-to.ensures

pub loop-d-preserved : goal.loop-d-preserved
loop-d-preserved c = counted_next _ 0 _ (search rules) c.loop-d.invariant c.put_counter-to.ensures

pub returns : goal.returns
returns c =
    counted_end _ 0 _ (c.args.top + 1) c.loop-d-test.false (search rules) (counters_all c.args.seats c.args.start c.args.top) c.loop-d.invariant
