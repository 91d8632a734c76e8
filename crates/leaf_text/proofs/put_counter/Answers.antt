-- `leaf_text::put_counter` meets its contract: one put after the other, with the bound by its byte and its number. Assumes nothing.
use Rattle.leaf_text.proofs.Laws.{counter_text_law, shared_reduced}
use Rattle.phrases.proofs.Laws.{put_first, puts_then, puts_as}
use native.Mathlib.Omega.{arith}
use Rattle.leaf_text.proofs.put_counter.Goals as goal

pub returns-then-kind-ge-SHARED : goal.returns-then-kind-ge-SHARED
returns-then-kind-ge-SHARED c =
    puts_as _ (shared_reduced c.args.node c.args.seats c.relation_of-relation.ensures.part c.state_of-d.ensures.part c.kind_of-kind.ensures c.if-kind-ge-SHARED.true c.args.own) c.put_shared.ensures

pub returns : goal.returns
returns c =
    puts_as _ (counter_text_law _ _ _ c.kind_of-kind.ensures c.if-kind-ge-SHARED.false c.state_of-d.ensures.part (omega (arith, c.state_of-d.ensures.small)) c.bound_of-bound.ensures)
    (puts_then (put_first c.put_filled-a.ensures) (puts_then (put_first c.put_number-b.ensures) (put_first c.put_byte.ensures)))
