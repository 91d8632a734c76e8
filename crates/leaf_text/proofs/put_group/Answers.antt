-- `leaf_text::put_group` meets its contract: the parts of a group, put one after the other; nothing is put of exactly one seat. Assumes nothing.
use Rattle.leaf_text.proofs.Laws.{group_text_law, one_text, shared_written}
use Rattle.phrases.proofs.Laws.{put_first, puts_then, puts_as, puts_none}
use native.Mathlib.Omega.{arith}
use mathlib.Core.Path.{refl}
use borrow.Author.Rules.{rules}
use Rattle.leaf_text.proofs.put_group.Goals as goal

pub returns-then-kind-eq-ONE : goal.returns-then-kind-eq-ONE
returns-then-kind-eq-ONE c =
    puts_as _ (one_text _ _ c.kind_of-kind.ensures c.if-kind-eq-ONE.true) (puts_none (search rules) c.place.ensures)

pub returns-then-kind-ge-ONE : goal.returns-then-kind-ge-ONE
returns-then-kind-ge-ONE c =
    puts_as _ (shared_written c.args.node c.args.seats c.relation_of-relation.ensures.part c.state_of-state.ensures.part c.kind_of-kind.ensures (omega (arith, c.if-kind-ge-ONE.true, c.if-kind-eq-ONE.false))) c.put_shared.ensures

pub returns : goal.returns
returns c =
    puts_as _ (group_text_law _ _ c.sign_of-sign.ensures.part c.relation_of-relation.ensures.part c.state_of-state.ensures.part c.kind_of-kind.ensures c.if-kind-ge-ONE.false refl)
    (puts_then c.put_opened-a.ensures (puts_then c.put_literals-b.ensures (put_first c.put_byte.ensures)))
