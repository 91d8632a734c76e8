-- `leaf_text::put_opened` meets its contract: byte for byte. Assumes nothing.
use Rattle.phrases.proofs.Laws.{put_first, puts_as}
use Rattle.leaf_text.proofs.Laws.{opened_is, opened_isnt}
use Rattle.leaf_text.proofs.put_opened.Goals as goal

pub returns-then-relation-eq-IS : goal.returns-then-relation-eq-IS
returns-then-relation-eq-IS c =
    let a = c.args in
    puts_as _ (opened_is a.relation a.state a.seat c.requires.1 c.requires.0 c.if-relation-eq-IS.true) (put_first c.put_filled.ensures)

pub returns : goal.returns
returns c =
    let a = c.args in
    puts_as _ (opened_isnt a.relation a.state a.seat c.requires.1 c.requires.0 c.if-relation-eq-IS.false) (put_first c.put_filled-2.ensures)
