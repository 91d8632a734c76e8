-- `statement_copies::put_rest` meets its contract: one put after the other, the branches as a part of the card's. Assumes nothing.
use Rattle.leaf_text.specs.Style.{look}
use Rattle.statement_copies.proofs.Laws.{rest_parts}
use Rattle.phrases.proofs.Laws.{put_first, puts_then, puts_as}
use mathlib.Core.Path.{refl}
use Rattle.statement_copies.proofs.put_rest.Goals as goal

pub returns : goal.returns
returns c =
    puts_as _ (rest_parts (look c.args.style) c.args.nodes.now c.args.branches.now c.args.x c.args.i refl refl)
    (puts_then c.put_test-a.ensures (puts_then (put_first c.put_bytes-b.ensures) (puts_then c.put_branches-c.ensures (put_first c.put_bytes.ensures))))
