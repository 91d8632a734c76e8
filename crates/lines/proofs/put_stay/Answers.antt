-- `lines::put_stay` meets its contract: no line of weight 0; a weight's line of no states is a stay's. Assumes nothing.
use Rattle.lines.proofs.Weighed.{stay_none, weight_stay}
use Rattle.phrases.proofs.Laws.{puts_as, puts_none}
use borrow.Author.Rules.{rules}
use Rattle.lines.proofs.put_stay.Goals as goal

pub returns-then-weight-eq0 : goal.returns-then-weight-eq0
returns-then-weight-eq0 c =
    puts_as _ (λ t. stay_none c.args.shared c.args.becomes _ t c.if-weight-eq0.true) (puts_none (search rules) c.place.ensures)

pub returns : goal.returns
returns c = puts_as _ (λ t. weight_stay c.args.shared c.args.becomes c.args.weight t c.told.ensures c.if-weight-eq0.false) c.put_weight_line.ensures
