-- `statement_copies::put_statement` meets its contract: one copy is put as it is, several by what they have in common. Assumes nothing.
use Rattle.leaf_text.specs.Style.{look}
use Rattle.statement_copies.proofs.Laws.{counted_once, kept_fits, kept_count, copies_kept}
use Rattle.statement_copies.specs.Copies.{copy_text}
use Rattle.phrases.proofs.Laws.{puts_then, puts_as}
use Rattle.card.specs.Laid.{statement_of}
use borrow.Author.Rules.{rules}
use Rattle.statement_copies.proofs.put_statement.Goals as goal

pub returns-then-style-eq1 : goal.returns-then-style-eq1
returns-then-style-eq1 c =
    puts_as _ (counted_once (copy_text (look c.args.style) (statement_of c.args.nodes.now c.args.branches.now c.args.x c.args.i)) _ c.if-style-eq1.true) (puts_then c.put_first-a.ensures c.put_rest.ensures)

pub slice_bounds-rest-end : goal.slice_bounds-rest-end
slice_bounds-rest-end c =
    kept_fits c.put_rest-end.ensures (c.requires.keeps_tail c.if-style-eq1.false) (search rules)

pub slice_bounds-put_copies-end : goal.slice_bounds-put_copies-end
slice_bounds-put_copies-end c =
    kept_count c.put_rest-end.ensures (c.requires.keeps_tail c.if-style-eq1.false) (search rules)

pub returns : goal.returns
returns c =
    puts_as _ (copies_kept (look c.args.style) (statement_of c.args.nodes.now c.args.branches.now c.args.x c.args.i) c.put_rest-end.ensures (c.requires.keeps_tail c.if-style-eq1.false) (search rules) _) c.put_copies.ensures
