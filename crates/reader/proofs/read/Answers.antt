-- `reader::read` meets its contract: the one value is made of what stands in the arrays. Assumes nothing.
use mathlib.Core.Path.{sym, subst}
use Rattle.std.proofs.lemmas.Result.{err_from_is_err_and}
use Rattle.card.specs.Lent.{lent}
use Rattle.card.specs.Limits.{row_places, node_places, branch_places}
use Rattle.card.proofs.Filling.{zeros_repeat}
use Rattle.outline.specs.ReadingOf.{Outline, Reads}
use Rattle.outline.proofs.Structs.{whole_of, reads_whole}
use Rattle.reader.proofs.read.Goals as goal

pub read_into-requires : goal.read_into-requires
read_into-requires c =
    λ i. lent (sym (zeros_repeat row_places) i) (sym (zeros_repeat node_places) i) (sym (zeros_repeat branch_places) i)

pub returns-in_err-head : goal.returns-in_err-head
returns-in_err-head c =
    let p = err_from_is_err_and c.from_residual.result c.from_residual.ensures.1 in
    rw (p.1, p.2)
    (subst (λ (r : Outline). Reads c.args.card.now (whole_of r (lent c.read_into.new.rows c.read_into.new.nodes c.read_into.new.branches))) c.in_err-head.was
    (reads_whole c.read_into.ensures))

pub returns : goal.returns
returns c =
    rw c.statements_in-statements.ensures
    (subst (λ (r : Outline). Reads c.args.card.now (whole_of r (lent c.read_into.new.rows c.read_into.new.nodes c.read_into.new.branches))) c.in_ok-head.was
    (reads_whole c.read_into.ensures))
