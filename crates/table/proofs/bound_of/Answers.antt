-- `table::bound_of` meets its contract: the parts of a packed group lead to its column of the table, and its kind to
-- exactly one seat. Assumes nothing.
use Rattle.table.proofs.Laws.{in_column, as_one}
use borrow.Author.Tests.{eq-eqb, ne_eqb}
use lib.Dec.{eqb}
use mathlib.Core.Path.{◌∙◌}
use borrow.Author.Rules.{rules}
use Rattle.table.proofs.bound_of.Goals as goal

pub returns-then-kind-eq-EVERYONE : goal.returns-then-kind-eq-EVERYONE
returns-then-kind-eq-EVERYONE c =
    c.everyone_bound.ensures (eqb c.args.own c.state_of-d.result)
    ∙ in_column c.args.seats c.args.own c.args.node c.kind_of-kind.ensures c.sign_of-sign.ensures.part c.relation_of-relation.ensures.part c.state_of-d.ensures.part
    (search rules) (eq-eqb _ 0 c.if-kind-eq-EVERYONE.true)

pub returns-then-kind-eq-OTHERS : goal.returns-then-kind-eq-OTHERS
returns-then-kind-eq-OTHERS c =
    c.others_bound.ensures
    ∙ in_column c.args.seats c.args.own c.args.node c.kind_of-kind.ensures c.sign_of-sign.ensures.part c.relation_of-relation.ensures.part c.state_of-d.ensures.part
    (search rules) (ne_eqb _ 0 c.if-kind-eq-EVERYONE.false)

pub returns : goal.returns
returns c = c.equal_to.ensures ∙ as_one c.args.seats c.args.own c.args.node c.kind_of-kind.ensures (search rules)
