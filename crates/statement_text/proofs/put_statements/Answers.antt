-- `statement_text::put_statements` meets its contract: one statement more after each turn. Assumes nothing.
use Rattle.statement_text.proofs.Held.{fits_at, keeps_at}
use Rattle.statement_text.proofs.Laws.{next_is, statements_all}
use Rattle.phrases.proofs.Counted.{counted_start, counted_next, counted_end}
use Rattle.phrases.proofs.Laws.{puts_as}
use Rattle.card.proofs.HeldIn.{holds_count}
use Rattle.card.specs.Laid.{either}
use Rattle.card.specs.Card.{nondeterministic, probabilistic}
use native.Mathlib.Omega.{arith}
use borrow.Author.Rules.{rules}
use Rattle.statement_text.proofs.put_statements.Goals as goal

pub loop-i-init : goal.loop-i-init
loop-i-init c = counted_start _ 0 (search rules) c.place-to.ensures

pub row_at-x-requires : goal.row_at-x-requires
row_at-x-requires c = omega (arith, c.loop-i-test.true, holds_count c.requires)

pub put_statement-to-requires : goal.put_statement-to-requires
put_statement-to-requires c =
    record {
      fits = fits_at c.requires c.loop-i-test.true c.row_at-x.ensures;
      keeps_tail = keeps_at c.requires c.loop-i-test.true c.row_at-x.ensures c.args.form _ c.copies_of-copies.ensures;
    }

pub loop-i-preserved : goal.loop-i-preserved
loop-i-preserved c =
    counted_next _ 0 _ (search rules) c.loop-i.invariant
    (puts_as _ (next_is c.args.form c.args.head.seats c.copies_of-copies.result c.args.nodes.now c.args.branches.now c.args.rows.now _ c.row_at-x.ensures) c.put_statement-to.ensures)

pub returns : goal.returns
returns c =
    counted_end _ 0 _ _ c.loop-i-test.false (search rules)
    (statements_all c.args.form c.args.head.seats c.copies_of-copies.result c.args.nodes.now c.args.branches.now c.args.rows.now (either nondeterministic probabilistic c.args.head.mode) c.copies_of-copies.ensures _) c.loop-i.invariant
