-- `moves_text::put_choice` meets its contract: a statement's moves all start from its own state, and one seat that takes it weighs 1. Assumes nothing.
use Rattle.phrases.proofs.Laws.{puts_then, puts_as, puts_none}
use Rattle.card.specs.Rows.{row_of}
use Rattle.panel_numbers.specs.Table.{able_in}
use Rattle.moves_text.proofs.Blocks.{empty_light, raised_row, choice_none, choice_text}
use native.Mathlib.Omega.{arith}
use mathlib.Core.Path.{refl}
use borrow.Author.Rules.{rules}
use Rattle.moves_text.proofs.put_choice.Goals as goal

pub returns-then-table-i-eq0 : goal.returns-then-table-i-eq0
returns-then-table-i-eq0 c =
    puts_as _ (λ t. choice_none c.args.head.top _ _ c.args.i _ _ t c.args.head.shared c.if-table-i-eq0.true) (puts_none (search rules) c.place.ensures)

pub add_weights-requires : goal.add_weights-requires
add_weights-requires c =
    record { few = omega arith; shared = c.requires.0.weighing.shared; statement = omega (arith, c.requires.0.weighing.able.statements, c.requires.1); fit = (c.requires.0.weighing.fitting.fit.each c.args.i c.requires.1).branches; there = c.requires.0.weighing.fitting.there; light = empty_light; long = refl }

pub overflow_mul-own : goal.overflow_mul-own
overflow_mul-own c =
    omega (arith, c.requires.0.weighing.fitting.own c.args.i c.requires.1, c.requires.0.weighing.fitting.top)

pub put_stays-b-requires : goal.put_stays-b-requires
put_stays-b-requires c =
    (omega (arith, raised_row _ _ _ c.add_weights.ensures, c.requires.0.weighing.fitting.own c.args.i c.requires.1, c.requires.0.weighing.fitting.top), c.requires.0.values)

pub put_moves-requires : goal.put_moves-requires
put_moves-requires c =
    record { top = c.requires.0.weighing.fitting.top; values = c.requires.0.values; long = raised_row _ _ _ c.add_weights.ensures }

pub returns : goal.returns
returns c =
    let args = c.args in
    let fitting = c.requires.0.weighing.fitting in
    puts_as _ (λ t. choice_text args.head.top args.head.shared _ args.i (able_in args.table.now args.i) _ (row_of args.rows.now args.i).branches args.branches.now
    c.add_weights.ensures fitting.top c.requires.0.values (fitting.own args.i c.requires.1) t c.if-table-i-eq0.false refl)
    (puts_then c.put_line-a.ensures (puts_then c.put_stays-b.ensures c.put_moves.ensures))
