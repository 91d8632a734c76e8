-- The bracket, the first seat word, and the rest by `literals`.
use Rattle.term_literals.proofs.TermLaws.{no_open, no_first, term_whole}
use Rattle.items.proofs.term.Goals as goal

pub returns-then-bracket-ne-ROUND_OPEN : goal.returns-then-bracket-ne-ROUND_OPEN
returns-then-bracket-ne-ROUND_OPEN c =
    no_open c.args.part.now c.args.at c.args.i c.step_sign-bracket.result c.step_sign-bracket.ensures c.if-bracket-ne-ROUND_OPEN.true

pub returns-then-word-ne-SEAT : goal.returns-then-word-ne-SEAT
returns-then-word-ne-SEAT c =
    no_first c.args.part.now c.args.at c.args.i c.step_sign-bracket.result c.step_sign-bracket.ensures c.if-bracket-ne-ROUND_OPEN.false c.step_tight_seat-word.result c.step_tight_seat-word.ensures c.if-word-ne-SEAT.true

pub returns : goal.returns
returns c =
    term_whole c.args.part.now c.args.at c.args.i c.step_sign-bracket.result c.step_sign-bracket.ensures c.if-bracket-ne-ROUND_OPEN.false c.step_tight_seat-word.result c.step_tight_seat-word.ensures c.if-word-ne-SEAT.false c.literals.result c.literals.ensures
