-- A seat word, the name of the shared number, an exactly-one, or none; each in the language that is told (proofs/Answers.antt). Assumes nothing.
use mathlib.Core.Path.{◌≡◌}
use Rattle.items.proofs.Answers.{all_of, card_group, question_group, either_test, undeclared, card_nothing, question_one, question_nothing, of_card, of_question, mapped}
use Rattle.items.proofs.item.Goals as goal
use Rattle.items.proofs.item.Goals.{else-language-2-via-then-language-2+else-twice, else-language-2-via-else-language-2}

pub returns-then-word-eq-SEAT : goal.returns-then-word-eq-SEAT
returns-then-word-eq-SEAT c =
    of_card c.args.language c.if-language.false
    (card_group c.args.language.values c.args.part.now c.step_inner-word.result c.step_inner-word.ensures c.if-word-eq-SEAT.true c.group-g.result c.group-g.ensures)

pub returns-then-language : goal.returns-then-language
returns-then-language c =
    let all : c.map.result ≡ all_of c.group-g.result = mapped c.group-g.result c.map.result c.map.ensures.cases in
    of_question c.args.language c.if-language.true
    (rw all (question_group c.args.language.values c.args.part.now c.step_inner-word.result c.step_inner-word.ensures c.if-word-eq-SEAT.true c.group-g.result c.group-g.ensures))

pub returns-then-language-eq0 : goal.returns-then-language-eq0
returns-then-language-eq0 c =
    undeclared c.args.language.values c.args.part.now c.step_inner-word.result c.step_inner-word.ensures c.if-word-eq-SEAT.false c.if-word-eq-SHARED.true c.if-language-eq0.true c.args.language.question

pub returns-then-word-eq-SHARED : goal.returns-then-word-eq-SHARED
returns-then-word-eq-SHARED c =
    either_test c.args.language.values c.args.part.now c.step_inner-word.result c.step_inner-word.ensures c.if-word-eq-SEAT.false c.if-word-eq-SHARED.true c.if-language-eq0.false c.shared_test.result c.shared_test.ensures c.args.language.question

pub returns-then-twice : goal.returns-then-twice
returns-then-twice c =
    of_question c.args.language c.if-language-2.true
    (question_one c.args.language.values c.args.part.now c.step_inner-word.result c.step_inner-word.ensures c.if-word-eq-SEAT.false c.if-word-eq-SHARED.false c.twice.result c.twice.ensures c.if-twice.true c.exactly.result c.exactly.ensures)

pub returns : goal.returns
returns c =
    let s = c.args.part.now in
    let w = c.step_inner-word in
    let l = c.args.language in
    elim c.else-language-2.branch [
      | else-language-2-via-then-language-2+else-twice b ↦
          of_question l b.if-language-2.true (question_nothing l.values s w.result w.ensures c.if-word-eq-SEAT.false c.if-word-eq-SHARED.false b.twice.result b.twice.ensures b.if-twice.false)
      | else-language-2-via-else-language-2 b ↦
          of_card l b.if-language-2.false (card_nothing l.values s w.result w.ensures c.if-word-eq-SEAT.false c.if-word-eq-SHARED.false)
    ]
