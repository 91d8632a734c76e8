-- Each way out has its law (proofs/Words.antt).
use mathlib.Core.Path.{sym, ◌∙◌}
use native.Mathlib.Omega.{arith}
use Rattle.card.specs.Text.{bytes}
use Rattle.marks_on_a_card.specs.Bytes.{in_word, run}
use lib.ListN.{drop}
use Rattle.words_and_digits.proofs.Keywords.{keyword_none, keyword_longer}
use Rattle.marks.proofs.Words.{numbered_fits, not_numbered, seat_word, process_word, other_word, keyword_word}
use Rattle.marks.proofs.word.word.Goals.{in-Some-keyword_begun+else-not-word_at, in_default-keyword_begun}
use Rattle.marks.proofs.word.word.Goals as goal

pub overflow_add-at : goal.overflow_add-at
overflow_add-at c = omega (arith, numbered_fits (bytes "s") c.args.card.now c.args.at c.requires.0 c.in-Some.seat c.in-Some.ensures, c.well_formed.0)

pub returns-in-Some : goal.returns-in-Some
returns-in-Some c =
    seat_word c.args.card.now c.args.at c.requires.0 c.requires.1 c.in-Some.seat c.in-Some.ensures c.valued.result c.valued.ensures

pub overflow_add-at-in-Some-numbered_at : goal.overflow_add-at-in-Some-numbered_at
overflow_add-at-in-Some-numbered_at c =
    omega (
      arith,
      numbered_fits (bytes "process") c.args.card.now c.args.at c.requires.0 c.in-Some-numbered_at.process c.in-Some-numbered_at.ensures,
      c.well_formed.0,
    )

pub returns-in-Some-numbered_at : goal.returns-in-Some-numbered_at
returns-in-Some-numbered_at c =
    let w = run in_word (drop c.args.at c.args.card.now) in
    process_word c.args.card.now c.args.at c.requires.0 c.requires.1
    (not_numbered (bytes "s") w c.numbered_at.result c.numbered_at.ensures c.in_default.not-Some)
    c.in-Some-numbered_at.process c.in-Some-numbered_at.ensures c.valued-in-Some-numbered_at.result c.valued-in-Some-numbered_at.ensures

pub returns-then-not-word_at : goal.returns-then-not-word_at
returns-then-not-word_at c =
    let w = run in_word (drop c.args.at c.args.card.now) in
    keyword_word c.args.card.now c.args.at c.requires.0 c.requires.1
    (not_numbered (bytes "s") w c.numbered_at.result c.numbered_at.ensures c.in_default.not-Some)
    (not_numbered (bytes "process") w c.numbered_at-2.result c.numbered_at-2.ensures c.in_default-numbered_at.not-Some)
    c.in-Some-keyword_begun.known c.in-Some-keyword_begun.ensures (sym c.word_at.ensures ∙ c.if-not-word_at.true) c.bare.result c.bare.ensures

pub returns : goal.returns
returns c =
    let w = run in_word (drop c.args.at c.args.card.now) in
    other_word c.args.card.now c.args.at c.requires.0 c.requires.1
    (not_numbered (bytes "s") w c.numbered_at.result c.numbered_at.ensures c.in_default.not-Some)
    (not_numbered (bytes "process") w c.numbered_at-2.result c.numbered_at-2.ensures c.in_default-numbered_at.not-Some)
    (elim c.match-keyword_begun.branch [
      | in-Some-keyword_begun+else-not-word_at w ↦
          keyword_longer c.args.card.now c.args.at c.requires.0 c.requires.1 w.in-Some-keyword_begun.known w.in-Some-keyword_begun.ensures
          (sym w.word_at.ensures ∙ w.if-not-word_at.false)
      | in_default-keyword_begun w ↦
          keyword_none c.args.card.now c.args.at c.requires.0 c.requires.1 c.keyword_begun.result c.keyword_begun.ensures w.in_default-keyword_begun.not-Some
    ])
    c.word_end.result c.word_end.ensures c.bare-2.result c.bare-2.ensures
