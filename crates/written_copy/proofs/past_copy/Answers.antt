-- The text with the seat's digits in their places is the one that stands there, if any does; a card that ends before it has none. Assumes nothing.
use mathlib.Core.Path.{sym, ◌∙◌}
use mathlib.Core.Bool.{true, false}
use native.Mathlib.Omega.{arith}
use Rattle.written_copy.proofs.Written.{one_digit_copy, two_digit_copy, too_short}
use Rattle.written_copy.proofs.past_copy.Goals.{then-card-lt-SHORTEST-via-then-card-lt-SHORTEST, then-card-lt-SHORTEST-via-else-card-lt-SHORTEST+then-card-at}
use Rattle.written_copy.proofs.past_copy.Goals as goal

pub returns-then-card-lt-SHORTEST : goal.returns-then-card-lt-SHORTEST
returns-then-card-lt-SHORTEST c =
    let a = c.args in
    elim c.then-card-lt-SHORTEST.branch [
      | then-card-lt-SHORTEST-via-then-card-lt-SHORTEST w ↦ too_short a.card.now a.at a.seat (omega arith)
      | then-card-lt-SHORTEST-via-else-card-lt-SHORTEST+then-card-at w ↦ too_short a.card.now a.at a.seat (omega arith)
    ]

pub returns-then-stands : goal.returns-then-stands
returns-then-stands c =
    let a = c.args in
    c.past_word.ensures ∙ one_digit_copy a.card.now a.at a.seat c.if-seat-lt10.true true (sym c.stands.ensures ∙ c.if-stands.true)

pub returns-then-seat-lt10 : goal.returns-then-seat-lt10
returns-then-seat-lt10 c =
    let a = c.args in
    c.past_word-then-seat-lt10.ensures ∙ one_digit_copy a.card.now a.at a.seat c.if-seat-lt10.true false (sym c.stands.ensures ∙ c.if-stands.false)

pub returns-then-stands-2 : goal.returns-then-stands-2
returns-then-stands-2 c =
    let a = c.args in
    c.past_word-then-stands-2.ensures ∙ two_digit_copy a.card.now a.at a.seat c.if-seat-lt10.false true (sym c.stands-2.ensures ∙ c.if-stands-2.true)

pub returns : goal.returns
returns c =
    let a = c.args in
    c.past_word-2.ensures ∙ two_digit_copy a.card.now a.at a.seat c.if-seat-lt10.false false (sym c.stands-2.ensures ∙ c.if-stands-2.false)
