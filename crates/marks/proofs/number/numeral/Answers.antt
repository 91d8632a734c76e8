-- Each exit has its law (proofs/Starts.antt), over the digits as they were counted.
use Rattle.marks.proofs.Starts.{numeral_outside, read_long, read_decimal}
use mathlib.Core.Path.{◌≡◌, sym, ◌∙◌}
use lib.ListN.{drop}
use Prim.Native.Nat.{◌≤◌}
use Rattle.card.specs.Limits.{number_digits, further_digits}
use Rattle.marks_on_a_card.specs.Bytes.{is_digit, run}
use Rattle.marks_on_a_card.specs.Digits.{plain}
use Rattle.marks.proofs.number.numeral.Goals.{After-is_plain, Else-more-gt-FURTHER_DIGITS}
use Rattle.marks.proofs.number.numeral.Goals as goal

-- the digits before a point are judged as a number's
digits-judged : (c : After-is_plain)
    → c.is_plain.result ≡ plain number_digits (run is_digit (drop c.args.at c.args.card.now))
digits-judged c = c.is_plain.ensures

-- a decimal has no more digits behind its point than it may have
few-further : (c : Else-more-gt-FURTHER_DIGITS) → c.digits_from-f.result.count ≤ further_digits
few-further c = c.if-more-gt-FURTHER_DIGITS.false

pub returns-then-not-is_plain : goal.returns-then-not-is_plain
returns-then-not-is_plain c =
    λ k. c.bare.ensures ∙ sym
    (numeral_outside c.args.card.now c.args.at
    c.requires.0 c.requires.1 k
    (sym (digits-judged (goal.at.returns-then-not-is_plain c).After-is_plain) ∙ c.if-not-is_plain.true))

pub returns-then-more-gt-FURTHER_DIGITS : goal.returns-then-more-gt-FURTHER_DIGITS
returns-then-more-gt-FURTHER_DIGITS c =
    λ k. c.bare-then-more-gt-FURTHER_DIGITS.ensures ∙ sym
    (read_long c.args.card.now
    c.args.at
    c.requires.0
    c.requires.1 k
    c.digits_from-d.result c.digits_from-d.ensures
    c.digits_from-f.result c.digits_from-f.ensures
    (sym (digits-judged (goal.at.returns-then-more-gt-FURTHER_DIGITS c).After-is_plain) ∙ c.if-not-is_plain.false)
    (sym c.is_pointed.ensures ∙ c.if-not-is_pointed.false)
    c.if-more-gt-FURTHER_DIGITS.true)

pub returns : goal.returns
returns c =
    λ k. sym
    (read_decimal c.args.card.now
    c.args.at c.requires.0
    c.requires.1 k c.digits_from-d.result
    c.digits_from-d.ensures c.digits_from-f.result c.digits_from-f.ensures
    (sym (digits-judged (goal.at.returns c).After-is_plain) ∙ c.if-not-is_plain.false)
    (sym c.is_pointed.ensures ∙ c.if-not-is_pointed.false) (few-further c))
