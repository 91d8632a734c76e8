-- The four ways that a mark starts, each by its law (proofs/Starts.antt).
use Prim.Native.Nat.{ℕ, ◌+◌}
use mathlib.Core.Path.{sym, ap, ◌∙◌}
use lib.ListN.{drop}
use Rattle.marks.specs.Step.{stepped}
use Rattle.marks_on_a_card.specs.Marks.{word, Start}
use Rattle.marks_on_a_card.proofs.StartLaws.{letter_starts}
use Rattle.marks.proofs.start.Goals as goal

pub returns-then-is_letter : goal.returns-then-is_letter
returns-then-is_letter c =
    let b = c.args.b in
    let i = c.args.at in
    let s = drop (i + 1) c.args.card.now in
    λ k. c.word.ensures k ∙ ap (λ (x : ℕ). stepped i (word x s) k) (sym c.requires.1) ∙ ap
    (λ (x : Start). stepped i x k) (sym (letter_starts b s (sym c.is_letter.ensures ∙ c.if-is_letter.true)))
