-- Where there is a digit and not too many, each way has its law on runs of digits. Assumes nothing.
use Prim.Native.Nat.{ℕ}
use mathlib.Core.Path.{sym, ap, ◌∙◌}
use mathlib.Core.Bool.{not}
use native.Mathlib.Nat.{add-zero}
use native.Mathlib.Omega.{arith}
use borrow.Author.Tests.{eq-eqb}
use lib.Dec.{eqb}
use lib.ListN.{get_or, drop}
use lib.Seq.{get_or-drop}
use Rattle.marks_on_a_card.proofs.Numbers.{plain_one, plain_more}
use Rattle.words_and_digits.proofs.is_plain.Goals as goal

pub returns-then-count-eq1 : goal.returns-then-count-eq1
returns-then-count-eq1 c =
    eq-eqb c.args.count 1 c.if-count-eq1.true
    ∙ sym (plain_one c.args.most (drop c.args.from c.args.card.now) (omega (arith, c.requires)) (omega arith))

pub returns-else-count-eq1 : goal.returns-else-count-eq1
returns-else-count-eq1 c =
    let first = get_or-drop c.args.from c.args.card.now 0 0 ∙ ap (λ (i : ℕ). get_or c.args.card.now i 0) (add-zero c.args.from) in
    sym (plain_more c.args.most (drop c.args.from c.args.card.now) (omega (arith, c.requires)) (omega (arith, c.requires)) ∙ ap (λ (b : ℕ). not (eqb b 48)) first)
