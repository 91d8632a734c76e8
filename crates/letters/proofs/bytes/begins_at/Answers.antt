-- The loop's invariant: what the bytes passed leave to compare decides.
use Rattle.marks_on_a_card.proofs.Runs.{begun_short}
use Rattle.letters.proofs.Beginnings.{begun_on, begun_off, begun_all}
use Rattle.marks_on_a_card.specs.Bytes.{begun}
use lib.ListN.{drop, length-drop}
use Prim.Native.Nat.{ℕ, ◌+◌}
use native.Mathlib.Omega.{arith}
use native.Mathlib.Nat.{add-zero, add_assoc}
use mathlib.Core.Path.{sym, ap, ◌∙◌}
use Rattle.letters.proofs.bytes.begins_at.Goals as goal

pub returns-then-card-at : goal.returns-then-card-at
returns-then-card-at c = sym (begun_short c.args.these.now (drop c.args.at c.args.card.now) (simp length-drop (omega arith)))

pub loop-i-init : goal.loop-i-init
loop-i-init c = rw add-zero

pub returns-then-card-at-2 : goal.returns-then-card-at-2
returns-then-card-at-2 c =
    sym
    (c.loop-i.invariant ∙ begun_off c.args.these.now
    c.args.card.now c.loop-i.i
    (c.args.at + c.loop-i.i) (omega arith) (omega arith) c.if-card-at-2.true)

pub loop-i-preserved : goal.loop-i-preserved
loop-i-preserved c =
    c.loop-i.invariant ∙ begun_on c.args.these.now
    c.args.card.now c.loop-i.i
    (c.args.at + c.loop-i.i) (omega arith) (omega arith) c.if-card-at-2.false ∙ ap
    (λ (j : ℕ). begun (drop (c.loop-i.i + 1) c.args.these.now)
    (drop j c.args.card.now))
    (add_assoc c.args.at c.loop-i.i 1)

pub returns : goal.returns
returns c =
    sym
    (c.loop-i.invariant ∙ begun_all c.args.these.now c.args.card.now c.loop-i.i
    (c.args.at + c.loop-i.i) (omega arith))
