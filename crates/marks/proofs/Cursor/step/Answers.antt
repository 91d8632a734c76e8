-- The loop's invariant: a step from here is the step from the start. Each exit has its law (proofs/Starts.antt).
use Prim.Native.Nat.{ℕ, ◌+◌}
use mathlib.Core.Path.{refl, sym, ap, ◌∙◌}
use native.Mathlib.Omega.{arith}
use lib.ListN.{get_or, drop, length-drop}
use Rattle.marks_on_a_card.specs.Marks.{start_at}
use Rattle.marks.specs.Step.{step_at}
use Rattle.marks.proofs.Starts.{step_end_law, step_mark, step_gap}
use Rattle.marks_on_a_card.proofs.StartLaws.{gap_fits}
use Rattle.marks.proofs.Cursor.step.Goals as goal

pub returns-then-n-eq0 : goal.returns-then-n-eq0
returns-then-n-eq0 c =
    let s = c.args.card.now in
    let i = c.loop-at.at in
    step_mark s i c.loop-at-test.true (start_at (get_or s i 0) (drop (i + 1) s)) c.start.result refl c.start.ensures ∙ sym c.loop-at.invariant

pub overflow_add-at : goal.overflow_add-at
overflow_add-at c =
    let s = c.args.card.now in
    let i = c.loop-at.at in
    omega (arith, c.gap-n.ensures, gap_fits (get_or s i 0) (drop (i + 1) s), length-drop (i + 1) s, c.loop-at-test.true, c.well_formed.0)

pub loop-at-preserved : goal.loop-at-preserved
loop-at-preserved c =
    let s = c.args.card.now in
    let i = c.loop-at.at in
    c.loop-at.invariant ∙ step_gap s i c.loop-at-test.true (λ z. c.if-n-eq0.false (c.gap-n.ensures ∙ z)) ∙ ap
    (λ (n : ℕ). step_at s (i + n)) (sym c.gap-n.ensures)

pub returns : goal.returns
returns c = c.bare.ensures ∙ sym (c.loop-at.invariant ∙ step_end_law c.args.card.now c.loop-at.at c.loop-at-test.false)
