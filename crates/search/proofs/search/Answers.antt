-- Invariant: the first mark outside the rules from the place on is the first from the cursor on (proofs/Places.antt). Assumes nothing.
use Rattle.search.proofs.Places.{search_over, search_end, search_found, search_more}
use Rattle.parts.proofs.Steps.{next_at}
use Rattle.search.specs.Search.{sought}
use mathlib.Core.Path.{refl, ap, ◌∙◌, sym}
use Rattle.search.proofs.search.Goals as goal

pub loop-next-init : goal.loop-next-init
loop-next-init c = refl

pub returns-then-mark-eq-END : goal.returns-then-mark-eq-END
returns-then-mark-eq-END c =
    let a = c.args in
    sym (ap (sought a.stop a.place) (c.loop-next.invariant ∙ search_end a.card.now c.loop-next.next c.step-step.result
    (next_at a.card.now c.loop-next.next c.step-step.result c.step-step.ensures) c.if-mark-eq-END.true))

pub returns-then-mark-eq-OUTSIDE : goal.returns-then-mark-eq-OUTSIDE
returns-then-mark-eq-OUTSIDE c =
    let a = c.args in
    sym (ap (sought a.stop a.place) (c.loop-next.invariant ∙ search_found a.card.now c.loop-next.next c.step-step.result
    (next_at a.card.now c.loop-next.next c.step-step.result c.step-step.ensures) c.if-mark-eq-OUTSIDE.true))

pub loop-next-smaller : goal.loop-next-smaller
loop-next-smaller c =
    let a = c.args in
    (search_more a.card.now c.loop-next.next c.step-step.result
    (next_at a.card.now c.loop-next.next c.step-step.result c.step-step.ensures) c.if-mark-eq-END.false c.if-mark-eq-OUTSIDE.false).1

pub loop-next-preserved : goal.loop-next-preserved
loop-next-preserved c =
    let a = c.args in
    c.loop-next.invariant ∙ (search_more a.card.now c.loop-next.next c.step-step.result
    (next_at a.card.now c.loop-next.next c.step-step.result c.step-step.ensures) c.if-mark-eq-END.false c.if-mark-eq-OUTSIDE.false).0

pub returns : goal.returns
returns c =
    let a = c.args in
    sym (ap (sought a.stop a.place) (c.loop-next.invariant ∙ search_over a.card.now c.loop-next.next c.loop-next-test.false))
