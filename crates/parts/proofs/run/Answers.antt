-- Invariant: an answer to what is left of the run answers the whole (Going, proofs/Lines.antt). Assumes nothing.
use Rattle.parts.proofs.Lines.{going_start, going_end, going_stops, going_more}
use Rattle.parts.proofs.Steps.{next_at}
use Rattle.parts.proofs.run.Goals as goal

pub loop-kind-init : goal.loop-kind-init
loop-kind-init c = going_start c.args.state.now

pub returns-then-mark-kind : goal.returns-then-mark-kind
returns-then-mark-kind c =
    going_stops c.loop-kind.invariant c.loop-kind-test.true
    (next_at c.args.card.now c.loop-kind.next c.step_kind-step.result c.step_kind-step.ensures) _ c.if-mark-kind.true

pub loop-kind-preserved : goal.loop-kind-preserved
loop-kind-preserved c =
    going_more c.loop-kind.invariant c.loop-kind-test.true
    (next_at c.args.card.now c.loop-kind.next c.step_kind-step.result c.step_kind-step.ensures) c.if-mark-kind.false c.judge_word.ensures

pub returns : goal.returns
returns c = going_end c.loop-kind.invariant c.loop-kind-test.false
