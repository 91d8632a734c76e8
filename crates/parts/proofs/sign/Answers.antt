-- The step finds the sign, or reading stops at what stands there. Assumes nothing.
use Rattle.parts.proofs.Lines.{sign_stops, sign_read}
use Rattle.parts.proofs.Steps.{next_at}
use Rattle.parts.proofs.sign.Goals as goal

pub returns-then-mark-kind : goal.returns-then-mark-kind
returns-then-mark-kind c =
    let a = c.args in
    sign_stops (next_at a.card.now a.at c.step_sign-step.result c.step_sign-step.ensures) c.if-mark-kind.true

pub returns : goal.returns
returns c =
    let a = c.args in
    sign_read (next_at a.card.now a.at c.step_sign-step.result c.step_sign-step.ensures) c.if-mark-kind.false
