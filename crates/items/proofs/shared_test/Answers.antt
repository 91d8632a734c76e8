-- The literal's answer, and the mark behind it (proofs/Tests.antt). Assumes nothing.
use Rattle.std.proofs.lemmas.Result.{err_from_is_err_and}
use Rattle.items.proofs.Tests.{literal_wrong, stays_open, closed}
use Prim.Native.Nat.{min}
use mathlib.Core.Path.{◌≡◌}
use Rattle.card.specs.Limits.{numbers}
use Rattle.card.specs.Laid.{shared_kind, pack_group}
use Rattle.items.proofs.shared_test.Goals as goal

-- its node tells how the number is tested, and for what
relation-kept : (c : goal.After-pack_shared)
    → let tail = c.in_ok-tail.tail in c.pack_shared.result ≡ pack_group shared_kind 0 (min tail.relation 1) (min tail.d numbers)
relation-kept c = c.pack_shared.ensures

pub returns-in_err-tail : goal.returns-in_err-tail
returns-in_err-tail c =
    let p = err_from_is_err_and c.from_residual.result c.from_residual.ensures.1 in
    rw (p.1, p.2) (literal_wrong c.args.part.now c.args.at c.in_err-tail.field-0.0 c.in_err-tail.ensures)

pub returns-then-close-ne-ROUND_CLOSE : goal.returns-then-close-ne-ROUND_CLOSE
returns-then-close-ne-ROUND_CLOSE c =
    stays_open c.args.part.now c.args.at c.in_ok-tail.tail c.in_ok-tail.ensures c.step_sign-close.result c.step_sign-close.ensures c.if-close-ne-ROUND_CLOSE.true

pub returns : goal.returns
returns c =
    closed c.args.part.now c.args.at c.in_ok-tail.tail c.in_ok-tail.ensures c.step_sign-close.result c.step_sign-close.ensures c.if-close-ne-ROUND_CLOSE.false
    c.pack_shared.result (relation-kept c)
