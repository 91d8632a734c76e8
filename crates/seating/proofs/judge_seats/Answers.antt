-- `seating::judge_seats` meets its contract: how many there are, then each, then the number behind them. Assumes nothing.
use mathlib.Core.Path.{sym, ◌∙◌}
use native.Mathlib.Omega.{arith}
use Rattle.std.proofs.lemmas.Result.{err_from_is_err_and}
use Rattle.seating.proofs.FirstRefusal.{tells_first, tells_second}
use Rattle.seating.proofs.Judging.{judged_other, judged_start, judged_behind, other_length}
use Rattle.seating.proofs.judge_seats.Goals as goal
use Rattle.seating.proofs.judge_seats.Goals.{then-seats-n-2-via-then-seats-n-2, then-seats-n-2-via-else-seats-n-2+then-seats-n-ne1}

pub returns-then-seats-n : goal.returns-then-seats-n
returns-then-seats-n c = rw c.if-shared-eq0.true (sym (judged_other _ _ _ 0 c.if-seats-n.true))

pub returns-then-shared-eq0 : goal.returns-then-shared-eq0
returns-then-shared-eq0 c = rw c.if-shared-eq0.true (c.judge_each.ensures ∙ sym (judged_start _ _ _ c.if-seats-n.false))

pub returns-then-seats-n-2 : goal.returns-then-seats-n-2
returns-then-seats-n-2 c =
    let a = c.args in
    sym (judged_other _ _ _ _ (other_length a.n a.top a.seats.now a.shared c.if-shared-eq0.false (λ e.
    elim c.then-seats-n-2.branch [
      | then-seats-n-2-via-then-seats-n-2 w ↦ absurd (omega arith)
      | then-seats-n-2-via-else-seats-n-2+then-seats-n-ne1 w ↦ w.if-seats-n-ne1.true (omega arith)
    ])))

pub returns-in_err-judge_each : goal.returns-in_err-judge_each
returns-in_err-judge_each c =
    let p = err_from_is_err_and c.from_residual.result c.from_residual.ensures.1 in
    rw (p.1, p.2) (tells_first _ (sym c.in_err-judge_each.ensures) ∙ sym (judged_behind _ _ _ (omega arith) _ c.if-shared-eq0.false))

pub returns : goal.returns
returns c =
    c.judge_shared.ensures ∙ rw c.from.ensures (tells_second _ (sym c.in_ok-judge_each.ensures) ∙ sym (judged_behind _ _ _ (omega arith) _ c.if-shared-eq0.false))
