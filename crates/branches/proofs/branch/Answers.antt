-- A way out for each part of a branch, in the order of the parts (proofs/BranchLaws.antt). Assumes nothing.
use lib.ListN.{set}
use native.Mathlib.Omega.{arith}
use mathlib.Core.Path.{ap}
use Rattle.parts.proofs.Answers.{returned}
use Rattle.branches.proofs.BranchLaws.{weight_halts, update_halts, end_halts, close_halts, sets_halt, branch_read, weight_few}
use Rattle.branches.proofs.branch.Goals as goal

pub returns-in_err-weighed : goal.returns-in_err-weighed
returns-in_err-weighed c = rw (returned _ _ c.from_residual.ensures.1) (weight_halts _ _ _ _ _ _ _ c.in_err-weighed.ensures)

pub returns-in_err-update : goal.returns-in_err-update
returns-in_err-update c =
    rw (returned _ _ c.from_residual-in_err-update.ensures.1) (update_halts _ _ _ _ _ _ _ c.in_ok-weighed.ensures c.in_err-update.ensures)

pub returns-in_err-end : goal.returns-in_err-end
returns-in_err-end c =
    rw (returned _ _ c.from_residual-in_err-end.ensures.1)
    (end_halts _ _ _ _ _ _ _ c.in_ok-weighed.ensures c.in_ok-update.ensures c.in_err-end.ensures)

pub returns-in_err-close : goal.returns-in_err-close
returns-in_err-close c =
    rw (returned _ _ c.from_residual-in_err-close.ensures.1)
    (close_halts _ _ _ _ _ _ _ c.in_ok-weighed.ensures c.in_ok-update.ensures c.in_ok-end.ensures c.in_err-close.ensures)

pub returns-in_err-last : goal.returns-in_err-last
returns-in_err-last c =
    rw (returned _ _ c.from_residual-in_err-last.ensures.1)
    (sets_halt _ _ _ _ _ _ _ c.in_ok-weighed.ensures c.in_ok-update.ensures c.in_ok-end.ensures c.in_ok-close.ensures c.in_err-last.ensures)

pub overflow_cast-units : goal.overflow_cast-units
overflow_cast-units c = omega (arith, weight_few c.in_ok-weighed.ensures)

pub returns : goal.returns
returns c =
    let a = c.args in
    branch_read _ _ _ _ _ _ _ c.in_ok-weighed.ensures c.in_ok-update.ensures c.in_ok-end.ensures c.in_ok-close.ensures c.in_ok-last.ensures
    (ap (set a.branches.now a.place) c.pack_branch.ensures)
