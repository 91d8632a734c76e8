-- The bytes that stand right there pass the run at once (proofs/Updates.antt); else it goes mark by mark. Assumes nothing.
use native.Mathlib.Omega.{arith}
use Rattle.card.specs.Text.{bytes}
use Rattle.parts.proofs.Front.{here}
use Rattle.branches.proofs.Updates.{update_place, update_passed}
use Rattle.branches.proofs.updated.Goals as goal

pub overflow_add-result : goal.overflow_add-result
overflow_add-result c =
    let a = c.args in
    omega (arith, update_place a.card.now a.at (here a.card.now a.at (bytes ":(s1'=") c.all_here.ensures c.if-all_here.true))

pub returns-then-all_here : goal.returns-then-all_here
returns-then-all_here c =
    let a = c.args in
    update_passed a.card.now a.at (here a.card.now a.at (bytes ":(s1'=") c.all_here.ensures c.if-all_here.true) a.state.now
