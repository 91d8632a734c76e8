-- `update_text::put_update` meets its contract: by whether the branch leads to the own state, and by whether it sets something. Assumes nothing.
use Rattle.update_text.proofs.Laws.{update_none, update_set, update_shift, update_both}
use Rattle.phrases.proofs.Laws.{put_first, puts_then, puts_as}
use Prim.Native.Nat.{ℕ}
use mathlib.Core.Path.{◌≡◌}
use native.Mathlib.Omega.{arith}
use Rattle.card.specs.Text.{bytes}
use Rattle.room.specs.Room.{Put}
use Rattle.update_text.proofs.put_update.Goals as goal
use Rattle.update_text.proofs.put_update.Goals.{After-put_bytes}

-- nothing is set where `true` stands,
nothing-set : (c : After-put_bytes) → ◌≡◌ {A = ℕ} c.args.sets 0
nothing-set c = c.if-sets-eq0.true

-- and that word it is
true-put : (c : After-put_bytes)
    → let start = c.args in Put start.room.now c.put_bytes.new.room start.at (bytes "true") c.put_bytes.result
true-put c = c.put_bytes.ensures

pub returns-then-sets-eq0 : goal.returns-then-sets-eq0
returns-then-sets-eq0 c =
    puts_as _ (update_none c.args.seats c.args.own c.args.end c.args.sets (omega arith) (nothing-set c.before.before.before)) (put_first (true-put c.before.before.before))

pub returns-then-own-end : goal.returns-then-own-end
returns-then-own-end c =
    puts_as _ (update_set c.args.seats c.args.own c.args.end c.args.sets (omega arith) (λ e. omega arith)) c.put_set.ensures

pub returns-then-sets-eq0-2 : goal.returns-then-sets-eq0-2
returns-then-sets-eq0-2 c =
    puts_as _ (update_shift c.args.seats c.args.own c.args.end c.args.sets (λ e. omega arith) (omega arith)) c.put_shift-a.ensures

pub returns : goal.returns
returns c =
    puts_as _ (update_both c.args.seats c.args.own c.args.end c.args.sets (λ e. omega arith) (λ e. omega arith)) (puts_then c.put_shift-a.ensures c.put_set_last.ensures)
