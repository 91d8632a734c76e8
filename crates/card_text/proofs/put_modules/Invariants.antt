-- `card_text::put_modules` meets its contract: one module more after each turn. Assumes nothing.
use Rattle.card_text.proofs.Laws.{next_module}
use Rattle.phrases.proofs.Counted.{counted}
use Rattle.phrases.specs.Puts.{Puts}
use Prim.Native.Nat.{◌≤◌, ◌-◌}
use Rattle.card_text.proofs.put_modules.Given as goal

abbrev pub invariant-loop-i : goal.invariant-loop-i
invariant-loop-i l = (l.i - 1 ≤ l.seats - 1) × Puts l.initial.room l.room l.at (counted next_module 1 (l.i - 1)) l.to
