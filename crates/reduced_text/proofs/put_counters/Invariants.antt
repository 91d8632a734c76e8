-- `reduced_text::put_counters` meets its contract: one counter more after each turn. Assumes nothing.
use Rattle.reduced_text.proofs.Laws.{next_counter}
use Rattle.phrases.proofs.Counted.{counted}
use Rattle.phrases.specs.Puts.{Puts}
use Prim.Native.Nat.{◌-◌}
use Rattle.reduced_text.proofs.put_counters.Given as goal

abbrev pub invariant-loop-d : goal.invariant-loop-d
invariant-loop-d l = Puts l.initial.room l.room l.at (counted (next_counter l.seats l.start) 0 (l.d - 0)) l.to
