-- `statement_copies::put_copies` meets its contract: one copy more after each turn. Assumes nothing.
use Rattle.leaf_text.specs.Style.{look}
use Rattle.statement_copies.specs.Copies.{kept_copy}
use Rattle.phrases.proofs.Counted.{counted}
use Rattle.phrases.specs.Puts.{Puts}
use Prim.Native.Nat.{◌-◌}
use Rattle.statement_copies.proofs.put_copies.Given as goal

abbrev pub invariant-loop-m : goal.invariant-loop-m
invariant-loop-m l = Puts l.initial.room l.room l.at (counted (kept_copy (look l.style) l.rest) 0 (l.m - 0)) l.to
