-- `statement_text::put_statements` meets its contract: one statement more after each turn. Assumes nothing.
use Rattle.statement_text.proofs.Laws.{next_statement}
use Rattle.phrases.proofs.Counted.{counted}
use Rattle.phrases.specs.Puts.{Puts}
use Prim.Native.Nat.{◌-◌}
use Rattle.statement_text.proofs.put_statements.Given as goal

abbrev pub invariant-loop-i : goal.invariant-loop-i
invariant-loop-i l = Puts l.initial.room l.room l.at (counted (next_statement l.form l.seats l.copies l.nodes l.branches l.rows) 0 (l.i - 0)) l.to
