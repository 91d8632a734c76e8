-- Invariant: the first statements are those of the rows (Made, proofs/Structs.antt). Assumes nothing.
use Rattle.outline.proofs.Structs.{Made}
use Rattle.outline.proofs.statements_in.Given as goal

abbrev pub invariant-loop-i : goal.invariant-loop-i
invariant-loop-i l = Made l.rows l.statements l.i
