-- The loop's invariant: the line that goes on at `at` ends where the one from the start on does.
use Rattle.marks_on_a_card.specs.Bytes.{run_end, not_lf}
use mathlib.Core.Path.{◌≡◌}
use Rattle.line_ends.proofs.line_end.Given as goal

abbrev pub invariant-loop-at : goal.invariant-loop-at
invariant-loop-at l = run_end not_lf l.card l.from ≡ run_end not_lf l.card l.at
