-- `deck_writer::judge_lines` meets its contract: what is said of all entries is said of those left, so a wrong field stops both. Assumes nothing.
use Rattle.deck_writer.proofs.Judging.{Going}
use Rattle.deck_writer.proofs.judge_lines.Given as goal

abbrev pub invariant-loop-i : goal.invariant-loop-i
invariant-loop-i l = Going l.contents l.i l.least l.long
