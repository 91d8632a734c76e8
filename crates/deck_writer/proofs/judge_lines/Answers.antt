-- `deck_writer::judge_lines` meets its contract: what is said of all entries is said of those left, so a wrong field stops both. Assumes nothing.
use Rattle.std.proofs.Common.{arith}
use Rattle.std.proofs.lemmas.Result.{err_from_is_err_and}
use Rattle.deck_writer.proofs.Judging.{stops, least_next, goes_on}
use Rattle.deck_writer.proofs.judge_lines.Goals as goal

pub returns-in_err-judge_line : goal.returns-in_err-judge_line
returns-in_err-judge_line c =
    let p = err_from_is_err_and c.from_residual.result c.from_residual.ensures.1 in
    rw (p.1, p.2) (stops c.loop-i.invariant c.loop-i-test.true c.at-entry.ensures c.in_err-judge_line.ensures)

pub loop-i-preserved : goal.loop-i-preserved
loop-i-preserved c =
    let inv = c.loop-i.invariant in
    record {
      least_is = least_next inv c.loop-i-test.true c.at-entry.ensures;
      same = goes_on inv c.loop-i-test.true c.at-entry.ensures c.in_ok-judge_line.ensures;
      few = omega (arith, inv.few);
    }
