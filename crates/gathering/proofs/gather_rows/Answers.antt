-- `gathering::gather_rows` meets its contract: each turn leaves one entry less to be put. Assumes nothing.
use Rattle.gathering.proofs.Rows.{rows_none, rows_all, rows_withdrawn, rows_more}
use borrow.Author.Rules.{rules}
use mathlib.Core.Path.{refl}
use Rattle.gathering.proofs.gather_rows.Goals as goal
use Rattle.gathering.proofs.gather_rows.Goals.{in-Some, in_default}

pub loop-i-init : goal.loop-i-init
loop-i-init c = rows_none _ _ _ c.requires (search rules)

pub loop-i-preserved : goal.loop-i-preserved
loop-i-preserved c =
    let turn = c.loop-i.invariant in
    elim c.match-flagged_size.branch [
      | in-Some w ↦ rw (w.deck-is, w.to-is, w.offset-is) (rows_more _ _ _ c.requires turn c.loop-i-test.true w.in-Some.ensures w.word_at-number.ensures.0 refl w.put_row-to.ensures)
      | in_default w ↦ rw (w.deck-is, w.to-is, w.offset-is) (rows_withdrawn _ _ _ c.requires turn c.loop-i-test.true w.in_default.ensures)
    ]

pub returns : goal.returns
returns c = rows_all _ _ _ c.requires c.loop-i.invariant c.loop-i-test.false
