-- `gathering::gather_bodies` meets its contract: each turn moves one body to where the one before ends, and leaves the others ahead. Assumes nothing.
use Rattle.gathering.proofs.Bodies.{gather_none, gather_all, lower, ends, gather_withdrawn, gather_more}
use Rattle.gathering.proofs.gather_bodies.Goals as goal
use Rattle.gathering.proofs.gather_bodies.Goals.{in-Some, in_default}

pub loop-i-init : goal.loop-i-init
loop-i-init c = gather_none c.args.deck.now c.args.count c.requires

pub move_down-requires : goal.move_down-requires
move_down-requires c =
    let turn = c.loop-i.invariant in
    record {
      to_le_from = lower _ _ turn c.loop-i-test.true c.word_at-offset.ensures.0 c.in-Some.ensures;
      size_in_bounds = ends _ _ turn c.loop-i-test.true c.word_at-offset.ensures.0 c.in-Some.ensures;
    }

pub loop-i-preserved : goal.loop-i-preserved
loop-i-preserved c =
    let turn = c.loop-i.invariant in
    elim c.match-flagged_size.branch [
      | in-Some w ↦ rw (w.deck-is, w.to-is) (gather_more _ _ turn c.loop-i-test.true w.word_at-offset.ensures.0 w.in-Some.ensures w.move_down.ensures)
      | in_default w ↦ rw (w.deck-is, w.to-is) (gather_withdrawn _ _ turn c.loop-i-test.true w.in_default.ensures)
    ]

pub returns : goal.returns
returns c = gather_all _ _ c.loop-i.invariant c.loop-i-test.false
