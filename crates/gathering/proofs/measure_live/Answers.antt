-- `gathering::measure_live` meets its contract: those counted and those left are all. Assumes nothing.
use Rattle.gathering.proofs.Counting.{counted_none, counted_live, counted_withdrawn, counted_all}
use native.Mathlib.Omega.{arith}
use Rattle.gathering.proofs.measure_live.Goals as goal
use Rattle.gathering.proofs.measure_live.Goals.{in-Some, in_default}

pub bounds-deck-0 : goal.bounds-deck-0
bounds-deck-0 c = omega (arith, c.requires.whole)

pub loop-i-init : goal.loop-i-init
loop-i-init c = counted_none c.args.deck.now

pub loop-i-preserved : goal.loop-i-preserved
loop-i-preserved c =
    elim c.match-flagged_size.branch [
      | in-Some w ↦ rw w.live-is (counted_live c.args.deck.now c.loop-i.invariant (omega arith) w.in-Some.ensures)
      | in_default w ↦ rw w.live-is (counted_withdrawn c.args.deck.now c.loop-i.invariant (omega arith) w.in_default.ensures)
    ]

pub returns : goal.returns
returns c = counted_all c.args.deck.now c.loop-i.invariant (omega arith)
