-- `shifting::bytes_down` meets its contract: one byte more after each turn, read where nothing has been stored yet. Assumes nothing.
use Rattle.shifting.proofs.Moves.{down_more}
use Rattle.room.proofs.Laws.{clip_none}
use mathlib.Core.Path.{sym}
use Rattle.shifting.proofs.bytes_down.Goals as goal

pub loop-i-init : goal.loop-i-init
loop-i-init c = sym (clip_none _ _)

pub loop-i-preserved : goal.loop-i-preserved
loop-i-preserved c =
    let given = c.args in
    let turn = c.loop-i in
    down_more given.room.now given.from given.to given.size turn.i c.requires.to_le_from c.requires.size_in_bounds c.loop-i-test.true turn.invariant
