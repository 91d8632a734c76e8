-- `shifting::bytes_up` meets its contract: one byte less is left after each turn, and read where nothing has been stored yet. Assumes nothing.
use Rattle.shifting.proofs.Moves.{up_more}
use Rattle.byte_blocks.proofs.Blocks.{up_none}
use mathlib.Core.Path.{refl}
use Rattle.shifting.proofs.bytes_up.Goals as goal

pub loop-left-init : goal.loop-left-init
loop-left-init c = up_none c.args.room.now c.args.from c.args.to c.args.size refl

pub loop-left-preserved : goal.loop-left-preserved
loop-left-preserved c =
    let given = c.args in
    let turn = c.loop-left in
    up_more given.room.now given.from given.to given.size turn.left c.requires.from_le_to c.requires.size_in_bounds turn.auto.left c.loop-left-test.true turn.invariant
