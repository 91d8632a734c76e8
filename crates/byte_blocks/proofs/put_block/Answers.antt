-- `byte_blocks::put_block` meets its contract: one byte more is stored after each turn. Assumes nothing.
use Rattle.room.specs.Room.{clip}
use Rattle.room.proofs.Laws.{clip_none}
use Rattle.room.proofs.Stores.{clip_more}
use lib.Seq.{take_all}
use native.Mathlib.Omega.{arith}
use mathlib.Core.Path.{sym, ap, ◌∙◌}
use Rattle.byte_blocks.proofs.put_block.Goals as goal

pub loop-i-init : goal.loop-i-init
loop-i-init c = sym (clip_none _ _)

pub loop-i-preserved : goal.loop-i-preserved
loop-i-preserved c =
    let given = c.args in
    clip_more given.room.now given.to given.block.now c.loop-i.i (omega arith) c.loop-i.invariant

pub returns : goal.returns
returns c =
    let given = c.args in
    c.loop-i.invariant ∙ ap (clip given.room.now given.to) (take_all c.loop-i.i given.block.now (omega arith))
