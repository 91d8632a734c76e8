-- `byte_blocks::move_block` meets its contract: what is stored is what was read before. Assumes nothing.
use Rattle.room.specs.Room.{clip}
use mathlib.Core.Path.{ap, ◌∙◌}
use Rattle.byte_blocks.proofs.move_block.Goals as goal

pub returns : goal.returns
returns c =
    let given = c.args in
    c.put_block.ensures ∙ ap (clip given.room.now given.to) c.block_at-block.ensures
