-- `room::put_whole` meets its contract: one byte more of the text after each turn, each at its place. Assumes nothing.
use mathlib.Core.Path.{sym}
use borrow.Author.Rules.{rules}
use Rattle.room.proofs.Laws.{clip_none}
use Rattle.room.proofs.Stores.{clip_more, put_part}
use Rattle.room.proofs.put_whole.Goals as goal

pub loop-i-init : goal.loop-i-init
loop-i-init c = sym (clip_none _ _)

pub loop-i-preserved : goal.loop-i-preserved
loop-i-preserved c =
    clip_more c.args.room.now c.args.at c.args.s.now c.loop-i.i (search rules) c.loop-i.invariant

pub returns : goal.returns
returns c = put_part c.loop-i.i (search rules) (search rules) c.loop-i.invariant (search rules)
