-- `moves_text::put_table` meets its contract: after each turn the moves from one state more are put. Assumes nothing.
use Rattle.room.proofs.Laws.{put_length}
use Rattle.panel_wording.specs.PanelIn.{tells}
use Rattle.panel_wording.proofs.Laws.{moves_join, lists_start, lists_next, lists_end}
use Rattle.moves_text.proofs.Blocks.{from_state}
use Prim.Native.Nat.{suc}
use native.Mathlib.Omega.{arith}
use borrow.Author.Rules.{rules}
use Rattle.moves_text.proofs.put_table.Goals as goal

pub loop-old-init : goal.loop-old-init
loop-old-init c =
    lists_start (moves_join (tells c.args.head.shared)) (from_state c.args.head c.args.table.now c.args.rows.now c.args.branches.now) (search rules) c.place-to.ensures

pub put_from-to-requires : goal.put_from-to-requires
put_from-to-requires c =
    c.requires

pub loop-old-preserved : goal.loop-old-preserved
loop-old-preserved c =
    lists_next (moves_join (tells c.args.head.shared)) (from_state c.args.head c.args.table.now c.args.rows.now c.args.branches.now) c.loop-old.old c.loop-old.invariant c.put_from-to.ensures

pub shape_of-room : goal.shape_of-room
shape_of-room c = put_length c.loop-old.invariant.put

pub returns : goal.returns
returns c =
    lists_end (moves_join (tells c.args.head.shared)) (from_state c.args.head c.args.table.now c.args.rows.now c.args.branches.now) c.loop-old.old (suc c.args.head.top) (omega arith) (omega arith) c.loop-old.invariant
