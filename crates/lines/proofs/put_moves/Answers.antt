-- `lines::put_moves` meets its contract: after each turn the moves to one state more are put. Assumes nothing.
use Rattle.panel_wording.specs.PanelIn.{tells}
use Rattle.panel_wording.proofs.Moves.{pair_at, pair_at_law}
use Rattle.panel_wording.proofs.Laws.{moves_join, lists_start, lists_next, lists_end}
use Rattle.room.proofs.Laws.{put_length}
use Rattle.phrases.proofs.Laws.{puts_as}
use Rattle.meaning.specs.Sums.{or_one}
use mathlib.Core.Path.{refl, ◌∙◌}
use native.Mathlib.Omega.{arith}
use borrow.Author.Rules.{rules}
use Prim.Native.Nat.{suc}
use Rattle.lines.proofs.Values.{values_are}
use Rattle.lines.proofs.put_moves.Goals as goal

pub loop-new-init : goal.loop-new-init
loop-new-init c =
    lists_start (moves_join (tells c.args.shared)) (pair_at c.args.row.now (or_one c.args.shared) c.args.old) (search rules) c.place-to.ensures

pub loop-new-preserved : goal.loop-new-preserved
loop-new-preserved c =
    lists_next (moves_join (tells c.args.shared)) (pair_at c.args.row.now (or_one c.args.shared) c.args.old) c.loop-new.new c.loop-new.invariant (puts_as _ (pair_at_law c.requires c.args.old c.loop-new.new (omega arith) (c.max.ensures ∙ values_are c.args.shared) refl refl) c.put_pair-to.ensures)

pub shape_of-room : goal.shape_of-room
shape_of-room c = put_length c.loop-new.invariant.put

pub returns : goal.returns
returns c =
    lists_end (moves_join (tells c.args.shared)) (pair_at c.args.row.now (or_one c.args.shared) c.args.old) c.loop-new.new (suc c.args.top) (omega arith) (omega arith) c.loop-new.invariant
