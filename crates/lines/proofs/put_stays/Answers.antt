-- `lines::put_stays` meets its contract: after each turn the line of one value more is put. Assumes nothing.
use Rattle.panel_wording.specs.PanelIn.{tells}
use Rattle.panel_wording.proofs.Laws.{stays_join, lists_start, lists_next, lists_end}
use Rattle.room.proofs.Laws.{put_length}
use Rattle.meaning.specs.Sums.{or_one}
use Rattle.meaning.specs.Panel.{stay_line}
use lib.ListN.{get_or}
use native.Mathlib.Omega.{arith}
use borrow.Author.Rules.{rules}
use Prim.Native.Nat.{◌+◌}
use Rattle.lines.proofs.Values.{values_are}
use Rattle.lines.proofs.put_stays.Goals as goal

pub loop-becomes-init : goal.loop-becomes-init
loop-becomes-init c =
    lists_start (stays_join (tells c.args.shared)) (λ h. stay_line h (get_or c.args.weights.now (c.args.from + h) 0)) (search rules) c.place-to.ensures

pub loop-becomes-preserved : goal.loop-becomes-preserved
loop-becomes-preserved c =
    lists_next (stays_join (tells c.args.shared)) (λ h. stay_line h (get_or c.args.weights.now (c.args.from + h) 0)) c.loop-becomes.becomes c.loop-becomes.invariant c.put_stay-to.ensures

pub shape_of-room : goal.shape_of-room
shape_of-room c = put_length c.loop-becomes.invariant.put

pub returns : goal.returns
returns c =
    lists_end (stays_join (tells c.args.shared)) (λ h. stay_line h (get_or c.args.weights.now (c.args.from + h) 0)) c.loop-becomes.becomes (or_one c.args.shared) (omega (arith, values_are c.args.shared)) (omega (arith, values_are c.args.shared)) c.loop-becomes.invariant
