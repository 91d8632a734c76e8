-- `lines::put_pair` meets its contract: after each turn the move of one value more is put. Assumes nothing.
use Rattle.panel_wording.specs.PanelIn.{tells}
use Rattle.panel_wording.proofs.Laws.{moves_join, lists_start, lists_next, lists_end}
use Rattle.room.proofs.Laws.{put_length}
use Rattle.meaning.specs.Panel.{move_line}
use lib.ListN.{get_or}
use native.Mathlib.Omega.{arith}
use borrow.Author.Rules.{rules}
use Rattle.lines.proofs.put_pair.Goals as goal

pub loop-becomes-init : goal.loop-becomes-init
loop-becomes-init c =
    lists_start (moves_join (tells c.args.shared)) (λ h. move_line c.args.old c.args.new h (get_or c.args.weights.now h 0)) (search rules) c.place-to.ensures

pub loop-becomes-preserved : goal.loop-becomes-preserved
loop-becomes-preserved c =
    lists_next (moves_join (tells c.args.shared)) (λ h. move_line c.args.old c.args.new h (get_or c.args.weights.now h 0)) c.loop-becomes.becomes c.loop-becomes.invariant c.put_move-to.ensures

pub shape_of-room : goal.shape_of-room
shape_of-room c = put_length c.loop-becomes.invariant.put

pub returns : goal.returns
returns c =
    lists_end (moves_join (tells c.args.shared)) (λ h. move_line c.args.old c.args.new h (get_or c.args.weights.now h 0)) c.loop-becomes.becomes _ (omega arith) c.loop-becomes-test.false c.loop-becomes.invariant
