-- `moves_text::put_choices` meets its contract: after i turns the blocks of the first i statements are put. Assumes nothing.
use Rattle.room.proofs.Laws.{put_length}
use Rattle.panel_wording.specs.PanelIn.{tells, choice_at}
use Rattle.panel_wording.proofs.Laws.{blocks_join, lists_start, lists_next, lists_end}
use Rattle.meaning.specs.Sums.{or_one}
use native.Mathlib.Omega.{arith}
use borrow.Author.Rules.{rules}
use Rattle.moves_text.proofs.put_choices.Goals as goal

pub loop-i-init : goal.loop-i-init
loop-i-init c =
    lists_start (blocks_join (tells c.args.head.shared)) (choice_at c.args.head.top (or_one c.args.head.shared) c.args.table.now c.args.rows.now c.args.branches.now) (search rules) c.place-to.ensures

pub put_choice-to-requires : goal.put_choice-to-requires
put_choice-to-requires c =
    (c.requires, c.loop-i-test.true)

pub loop-i-preserved : goal.loop-i-preserved
loop-i-preserved c =
    lists_next (blocks_join (tells c.args.head.shared)) (choice_at c.args.head.top (or_one c.args.head.shared) c.args.table.now c.args.rows.now c.args.branches.now) c.loop-i.i c.loop-i.invariant c.put_choice-to.ensures

pub shape_of-room : goal.shape_of-room
shape_of-room c = put_length c.loop-i.invariant.put

pub returns : goal.returns
returns c =
    lists_end (blocks_join (tells c.args.head.shared)) (choice_at c.args.head.top (or_one c.args.head.shared) c.args.table.now c.args.rows.now c.args.branches.now) c.loop-i.i c.args.head.count (omega arith) (omega arith) c.loop-i.invariant
