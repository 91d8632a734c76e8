-- `panel_text::put_panel` meets its contract: the head, and then what the mode asks for, or the stuck choice. Assumes nothing.
use Rattle.phrases.proofs.Laws.{puts_then}
use Rattle.moves_text.proofs.Blocks.{choices_text, stuck_text, weights_text}
use native.Mathlib.Omega.{arith}
use borrow.Author.Rules.{rules}
use mathlib.Core.List.{[], ◌∷◌}
use Rattle.meaning.specs.Panel.{stay_line}
use Rattle.phrases.specs.Puts.{Puts}
use Rattle.panel_numbers.specs.Table.{shared_in, stay_in}
use Rattle.panel_wording.specs.PanelText.{line, stays_text}
use Rattle.panel_wording.specs.PanelIn.{tells}
use Rattle.panel_text.proofs.put_panel.Goals as goal
use Rattle.panel_text.proofs.put_panel.Goals.{After-put_line-b, After-put_stay}

-- the stuck choice is choice 0
stuck-choice : (c : After-put_line-b)
    → let head = c.put_head-a in
    Puts head.new.room c.put_line-b.new.room head.result (line "choice" (0 ∷ [])) c.put_line-b.result
stuck-choice c = c.put_line-b.ensures

-- and its weight of no change is the table's
stuck-stay : (c : After-put_stay)
    → let start = c.args in
    let table = start.table.now in
    Puts c.put_line-b.new.room c.put_stay.new.room c.put_line-b.result (stays_text (tells start.head.shared) (stay_line (shared_in table) (stay_in table (shared_in table)))) c.put_stay.result
stuck-stay c = c.put_stay.ensures

pub overflow_add-stay : goal.overflow_add-stay
overflow_add-stay c = omega (arith, c.requires.weighing.shared)

pub offset_bounds-table-present : goal.offset_bounds-table-present
offset_bounds-table-present c = omega (arith, c.requires.weighing.shared)

pub bounds-table-present : goal.bounds-table-present
bounds-table-present c = omega (arith, c.requires.weighing.shared)

pub put_head-a-requires : goal.put_head-a-requires
put_head-a-requires c =
    (omega (arith, c.requires.weighing.fitting.top), search rules)

pub put_stays-b-requires : goal.put_stays-b-requires
put_stays-b-requires c =
    (search rules, c.requires.values)

pub put_table-requires : goal.put_table-requires
put_table-requires c =
    c.requires

pub returns-then-head-ne-NONDETERMINISTIC : goal.returns-then-head-ne-NONDETERMINISTIC
returns-then-head-ne-NONDETERMINISTIC c =
    weights_text c.args.head c.args.table.now c.args.rows.now c.args.branches.now c.if-head-ne-NONDETERMINISTIC.true (puts_then c.put_head-a.ensures (puts_then c.put_stays-b.ensures c.put_table.ensures))

pub put_choices-requires : goal.put_choices-requires
put_choices-requires c =
    c.requires

pub returns-then-stay-eq0 : goal.returns-then-stay-eq0
returns-then-stay-eq0 c =
    choices_text c.args.head c.args.table.now c.args.rows.now c.args.branches.now c.if-head-ne-NONDETERMINISTIC.false c.if-stay-eq0.true (puts_then c.put_head-a.ensures c.put_choices.ensures)

pub returns : goal.returns
returns c =
    stuck_text c.args.head c.args.table.now c.args.rows.now c.args.branches.now c.if-head-ne-NONDETERMINISTIC.false c.if-stay-eq0.false (puts_then c.put_head-a.ensures (puts_then (stuck-choice (goal.at.returns c).After-put_line-b) (stuck-stay (goal.at.returns c).After-put_stay)))
