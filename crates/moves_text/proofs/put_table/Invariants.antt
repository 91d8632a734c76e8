-- `moves_text::put_table` meets its contract: after each turn the moves from one state more are put. Assumes nothing.
use Rattle.phrases.specs.Puts.{Puts}
use Rattle.panel_wording.specs.PanelText.{moves_text}
use Rattle.panel_wording.specs.PanelIn.{tells}
use Rattle.moves_text.proofs.Blocks.{from_state}
use Rattle.meaning.specs.Sums.{upto, flat}
use Rattle.moves_text.proofs.put_table.Given as goal

abbrev pub invariant-loop-old : goal.invariant-loop-old
invariant-loop-old l = Puts l.initial.room l.room l.at (moves_text (tells l.head.shared) (flat (upto l.old (from_state l.head l.table l.rows l.branches)))) l.to
