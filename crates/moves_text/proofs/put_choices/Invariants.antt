-- `moves_text::put_choices` meets its contract: after i turns the blocks of the first i statements are put. Assumes nothing.
use Rattle.phrases.specs.Puts.{Puts}
use Rattle.panel_wording.specs.PanelText.{blocks_text}
use Rattle.panel_wording.specs.PanelIn.{tells, choices_in}
use Rattle.meaning.specs.Sums.{or_one}
use Rattle.moves_text.proofs.put_choices.Given as goal

abbrev pub invariant-loop-i : goal.invariant-loop-i
invariant-loop-i l = Puts l.initial.room l.room l.at (blocks_text (tells l.head.shared) (choices_in l.head.top (or_one l.head.shared) l.table l.rows l.branches l.i)) l.to
