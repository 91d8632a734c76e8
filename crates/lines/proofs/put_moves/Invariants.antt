-- `lines::put_moves` meets its contract: after each turn the moves to one state more are put. Assumes nothing.
use Rattle.panel_wording.specs.PanelIn.{tells}
use Rattle.panel_wording.specs.PanelText.{moves_text}
use Rattle.panel_wording.proofs.Moves.{pair_at}
use Rattle.phrases.specs.Puts.{Puts}
use Rattle.meaning.specs.Sums.{or_one, upto, flat}
use Rattle.lines.proofs.put_moves.Given as goal

abbrev pub invariant-loop-new : goal.invariant-loop-new
invariant-loop-new l = Puts l.initial.room l.room l.at (moves_text (tells l.shared) (flat (upto l.new (pair_at l.row (or_one l.shared) l.old)))) l.to
