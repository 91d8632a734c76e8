-- `lines::put_pair` meets its contract: after each turn the move of one value more is put. Assumes nothing.
use Rattle.panel_wording.specs.PanelIn.{tells}
use Rattle.panel_wording.specs.PanelText.{moves_text}
use Rattle.phrases.specs.Puts.{Puts}
use Rattle.meaning.specs.Sums.{upto, flat}
use Rattle.meaning.specs.Panel.{move_line}
use lib.ListN.{get_or}
use Rattle.lines.proofs.put_pair.Given as goal

abbrev pub invariant-loop-becomes : goal.invariant-loop-becomes
invariant-loop-becomes l = Puts l.initial.room l.room l.at (moves_text (tells l.shared) (flat (upto l.becomes (λ h. move_line l.old l.new h (get_or l.weights h 0))))) l.to
