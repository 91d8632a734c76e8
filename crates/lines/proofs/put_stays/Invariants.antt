-- `lines::put_stays` meets its contract: after each turn the line of one value more is put. Assumes nothing.
use Rattle.panel_wording.specs.PanelIn.{tells}
use Rattle.panel_wording.specs.PanelText.{stays_text}
use Rattle.phrases.specs.Puts.{Puts}
use Rattle.meaning.specs.Sums.{upto, flat}
use Rattle.meaning.specs.Panel.{stay_line}
use lib.ListN.{get_or}
use Prim.Native.Nat.{◌+◌}
use Rattle.lines.proofs.put_stays.Given as goal

abbrev pub invariant-loop-becomes : goal.invariant-loop-becomes
invariant-loop-becomes l = Puts l.initial.room l.room l.at (stays_text (tells l.shared) (flat (upto l.becomes (λ h. stay_line h (get_or l.weights (l.from + h) 0))))) l.to
