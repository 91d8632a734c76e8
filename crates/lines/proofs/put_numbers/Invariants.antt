-- `lines::put_numbers` meets its contract: after i turns the first i numbers are put. Assumes nothing.
use lib.ListN.{take}
use Rattle.phrases.specs.Puts.{Puts}
use Rattle.panel_wording.specs.PanelText.{numbers}
use Rattle.lines.proofs.put_numbers.Given as goal

abbrev pub invariant-loop-value : goal.invariant-loop-value
invariant-loop-value l = Puts l.initial.room l.room l.at (numbers (take l.value-index l.values)) l.to
