-- `mended_rooms::put_list` meets its contract: after i turns the first i lines are put. Assumes nothing.
use mathlib.Core.List.{map}
use lib.ListN.{take}
use Rattle.mending.specs.FateBy.{fate_by}
use Rattle.mended_rooms.specs.Lines.{lines_by}
use Rattle.phrases.specs.Puts.{Puts}
use Rattle.mended_rooms.proofs.put_list.Given as goal

abbrev pub invariant-loop-fate : goal.invariant-loop-fate
invariant-loop-fate l = Puts l.initial.room l.room 0 (lines_by (map fate_by (take l.fate-index l.fates))) l.to
