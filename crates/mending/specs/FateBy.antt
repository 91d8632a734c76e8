-- A fate of the code as a fate of the document: an entry is kept if it breaks no rule, else it is dropped by the first rule that it breaks. Assumes nothing.
use Rattle.std.specs.Prelude.{ℕ, Option, None, Some}
use Rattle.mending.specs.declared.Rule.{Rule}
use Rattle.mending.specs.declared.Rule.TheVariants.{Flags, Number, Range, Card}
use Rattle.mending.specs.Mending.{Fate, kept, dropped}

abbrev pub number_of : Rule → ℕ
number_of Flags = 1
number_of Number = 2
number_of Range = 3
number_of Card = 4

abbrev pub fate_by : Option Rule → Fate
fate_by None = kept
fate_by (Some rule) = dropped (number_of rule)
