-- What the entry for C that asks a question promises, in document 01's numbers. Assumes nothing.
use Rattle.std.specs.Prelude.{Bool}
use Rattle.entry.specs.Said.{Said}
use Rattle.entries.specs.Answered.{Asked}
use Rattle.entries.specs.Answered.{asked, asked_number, asked_value}
use Rattle.answers.specs.declared.OpenPanelAnswer.{OpenPanelAnswer}

-- of a question's answer; 0 and 1 for yes, 0 and 0 for no
abbrev pub asked_numbers : Asked → OpenPanelAnswer
asked_numbers a = record { number = asked_number a; value = asked_value a }

abbrev pub answered_numbers : Said Bool → OpenPanelAnswer
answered_numbers said = asked_numbers (asked said)
