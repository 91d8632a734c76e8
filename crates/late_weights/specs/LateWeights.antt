-- What is judged late of weights, kept while a card is read. Assumes nothing.
use Rattle.std.specs.Prelude.{ℕ, eqb}
use Rattle.card.specs.Limits.{unit}
use Rattle.card.specs.Refusals.{wrong_weight, decimal_weight}
use Rattle.card.specs.Weight.{Rule}
use Rattle.reading.specs.Judgements.{unless}
use Rattle.late.specs.Late.{Late, blamed}

-- a decimal is a late refusal where none may be a weight
abbrev pub form_by : Rule → ℕ → Late → Late
form_by decimals p late = blamed (unless decimals decimal_weight) p late

-- a sum of units that is not the unit is a late refusal
abbrev pub sum_by : ℕ → ℕ → Late → Late
sum_by total p late = blamed (unless (eqb total unit) wrong_weight) p late
