-- What the judgement of a weight answers: the weight, or nothing where it breaks the rule. Assumes nothing.
use Rattle.std.specs.Prelude.{ℕ, Option, Some, None}
use Rattle.card.specs.Refusals.{wrong_weight}
use Rattle.std.proofs.Math.Option.{Option as Worth, none, some}
use Rattle.weights.specs.declared.Weight.{Weight}

abbrev pub Judged : Type 0
Judged = Option Weight

abbrev pub judged_of : Worth ℕ → Judged
judged_of none = None
judged_of (some u) = Some (record { units = u })

-- document 01's number for each case, 0 where nothing is refused; and the units
abbrev pub weight_number : Judged → ℕ
weight_number (Some w) = 0
weight_number None = wrong_weight

abbrev pub weight_units : Judged → ℕ
weight_units (Some w) = w.units
weight_units None = 0
