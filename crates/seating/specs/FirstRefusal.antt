-- Of two judgements, one after the other, the first refusal is told ("Refusal numbers"). Assumes nothing.
use Rattle.std.specs.Prelude.{Ok, Err}
use Rattle.card.specs.Verdict.{Verdict}

abbrev pub first_refusal : Verdict → Verdict → Verdict
first_refusal (Ok u) second = second
first_refusal (Err e) second = Err e
