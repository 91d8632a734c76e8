-- What is said, as a verdict of the code. Assumes nothing.
use Rattle.card.specs.Verdict.{Verdict, Taken, Refused}
use Rattle.entry.specs.Said.{Said, says, refused}

abbrev pub verdict_of : {A : Type 0} → Said A → Verdict
verdict_of (says a) = Taken
verdict_of (refused number place) = Refused number place
