-- The first refusal of two judgements, by the first: it is the first's where that refuses, and else the second. Assumes nothing.
use mathlib.Core.Path.{◌≡◌}
use Rattle.std.specs.Prelude.{Ok, Err}
use Rattle.card.specs.declared.Refusal.{Refusal}
use Rattle.card.specs.Verdict.{Verdict}
use Rattle.seating.specs.FirstRefusal.{first_refusal}

module _ {first : Verdict} (second : Verdict) where
  pub tells_first : {e : Refusal} → first ≡ Err e → Err e ≡ first_refusal first second
  tells_first e = rw e

  pub tells_second : {u : Unit {0}} → first ≡ Ok u → second ≡ first_refusal first second
  tells_second e = rw e
