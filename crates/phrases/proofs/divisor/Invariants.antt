-- `phrases::divisor` meets its contract: a round of the division keeps the greatest common divisor, and the second number falls. Assumes nothing.
use Rattle.phrases.specs.Phrases.{divisor, gcd}
use mathlib.Core.Path.{◌≡◌}
use Prim.Native.Nat.{suc}
use Rattle.phrases.proofs.divisor.Given as goal

abbrev pub invariant-loop-b : goal.invariant-loop-b
invariant-loop-b l = divisor l.units ≡ gcd (suc l.b) l.a l.b

abbrev pub decreases-loop-b : goal.decreases-loop-b
decreases-loop-b l = l.b
