-- `card::no_statement` meets its contract: both sides are zeros. Assumes nothing.
use mathlib.Core.Path.{refl}
use Rattle.card.proofs.no_statement.Goals as goal

pub returns : goal.returns
returns c = refl
