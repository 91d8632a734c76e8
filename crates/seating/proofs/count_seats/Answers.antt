-- `seating::count_seats` meets its contract: a seat is counted as its state. Assumes nothing.
use mathlib.Core.Path.{◌∙◌}
use borrow.Author.Rules.{rules}
use lib.ListN.{take}
use Rattle.seating.proofs.Counted.{states_counted}
use Rattle.seating.proofs.count_seats.Goals as goal

pub returns : goal.returns
returns c = c.count_by.ensures (λ a. a) (λ a r p. search rules) ∙ states_counted (take c.args.n c.args.seats.now)
