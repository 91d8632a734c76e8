-- `stored_weights::able_from` meets its contract, by its test. Assumes nothing.
use borrow.Author.Tests.{eq-eqb, ne_eqb}
use Rattle.stored_weights.proofs.able_from.Goals as goal

pub returns-then-rows-i : goal.returns-then-rows-i
returns-then-rows-i c = rw (ne_eqb _ _ c.if-rows-i.true)

pub returns : goal.returns
returns c = rw (eq-eqb _ _ c.if-rows-i.false)
