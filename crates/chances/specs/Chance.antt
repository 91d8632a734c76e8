-- What the value answered is to the exact chance, which is a numerator over `whole c m` (document 02, 2026-08, 2026-10 and 2026-13). Assumes nothing.
use Rattle.std.specs.Prelude.{ℕ, suc, ◌*◌, ◌≤◌, ◌≡◌, true, length}
use Rattle.card.specs.Card.{probabilistic, Card}
use Rattle.meaning.specs.Seats.{Seating, Stuck, counted}
use Rattle.asking.specs.Meant.{Question, holds_on}
use Rattle.evenings.specs.Limits.{million}
use Rattle.evenings.specs.Rounds.{Aim, turns_at}
use Rattle.evenings.specs.Scales.{bottom, Close}
use Rattle.evenings.specs.Evenings.{most_turns, exact, whole, rounded}
use Rattle.chances.specs.Chances.{by_seats, by_counts, chance_at}

pub record Chance (c : Card) (q : Question) (a : Aim) (m : ℕ) (x : Seating) : Type 0 where
  -- never above the exact value, and short of it by m millionths at most
  pub close : Close m (whole c m) (chance_at c q a m (counted c.k x)) (exact c a (by_counts c q) m (counted c.k x))
  -- the denominator is not 0; no seating has more turns than it is made for, and each has one
  pub some : 1 ≤ whole c m
  pub turns : (1 ≤ length (turns_at (by_seats c q) x)) × (length (turns_at (by_seats c q) x) ≤ most_turns c)
  -- with all seats told apart it is the same
  pub by_seats_holds : exact c a (by_seats c q) m x ≡ exact c a (by_counts c q) m (counted c.k x)
  pub rounded_by_seats : rounded c a (by_seats c q) m x ≡ chance_at c q a m (counted c.k x)
  -- between 0 and 1; 1 where the question holds; and it does not fall
  pub most : exact c a (by_counts c q) m (counted c.k x) ≤ whole c m
  pub rounded_most : chance_at c q a m (counted c.k x) ≤ million
  pub asked : holds_on x q ≡ true → exact c a (by_counts c q) m (counted c.k x) ≡ whole c m
  pub rounded_asked : holds_on x q ≡ true → chance_at c q a m (counted c.k x) ≡ million
  pub rises : exact c a (by_counts c q) m (counted c.k x) * bottom (most_turns c) ≤ exact c a (by_counts c q) (suc m) (counted c.k x)
  pub rounded_rises : chance_at c q a m (counted c.k x) ≤ chance_at c q a (suc m) (counted c.k x)
  -- a stuck seating keeps its chance
  pub stuck : Stuck c x → exact c a (by_counts c q) (suc m) (counted c.k x) ≡ exact c a (by_counts c q) m (counted c.k x) * bottom (most_turns c)
  pub rounded_stuck : Stuck c x → chance_at c q a (suc m) (counted c.k x) ≡ chance_at c q a m (counted c.k x)
  -- where turns are drawn, not chosen, the aim makes no difference
  pub drawn : (b : Aim) → c.mode ≡ probabilistic → exact c b (by_counts c q) m (counted c.k x) ≡ exact c a (by_counts c q) m (counted c.k x)
  pub rounded_drawn : (b : Aim) → c.mode ≡ probabilistic → chance_at c q b m (counted c.k x) ≡ chance_at c q a m (counted c.k x)
