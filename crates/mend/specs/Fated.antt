-- What is known when every entry's fate is: the fates in the lent array, behind them what was there, and how much is kept, no more than there was. Assumes nothing.
use Rattle.std.specs.Prelude.{ℕ, ◌+◌, ◌≤◌, ◌≡◌, List, Option, map, length, take, drop}
use Rattle.deck.specs.Contents.{count_of, behind}
use Rattle.deck.specs.Deck.{bodies}
use Rattle.mending.specs.Mending.{fates_in, kept_in}
use Rattle.mending.specs.FateBy.{fate_by}
use Rattle.mending.specs.declared.Rule.{Rule}
use Rattle.mending_walk.specs.declared.Walk.{Walk}

pub record Fated (deck : List ℕ) (was is : List (Option Rule)) (r : Walk) : Type 0 where
  pub fates : map fate_by (take (count_of deck) is) ≡ fates_in deck
  pub others : drop (count_of deck) is ≡ drop (count_of deck) was
  pub cards : r.cards ≡ length (kept_in deck)
  pub bytes : r.bytes ≡ length (bodies (kept_in deck))
  pub short : behind r.cards + r.bytes ≤ length deck
