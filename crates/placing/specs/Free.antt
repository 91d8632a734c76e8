-- Where a number is live already. Assumes nothing.
use Rattle.std.specs.Prelude.{ℕ, ◌≡◌, List, Option, MatchOption}
use Rattle.card.specs.Refusals.{not_added}
use Rattle.card.specs.Limits.{count_bytes}
use Rattle.entry.specs.Said.{Said, says, refused}
use Rattle.deck.specs.Contents.{contents_of}
use Rattle.tidying.specs.Tidying.{number_free}

abbrev pub free_said : (deck : List ℕ) (number : ℕ) → Said (Unit {0})
free_said deck number = number_free number count_bytes (contents_of deck)

abbrev pub LivePlace : (deck : List ℕ) (number : ℕ) → Option ℕ → Type 0
LivePlace deck number r = MatchOption r (free_said deck number ≡ says tt) (λ at. free_said deck number ≡ refused not_added at)
