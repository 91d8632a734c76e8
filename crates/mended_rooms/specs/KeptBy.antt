-- The rows kept by the entries' fates in the code, and when they can be put into a room. Assumes nothing.
use Rattle.std.specs.Prelude.{ℕ, ◌+◌, ◌≤◌, ◌≡◌, List, Option, map, length}
use Rattle.card.specs.Limits.{deck_bytes}
use Rattle.card.specs.Valid.{Every}
use Rattle.deck.specs.Contents.{Row, end_of, count_of, behind, contents_of}
use Rattle.deck.specs.Deck.{bodies}
use Rattle.deck.specs.Sound.{Head}
use Rattle.deck_written.specs.WriteDeckSaid.{sizes}
use Rattle.mending.specs.Mending.{fates_in, kept_rows, kept_in}
use Rattle.mending.specs.FateBy.{fate_by}
use Rattle.mending.specs.declared.Rule.{Rule}

abbrev pub rows_kept : (deck : List ℕ) (fates : List (Option Rule)) → List Row
rows_kept deck fates = kept_rows (map fate_by fates) (contents_of deck)

-- a fate for each entry
pub record Each (deck : List ℕ) (fates : List (Option Rule)) : Type 0 where
  pub head : Head deck
  pub long : length fates ≡ count_of deck

-- every body kept lies in the deck
abbrev pub BodiesInside : (deck : List ℕ) (fates : List (Option Rule)) → Type 0
BodiesInside deck fates = Every (λ (r : Row). end_of r ≤ length deck) (rows_kept deck fates)

-- bodies kept that start at `first` end in a deck that is not too long
abbrev pub OffsetsFit : (deck : List ℕ) (fates : List (Option Rule)) (first : ℕ) → Type 0
OffsetsFit deck fates first = first + sizes (rows_kept deck fates) ≤ deck_bytes

-- the fates of the deck's entries, and how many are kept
pub record Fates (deck : List ℕ) (fates : List (Option Rule)) (cards : ℕ) : Type 0 where
  pub head : Head deck
  pub are : map fate_by fates ≡ fates_in deck
  pub count : cards ≡ length (kept_in deck)
  pub short : behind cards + length (bodies (kept_in deck)) ≤ length deck
