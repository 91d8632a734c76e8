-- The live entries of a deck's contents, and what each keeps: a withdrawn one nothing. Assumes nothing.
use Rattle.std.specs.Prelude.{ℕ, eqb, ◌<◌, ◌≡◌, true, false, Option, MatchOption, List, [], ◌∷◌, length}
use Rattle.card.specs.Limits.{word_numbers}
use Rattle.card.specs.Text.{when◌then◌else◌}
use Rattle.deck.specs.Contents.{Row, contents_of}
use Rattle.deck.specs.Deck.{live_of}
use Rattle.deck_written.specs.WriteDeckSaid.{sizes}
use Rattle.gathering.specs.declared.Live.{Live}

abbrev pub live_rows : List Row → List Row
live_rows [] = []
live_rows (r ∷ rs) = when live_of r then r ∷ live_rows rs else live_rows rs

-- how many bytes of the body stay
abbrev pub live_size : Row → ℕ
live_size r = when live_of r then r.size else 0

-- what is read of an entry: the length of its body, if it has this flag; 1 is that of a live entry
pub record Flagged (flag : ℕ) (r : Row) (size : ℕ) : Type 0 where
  pub flagged : eqb r.flag flag ≡ true
  pub same : size ≡ r.size
  pub short : size < word_numbers

abbrev pub FlaggedSize : (flag : ℕ) → Row → Option ℕ → Type 0
FlaggedSize flag r size = MatchOption size (eqb r.flag flag ≡ false) (Flagged flag r)

pub record Measures (deck : List ℕ) (r : Live) : Type 0 where
  pub cards : r.cards ≡ length (live_rows (contents_of deck))
  pub bytes : r.bytes ≡ sizes (live_rows (contents_of deck))
