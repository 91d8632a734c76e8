-- How the code hands over what it judges: the bodies' length together, and an entry by its fields. Assumes nothing.
use Rattle.std.specs.Prelude.{ℕ, ◌+◌, List}
use Rattle.entry.specs.Said.{Said, ◌>>◌, return}
use Rattle.deck.specs.Contents.{Row}
use Rattle.deck_written.specs.WriteDeckSaid.{lines, count_said, lines_said, sizes}

-- lines that are judged, and the length of their bodies, where `long` bytes stand before them
abbrev pub measured : (at least long : ℕ) → List Row → Said ℕ
measured at least long rs = do
  lines_said at least rs
  return (long + sizes rs)

abbrev pub contents_said : List ℕ → Said ℕ
contents_said contents = do
  count_said contents
  measured 0 0 0 (lines contents)

-- an entry by its fields
abbrev pub row_with : (number offset size flag zeroByte : ℕ) → Row
row_with number offset size flag zeroByte = record { number = number; offset = offset; size = size; flag = flag; zero_byte = zeroByte }
