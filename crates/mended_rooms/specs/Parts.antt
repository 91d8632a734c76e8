-- An entry's parts of a mended deck, by its fate. An entry that is dropped has none. Assumes nothing.
use Rattle.std.specs.Prelude.{ℕ, ◌+◌, List, []}
use Rattle.deck.specs.Contents.{Row}
use Rattle.deck.specs.Deck.{body_of, row_text}
use Rattle.deck_written.specs.WriteDeckSaid.{line_for}
use Rattle.mending.specs.Mending.{Fate, kept, dropped}

abbrev pub row_by : Fate → Row → (offset : ℕ) → List ℕ
row_by kept r offset = row_text (line_for offset r) []
row_by (dropped rule) r offset = []

abbrev pub body_by : (deck : List ℕ) → Fate → Row → List ℕ
body_by deck kept r = body_of deck r
body_by deck (dropped rule) r = []

-- where the next body starts
abbrev pub behind_by : Fate → Row → (offset : ℕ) → ℕ
behind_by kept r offset = offset + r.size
behind_by (dropped rule) r offset = offset
