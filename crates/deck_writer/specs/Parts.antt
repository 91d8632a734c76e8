-- How the code hands over what it puts: the entries of the deck, and the whole deck. Assumes nothing.
use Rattle.std.specs.Prelude.{ℕ, ◌+◌, ◌<◌, min, ◌≡◌, List, [], ◌∷◌, length}
use Rattle.deck.specs.Deck.{rows_text}
use Rattle.deck_written.specs.WriteDeckSaid.{count_in, lines, lines_for}
use Rattle.room.specs.Room.{clip, cap}

-- the entries of a deck whose first body starts at `first`
abbrev pub lines_text : ℕ → List ℕ → List ℕ
lines_text first contents = rows_text (lines_for first (lines contents)) []

-- count and entries stand at the start of the room, and the bodies from `first` on; `r` is the place behind them
pub record DeckPut (was is contents bodies : List ℕ) (first r : ℕ) : Type 0 where
  pub small : length was < cap
  pub wrote : is ≡ clip (clip was 0 (count_in contents ∷ lines_text first contents)) first bodies
  pub next : r ≡ min (first + length bodies) cap
