-- A text stored into a lent room, and what a put promises: the room afterwards and the place after the text, for every room and
-- every place. Assumes nothing.
use Rattle.std.specs.Prelude.{ℕ, suc, ◌+◌, ◌<◌, min, ◌≡◌, List, [], ◌∷◌, length, set}

-- the room with a text stored from place `at` on; what falls outside the room is dropped
unfoldable pub clip : List ℕ → ℕ → List ℕ → List ℕ
clip room at [] = room
clip room at (b ∷ text) = clip (set room at b) (suc at) text

-- a place past the end of every room; places stop there
abbrev pub cap : ℕ
cap = 9223372036854775808

-- the room `was`, which is shorter than the cap as every room is, became `is` by a text put at `at`, and `r` is the place after it
pub record Put (was is : List ℕ) (at : ℕ) (text : List ℕ) (r : ℕ) : Type 0 where
  pub small : length was < cap
  pub wrote : is ≡ clip was at text
  pub next : r ≡ min (at + length text) cap
