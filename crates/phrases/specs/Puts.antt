-- What a put of a text promises, where the text is a function of the bytes that follow it. Assumes nothing.
use Rattle.std.specs.Prelude.{ℕ, ◌≡◌, List, [], ◌++◌}
use Rattle.room.specs.Room.{Put}

-- the room `was` became `is` by the text put at `at`, and `r` is the place after it
pub record Puts (was is : List ℕ) (at : ℕ) (text : List ℕ → List ℕ) (r : ℕ) : Type 0 where
  pub put : Put was is at (text []) r
  pub before : (rest : List ℕ) → text rest ≡ text [] ++ rest
