-- Whole blocks of a piece of a room moved lower or higher, the rest of it left. Assumes nothing.
use Rattle.std.specs.Prelude.{ℕ, ◌+◌, ◌≤◌, ◌<◌, ◌≡◌, List, take, drop}
use Rattle.room.specs.Room.{clip}

abbrev pub block_bytes : ℕ
block_bytes = 32

-- the first `done` bytes are moved
pub record BlocksDown (was is : List ℕ) (from to size done : ℕ) : Type 0 where
  pub most : done ≤ size
  pub rest : size < done + block_bytes
  pub moved : is ≡ clip was to (take done (drop from was))

-- all are moved but the first `left` bytes
pub record BlocksUp (was is : List ℕ) (from to size left : ℕ) : Type 0 where
  pub most : left ≤ size
  pub rest : left < block_bytes
  pub moved : is ≡ clip was (to + left) (drop left (take size (drop from was)))
