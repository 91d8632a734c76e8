-- What tidying promises of a lent deck: its answer, and the deck afterwards. Assumes nothing.
use Rattle.std.specs.Prelude.{ℕ, List}
use Rattle.entry.specs.Said.{Said}
use Rattle.entry.specs.Contract.{Enters, in_place}
use Rattle.deck.specs.Sound.{Sound}
use Rattle.room.specs.Answer.{Answer}
use Rattle.room.specs.Answer.{told}
use Rattle.gathering.specs.LiveRows.{Measures}
use Rattle.gathering.specs.declared.Live.{Live}

-- the deck `was` became `is`; bytes past the new length are zero
abbrev pub Tidied : (was is : List ℕ) → Said (List ℕ) → Answer → Type 0
Tidied was is said answer = Enters in_place told was is said answer

-- a sound deck, and how many of its cards are live, with how many bytes
pub record Measured (deck : List ℕ) (known : Live) : Type 0 where
  pub sound : Sound deck
  pub live : Measures deck known
