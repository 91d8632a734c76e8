-- Which card a number gives in a box with an expansion, in no order of searching (document 02, 2026-02). Nothing here is computed. Assumes nothing.
use Rattle.std.specs.Prelude.{ℕ, ◌+◌, ◌<◌, ◌≡◌, ◌⊎◌, List}
use Rattle.card.specs.Limits.{expansion_from}
use Rattle.deck.specs.Contents.{count_of}
use Rattle.deck.specs.Lookup.{Part, the_base, the_expansion, part_for}
use Rattle.deck.specs.Sound.{entry_at, Sound, MalformedAt}

-- entry i has this number and is live
pub record LiveAt (deck : List ℕ) (number i : ℕ) : Type 0 where
  pub inside : i < count_of deck
  pub named : (entry_at deck i).number ≡ number
  pub live : (entry_at deck i).flag ≡ 1

-- no live card of this number
abbrev pub NoLive : List ℕ → ℕ → Type 0
NoLive deck number = (i : ℕ) → LiveAt deck number i → ⊥

-- the card as it stands in the expansion if it is live there, otherwise as it stands in the base if it is live there
pub data Gives (base expansion : List ℕ) (number : ℕ) : Part → Type 0 where
  from_expansion : (i : ℕ) → LiveAt expansion number i → Gives base expansion number (part_for the_expansion (entry_at expansion i))
  from_base : NoLive expansion number → (i : ℕ) → LiveAt base number i → Gives base expansion number (part_for the_base (entry_at base i))

-- both decks are sound
abbrev pub BothSound : List ℕ → List ℕ → Type 0
BothSound base expansion = Sound base × Sound expansion

-- 11: the base is judged first, and the expansion's places count from 65,536
abbrev pub EitherMalformed : List ℕ → List ℕ → ℕ → Type 0
EitherMalformed base expansion p = MalformedAt base p ⊎ (Sound base × ((q : ℕ) × MalformedAt expansion q × (p ≡ q + expansion_from)))
