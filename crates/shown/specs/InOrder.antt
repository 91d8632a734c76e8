-- The order of a panel's lines ("Texts, byte for byte"; document 02, 2026-10): moves by old state, then by new state, then by what the shared
-- number becomes, and stays by that; choices by their place on the card. Assumes nothing.
use Rattle.std.specs.Prelude.{ℕ, ◌<◌, ◌≡◌, ◌⊎◌, List, [], ◌∷◌, ◌++◌}
use Rattle.std.proofs.Math.Option.{Option, none, some}
use Rattle.card.specs.Card.{Card}
use Rattle.card.specs.Valid.{Every}
use Rattle.meaning.specs.Seats.{Seating}
use Rattle.meaning.specs.Panel.{Move, Stay, Block, Panel, panel}

-- each stands before all that follow it
abbrev pub Rising : {A : Type 0} → (A → A → Type 0) → List A → Type 0
Rising R [] = Unit {0}
Rising R (x ∷ xs) = Every (R x) xs × Rising R xs

abbrev pub Before : Move → Move → Type 0
Before m o = (m.old < o.old) ⊎ ((m.old ≡ o.old) × ((m.new < o.new) ⊎ ((m.new ≡ o.new) × (m.shared < o.shared))))

abbrev pub StayBefore : Stay → Stay → Type 0
StayBefore s t = s.shared < t.shared

-- the places of the choices, in the order of the blocks
abbrev pub place_of : Option ℕ → List ℕ
place_of none = []
place_of (some q) = q ∷ []

abbrev pub places : List Block → List ℕ
places [] = []
places (b ∷ l) = place_of b.choice ++ places l

pub record InOrder (p : Panel) : Type 0 where
  pub stays : Every (λ (b : Block). Rising StayBefore b.stays) p.blocks
  pub moves : Every (λ (b : Block). Rising Before b.moves) p.blocks
  pub choices : Rising ◌<◌ (places p.blocks)

-- the statement, of every card and every seating
abbrev pub Ordered : Type 0
Ordered = (c : Card) (x : Seating) → InOrder (panel c x)
