-- Card A, computed both ways: by its seats, and by its reduced program and by counts. Assumes nothing.
use Prim.Native.Nat.{ℕ, ◌*◌, ◌/◌}
use mathlib.Core.Path.{◌≡◌, refl}
use mathlib.Core.List.{List, [], ◌∷◌}
use Rattle.card.specs.Limits.{unit}
use Rattle.card.specs.Card.{Mode, nondeterministic, probabilistic}
use Rattle.meaning.specs.Position.{position}
use Rattle.meaning.specs.Steps.{weight}
use Rattle.meaning.specs.Seats.{counts, steps}
use Rattle.meaning.specs.Reduced.{reduce, reduced_steps}
use Rattle.meaning.specs.Demand.{by_counts, into}
use Rattle.meaning.specs.Panel.{panel}
use Rattle.meaning.specs.ByCounts.{count_panel}
use Rattle.meaning.specs.CardA.{card_a}

-- the weight from a seating into counts u
abbrev Into : List ℕ → List ℕ → ℕ → Type 0
Into x u w =
    (into (position u 0) (by_counts 2 (steps (card_a probabilistic) (position x 0))) ≡ w)
    × (into (position u 0) (reduced_steps (reduce (card_a probabilistic)) (position (counts 2 x) 0)) ≡ w)

-- what a panel calls enabled
abbrev Enabled : Mode → List ℕ → ℕ → Type 0
Enabled mode x m = ((panel (card_a mode) (position x 0)).enabled ≡ m) × ((count_panel (card_a mode) (position (counts 2 x) 0)).enabled ≡ m)

pub record CardA : Type 0 where
  -- each of two seats goes from 0 to 1 with weight 1/2
  pub two_movers : Into (0 ∷ 0 ∷ 1 ∷ []) (1 ∷ 2 ∷ 0 ∷ []) unit
  -- the seat in 1 stays there with weight 3/4
  pub stays : Into (0 ∷ 0 ∷ 1 ∷ []) (2 ∷ 1 ∷ 0 ∷ []) (3 * (unit / 4))
  -- the only seat in 0 is no other to itself
  pub alone : Into (0 ∷ 1 ∷ 1 ∷ []) (0 ∷ 3 ∷ 0 ∷ []) 0
  pub pairs : Enabled probabilistic (0 ∷ 0 ∷ 1 ∷ []) 3
  pub statements : Enabled nondeterministic (0 ∷ 0 ∷ 1 ∷ []) 2
  -- nothing can be taken: one step, which changes nothing
  pub stuck_stays : Into (0 ∷ 1 ∷ 2 ∷ []) (1 ∷ 1 ∷ 1 ∷ []) unit
  pub stuck : Enabled probabilistic (0 ∷ 1 ∷ 2 ∷ []) 1 × Enabled nondeterministic (0 ∷ 1 ∷ 2 ∷ []) 1

pub card_a_law : CardA
unfolding weight steps reduced_steps reduce counts panel count_panel card_a
card_a_law = record {
  two_movers = (refl, refl);
  stays = (refl, refl);
  alone = (refl, refl);
  pairs = (refl, refl);
  statements = (refl, refl);
  stuck_stays = (refl, refl);
  stuck = ((refl, refl), (refl, refl));
}
