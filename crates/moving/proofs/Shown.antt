-- On a nondeterministic card the panel has a block for each choice; so where the seating is not stuck, the first block stands under the place that
-- is given. Assumes nothing.
use mathlib.Core.Path.{◌≡◌, refl, ap, ◌∙◌}
use mathlib.Core.List.{List, [], ◌∷◌, map}
use mathlib.Core.Option.{some}
use Rattle.card.specs.Card.{Mode, nondeterministic, Card}
use Rattle.meaning.specs.Position.{shared_values}
use Rattle.meaning.specs.Choices.{Choice}
use Rattle.meaning.specs.Seats.{Seating, choices_from, Stuck}
use Rattle.meaning.specs.Panel.{block_of, block, one_of, blocks, panel}
use Rattle.meaning.proofs.Stuck.{moving, nothing_taken}
use Rattle.moving.specs.FirstMove.{first_of, first_move}
use Rattle.moving.specs.Shown.{FirstChoice}

module _ (c : Card) (x : Seating) (free : Stuck c x → ⊥) where
  under : (l : List (Choice Seating)) → (l ≡ [] → ⊥) → FirstChoice (map (λ (q : Choice Seating). block_of c.k (shared_values c.shared) (some q.place) x (one_of q.turns)) l) (first_of l)
  unfolding block_of block
  under [] h = absurd (h refl)
  under (q ∷ l) h = (_, _, refl, refl)

  pub shown_first : c.mode ≡ nondeterministic → FirstChoice (panel c x).blocks (first_move c x)
  unfolding panel first_move
  shown_first e =
      let taken = choices_from 1 c.statements x in
      let (b, r, parts, q) = under taken (λ z. free ((nothing_taken c x).1 z)) in
      (b, r, ap (λ (m : Mode). blocks m c x) e ∙ ap (map (λ (q : Choice Seating). block_of c.k (shared_values c.shared) (some q.place) x (one_of q.turns))) (moving c x free) ∙ parts, q)
