-- Card A of document 01 ("Texts, byte for byte"), in either mode. Assumes nothing.
use Rattle.std.specs.Prelude.{ℕ, ◌*◌, ◌/◌, [], ◌∷◌}
use Rattle.std.proofs.Math.Option.{none, some}
use Rattle.card.specs.Limits.{unit}
use Rattle.card.specs.Card.{Mode, everyone, others, all, any, is, isnt, group, atom, Branch, Card}

abbrev to : ℕ → ℕ → Branch
to units end = record { units = units; end = end; sets = none }

unfoldable pub card_a : Mode → Card
card_a mode = record {
  mode = mode;
  shared = none;
  n = 3;
  k = 2;
  l = 0;
  statements =
      record { own = 0; guard = some (atom (group others any is 0)); branches = to (unit / 2) 1 ∷ to (unit / 2) 2 ∷ [] }
      ∷ record { own = 1; guard = some (atom (group everyone all isnt 2)); branches = to (unit / 4) 2 ∷ to (3 * (unit / 4)) 1 ∷ [] }
      ∷ [];
}
