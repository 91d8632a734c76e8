-- Under which place the panel's first choice stands. Assumes nothing.
use Rattle.std.specs.Prelude.{ℕ, ◌≡◌, List, ◌∷◌}
use Rattle.std.proofs.Math.Option.{Option}
use Rattle.meaning.specs.Panel.{Block}

-- there is a first block, and this is its choice
abbrev pub FirstChoice : List Block → Option ℕ → Type 0
FirstChoice l q = (b : Block) × (r : List Block) × (l ≡ b ∷ r) × (b.choice ≡ q)
