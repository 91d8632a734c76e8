-- A line of a weight, be it of a stay or of a move. Assumes nothing.
use Rattle.std.specs.Prelude.{ℕ, Option, None, Some, List, [], ◌∷◌, ◌++◌}
use Rattle.phrases.specs.Phrases.{◌▸◌}
use Rattle.panel_wording.specs.PanelText.{numbers}

-- what the shared number becomes, where that is told
abbrev pub told_behind : Option ℕ → List ℕ
told_behind None = []
told_behind (Some h) = h ∷ []

-- a word, states, the weight and what stands behind it
abbrev pub weight_text : List ℕ → List ℕ → ℕ → List ℕ → List ℕ → List ℕ
weight_text word states weight last r = word ++ numbers states (numbers (weight ∷ last) ("\n" ▸ r))
