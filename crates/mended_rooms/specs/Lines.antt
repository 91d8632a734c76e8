-- The list's lines by the entries' fates, with what stands behind them. Assumes nothing.
use Rattle.std.specs.Prelude.{ℕ, List, [], ◌∷◌}
use Rattle.mending.specs.Mending.{Fate, line_text}

abbrev pub lines_by : List Fate → List ℕ → List ℕ
lines_by [] r = r
lines_by (f ∷ fs) r = line_text f (lines_by fs r)
