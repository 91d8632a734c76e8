-- A weight's line is the line of a stay, or of a move from one state to another; of weight 0 there is none. Assumes nothing.
use Prim.Native.Nat.{ℕ, ◌<◌}
use mathlib.Core.Path.{◌≡◌}
use mathlib.Core.List.{List, [], ◌∷◌}
use native.Mathlib.Omega.{arith}
use borrow.Author.Tests.{lt-ltb, ne_eqb}
use Rattle.card.specs.Text.{bytes}
use Rattle.meaning.specs.Panel.{stay_line, move_line}
use Rattle.meaning.proofs.Panel.{no_line}
use Rattle.panel_wording.specs.PanelText.{ending, moves_text, stays_text}
use Rattle.panel_wording.specs.PanelIn.{tells}
use Rattle.lines.specs.Weights.{weight_text}

module _ (values h w : ℕ) (r : List ℕ) where
  pub stay_none : w ≡ 0 → r ≡ stays_text (tells values) (stay_line h w) r
  stay_none e = rw e

  pub move_none : (a b : ℕ) → w ≡ 0 → r ≡ moves_text (tells values) (move_line a b h w) r
  move_none a b e = rw (no_line a b h w e)

  module _ {last : List ℕ} (told : last ≡ ending (tells values) h) (some : w ≡ 0 → ⊥) where
    pub weight_stay : weight_text (bytes "stay") [] w last r ≡ stays_text (tells values) (stay_line h w) r
    weight_stay = let l : 0 < w = omega arith in rw (told, lt-ltb 0 w l)

    pub weight_move : (a b : ℕ) → (a ≡ b → ⊥) → weight_text (bytes "move") (a ∷ b ∷ []) w last r ≡ moves_text (tells values) (move_line a b h w) r
    weight_move a b n = let l : 0 < w = omega arith in rw (told, ne_eqb a b n, lt-ltb 0 w l)
