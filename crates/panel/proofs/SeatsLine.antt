-- The line of seats is the run of bytes up to LF. Assumes nothing.
use Prim.Native.Nat.{ℕ, suc, ◌≤◌}
use mathlib.Core.Path.{◌≡◌, refl, ap, ◌∙◌}
use mathlib.Core.Bool.{Bool, true, false, not}
use mathlib.Core.List.{List, [], ◌∷◌}
use native.Mathlib.Nat.{zero-add}
use native.Mathlib.Omega.{arith}
use lib.Dec.{eqb}
use lib.ListN.{length}
use Rattle.card.specs.Text.{when◌then◌else◌}
use Rattle.marks_on_a_card.specs.Bytes.{not_lf, run, run_end}
use Rattle.panel_said.specs.Program.{line_end, seats_line}

run_line : (s : List ℕ) → run not_lf s ≡ seats_line s
unfolding seats_line
run_line [] = refl
run_line (b ∷ s) = go (eqb b line_end) (run_line s)
  where
    go : (x : Bool) → run not_lf s ≡ seats_line s → (when not x then b ∷ run not_lf s else []) ≡ (when x then [] else b ∷ seats_line s)
    go true e = refl
    go false e = ap (λ (l : List ℕ). b ∷ l) e

-- the line ends at LF, or where nothing is left
pub line_found : (s : List ℕ) {r : ℕ} → r ≡ run_end not_lf s 0 → r ≡ length (seats_line s)
line_found s e = e ∙ zero-add (length (run not_lf s)) ∙ ap length (run_line s)

line_within : (s : List ℕ) → length (seats_line s) ≤ length s
unfolding seats_line
line_within [] = omega arith
line_within (b ∷ s) = go (eqb b line_end) (line_within s)
  where
    go : (x : Bool) → length (seats_line s) ≤ length s → length (when x then [] else b ∷ seats_line s) ≤ suc (length s)
    go true h = omega arith
    go false h = omega arith

pub found_within : (s : List ℕ) {r : ℕ} → r ≡ run_end not_lf s 0 → r ≤ length s
found_within s e = omega (arith, line_found s e, line_within s)
