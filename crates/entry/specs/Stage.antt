-- A stage with all that is known of it: the numbers that it may refuse with, and what it has found where it passes. Assumes nothing.
use Rattle.std.specs.Prelude.{◌≡◌}
use Rattle.entry.specs.Said.{Said, says}
use Rattle.entry.specs.Numbers.{Numbers, Among}

-- of each finding w the value v w is said, and nothing else
pub record Passes {A : Type 0} (x : Said A) (W : Type 0) (v : W → A) : Type 0 where
  pub each : (w : W) → x ≡ says (v w)
  pub only : (a : A) → x ≡ says a → (w : W) × (a ≡ v w)

pub record Stage {A : Type 0} (x : Said A) (ns : Numbers) (W : Type 0) (v : W → A) : Type 0 where
  pub numbers : Among ns x
  pub found : Passes x W v
