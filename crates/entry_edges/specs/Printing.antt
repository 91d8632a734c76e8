-- What the program prints, as whole inputs and outputs. Assumes nothing.
use Rattle.std.specs.Prelude.{◌≡◌, ◌++◌}
use Rattle.card.specs.Text.{bytes}
use Rattle.card.specs.Card.{probabilistic}
use Rattle.panel_said.specs.Program.{program_of}
use Rattle.edges.specs.Edges.{text_a, as_above}

-- for `001` and card A, and for a line without LF
pub record Printing : Type 0 where
  pub card_a_holds : program_of (bytes "001\n" ++ text_a probabilistic) ≡ as_above
  pub no_card : program_of (bytes "001") ≡ bytes "refused 3 0\n"
