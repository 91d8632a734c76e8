-- How the code hands over what it writes: the text before the statements. Assumes nothing.
use Rattle.std.specs.Prelude.{ℕ}
use Rattle.std.proofs.Math.Option.{Option}
use Rattle.card.specs.Card.{Mode, Shared}
use Rattle.phrases.specs.Phrases.{Text, ◌▸◌, num, mode_word}
use Rattle.texts.specs.Shared.{declaration}

abbrev pub head_text : Mode → Option Shared → ℕ → ℕ → Text
head_text m s k l r = mode_word m ▸ declaration s ("\nmodule process1\ns1 : [0.." ▸ num k ("] init " ▸ num l (";\n" ▸ r)))
