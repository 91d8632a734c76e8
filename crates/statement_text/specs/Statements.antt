-- All statements in either of the two texts, as the code hands them over, and how many copies there are of each. Assumes nothing.
use Rattle.std.specs.Prelude.{ℕ, List, [], ◌∷◌}
use Rattle.card.specs.Card.{Mode, Statement, Card}
use Rattle.phrases.specs.Phrases.{Text, counted}
use Rattle.texts.specs.Copies.{reduced_copies}
use Rattle.leaf_text.specs.declared.style.Form.{Form}
use Rattle.leaf_text.specs.Style.{looks, by_form}
use Rattle.statement_copies.specs.Copies.{copy_text}

abbrev pub copy_number : Form → Mode → ℕ → ℕ
copy_number form mode n = by_form 1 (reduced_copies mode n) form

-- ---- all statements

abbrev pub each : Form → Mode → ℕ → List Statement → Text
each form mode n [] r = r
each form mode n (x ∷ xs) r = counted (copy_text (looks form x.own n) x) 0 (copy_number form mode n) (each form mode n xs r)

abbrev pub statements_text : Form → Card → Text
statements_text form c r = each form c.mode c.n c.statements r
