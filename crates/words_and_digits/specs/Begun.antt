-- The keyword that a text begins with: its kind and its size ("Marks on a card"). Assumes nothing.
use Rattle.std.specs.Prelude.{ℕ, List, [], ◌∷◌, Option, Some, None, length}
use Rattle.card.specs.Text.{when◌then◌else◌}
use Rattle.marks_on_a_card.specs.Bytes.{begins, is_letter, begun}
use Rattle.marks_on_a_card.specs.Kinds.{Known}
use Rattle.words_and_digits.specs.declared.Keyword.{Keyword}

-- the keywords among signs and keywords; and the first of some that a text begins with: its kind and its size
abbrev pub lettered : List Known → List Known
lettered [] = []
lettered (x ∷ xs) =
    let more = lettered xs in
    when begins is_letter x.spelt then x ∷ more else more

abbrev pub begun_in : List Known → List ℕ → Option Keyword
begun_in [] s = None
begun_in (x ∷ xs) s = when begun x.spelt s then Some (record { kind = x.kind; size = length x.spelt }) else begun_in xs s
