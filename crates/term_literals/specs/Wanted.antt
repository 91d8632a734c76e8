-- For how many seats an exactly-one is as said ("2026-01"). Assumes nothing.
use Rattle.std.specs.Prelude.{ℕ, List, length}
use Rattle.reading.specs.Group.{Literal}
use Rattle.reading.specs.Judgements.{has_from}
use Rattle.late.specs.Late.{up_to_most}
use Rattle.asking.specs.Asking.{is_terms, term_d}

-- a term: its seats are 1 to m, once each; 0 where they are so for no m that a card can have
abbrev pub seats_of : List Literal → ℕ
seats_of ls = up_to_most (length ls) (has_from 1 (length ls) ls)

-- the whole: as many as there are terms, where they are as said for so many; 0 where they are so for no card
abbrev pub want_of_terms : List (List Literal) → ℕ
want_of_terms ts = up_to_most (length ts) (is_terms (length ts) (term_d ts) 1 ts)
