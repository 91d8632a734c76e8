-- Reading a card under a rule of a weight: refusals 1 to 7 and 17 in their order, or the card ("Refusal numbers"; document 02, 2026-11). Assumes nothing.
use Rattle.std.specs.Prelude.{ℕ, zero, ◌≤◌, Bool, true, false, List, [], ◌∷◌, leb, length}
use Rattle.std.proofs.Math.Option.{Option, none, some}
use Rattle.card.specs.Limits.{card_bytes}
use Rattle.card.specs.Refusals.{too_long, outside_rules, wrong_weight, OfCard}
use Rattle.card.specs.Text.{when◌then◌else◌}
use Rattle.card.specs.Card.{Card}
use Rattle.card.specs.Weight.{Rule, card_rule}
use Rattle.marks_on_a_card.specs.Marks.{Mark, text, seat, process, number, decimal, outside, Placed, placed, marks_of, place_of}
use Rattle.reading.specs.Reader.{at, Result, ok, stop}
use Rattle.reading.specs.Judgements.{Verdict, fine, wrong, first_broken}
use Rattle.reading.specs.Shape.{CardShape, guard, card}
use Rattle.reading.specs.Checks.{judged_card, seats_in, card_in}

pub data Outcome : Type 0 where
  taken : Card → Outcome
  refused : ℕ → ℕ → Outcome

-- the first mark outside the rules
abbrev pub is_outside : Mark → Bool
is_outside (text s) = false
is_outside (seat i) = false
is_outside (process i) = false
is_outside (number v) = false
is_outside (decimal v n f) = false
is_outside outside = true

abbrev pub first_outside : List Placed → Option ℕ
first_outside [] = none
first_outside (placed m p ∷ ms) = when is_outside m then some p else first_outside ms

-- e is the card's length
abbrev pub judged : ℕ → Card → Verdict → Outcome
judged e c fine = taken c
judged e c (wrong r p) = refused r (place_of e p)

abbrev pub shaped : Rule → ℕ → Result CardShape → Outcome
shaped decimals e (ok c _) = judged e (card_in c) (first_broken (seats_in c) (judged_card decimals c))
shaped decimals e (stop r p) = refused r (place_of e p)

abbrev pub marked : Rule → ℕ → List Placed → Option ℕ → Outcome
marked decimals e ms none = shaped decimals e (card (at ms zero))
marked decimals e ms (some p) = refused outside_rules p

-- under a rule of a weight
unfoldable pub read_under : Rule → List ℕ → Outcome
unfolding guard
read_under decimals s = when leb (length s) card_bytes then marked decimals (length s) (marks_of s) (first_outside (marks_of s)) else refused too_long 0

-- the numbers that it may refuse with
abbrev pub Refuses : Rule → ℕ → Type 0
Refuses true r = r ≤ wrong_weight
Refuses false r = OfCard r

-- under the rule of today
abbrev pub read_of : List ℕ → Outcome
read_of s = read_under card_rule s
