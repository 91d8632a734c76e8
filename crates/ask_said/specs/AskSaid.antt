-- What `ask` has to say of any card, question and seats: the card's refusal, the question's, the seats', or whether the question holds on the
-- seating ("2026-01. Questions about the table"). Assumes nothing.
use Rattle.std.specs.Prelude.{ℕ, ◌≤◌, ◌≡◌, Bool, ◌↔◌, ◌⊎◌, List, [], ◌∷◌, length}
use Rattle.card.specs.Refusals.{too_long, not_due, wrong_seats, seat_above_top, OfCard, decimal_weight}
use Rattle.card.specs.Card.{Card}
use Rattle.card.specs.Valid.{values_of}
use Rattle.reading.specs.Reading.{refused as turned, read_of}
use Rattle.entry.specs.Said.{Said, says, refused, ◌>>=◌, ◌>>◌, return}
use Rattle.entry.specs.Numbers.{Numbers, ◌to◌}
use Rattle.seating.specs.Judged.{seats_due, FirstWrong, seating_of, Seated}
use Rattle.seating.specs.SeatsSaid.{seats_said}
use Rattle.rows.specs.Said.{card_said, Read}
use Rattle.asking.specs.Meant.{Question, holds_on}
use Rattle.asking.specs.Asking.{in_question, question_of}

abbrev pub question_said : List ℕ → Card → Said Question
question_said question c = question_of c.n c.k (values_of c.shared) question

-- its numbers: 21 to 26
abbrev pub question_numbers : Numbers
question_numbers = (in_question too_long to in_question not_due) ∷ []

-- of a question that is understood
abbrev pub ask_seated : List ℕ → Card → Question → Said Bool
ask_seated seats c q = do
  seats_said seats c
  return (holds_on (seating_of c seats) q)

-- of a card that is taken
abbrev pub ask_card : List ℕ → List ℕ → Card → Said Bool
ask_card question seats c = do
  q ← question_said question c
  ask_seated seats c q

unfoldable pub ask_said : (card question seats : List ℕ) → Said Bool
ask_said card question seats = do
  c ← card_said card
  ask_card question seats c

-- ---- what is then answered, refusal by refusal, in the order in which they are judged

-- a question that is understood on this card
abbrev pub Understood : List ℕ → Card → Type 0
Understood question c = (q : Question) × (question_said question c ≡ says q)

pub record Asks {T : Type 0} (tell : Said Bool → T) (card question seats : List ℕ) (a : T) : Type 0 where
  pub wrong_card : (number place : ℕ) → OfCard number → (a ≡ tell (refused number place)) ↔ (read_of card ≡ turned number place)
  pub wrong_question : (number place : ℕ) → in_question too_long ≤ number → number ≤ in_question not_due
      → (a ≡ tell (refused number place)) ↔ ((c : Read card) × (question_said question c.0 ≡ refused number place))
  pub wrong_count : (place : ℕ) → (a ≡ tell (refused wrong_seats place))
      ↔ ((c : Read card) × (Understood question c.0 × ((length seats ≡ seats_due c.0 → ⊥) × (place ≡ 0))))
  pub wrong_seat : (place : ℕ) → (a ≡ tell (refused seat_above_top place))
      ↔ ((c : Read card) × (Understood question c.0 × ((length seats ≡ seats_due c.0) × FirstWrong c.0 seats place)))
  -- yes or no
  pub answered : (yes : Bool) → (a ≡ tell (says yes))
      ↔ ((c : Read card) × ((q : Understood question c.0) × (Seated c.0 seats × (yes ≡ holds_on (seating_of c.0 seats) q.0))))
  -- there is no other refusal
  pub no_other : (number place : ℕ) → a ≡ tell (refused number place) → ((number ≤ seat_above_top) ⊎ (number ≡ decimal_weight)) ⊎ ((in_question too_long ≤ number) × (number ≤ in_question not_due))
