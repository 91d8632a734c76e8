-- What `first_move` has to say of any card and seats: the card's refusal, the seats', or the first statement that some seat may take, or none
-- ("2026-07. Is anyone able to move?"). Assumes nothing.
use Rattle.std.specs.Prelude.{ℕ, ◌≤◌, ◌≡◌, ◌↔◌, ◌⊎◌, List, length}
use Rattle.std.proofs.Math.Option.{Option, none, some}
use Rattle.card.specs.Refusals.{wrong_seats, seat_above_top, OfCard, decimal_weight}
use Rattle.card.specs.Card.{Card}
use Rattle.reading.specs.Reading.{refused as turned, read_of}
use Rattle.meaning.specs.Seats.{Stuck}
use Rattle.entry.specs.Said.{Said, says, refused, ◌>>=◌, ◌>>◌, return}
use Rattle.seating.specs.Judged.{seats_due, FirstWrong, seating_of, Seated}
use Rattle.seating.specs.SeatsSaid.{seats_said}
use Rattle.rows.specs.Said.{card_said, Read}
use Rattle.moving.specs.FirstMove.{first_move}
use Rattle.moving.specs.FirstTaken.{FirstTaken}

-- of a card that is taken
abbrev pub move_seated : List ℕ → Card → Said (Option ℕ)
move_seated seats c = do
  seats_said seats c
  return (first_move c (seating_of c seats))

unfoldable pub move_said : (card seats : List ℕ) → Said (Option ℕ)
move_said card seats = do
  c ← card_said card
  move_seated seats c

-- ---- what is then answered, refusal by refusal, in the order in which they are judged

pub record Moves {T : Type 0} (tell : Said (Option ℕ) → T) (card seats : List ℕ) (a : T) : Type 0 where
  pub wrong_card : (number place : ℕ) → OfCard number → (a ≡ tell (refused number place)) ↔ (read_of card ≡ turned number place)
  pub wrong_count : (place : ℕ) → (a ≡ tell (refused wrong_seats place)) ↔ ((c : Read card) × ((length seats ≡ seats_due c.0 → ⊥) × (place ≡ 0)))
  pub wrong_seat : (place : ℕ) → (a ≡ tell (refused seat_above_top place)) ↔ ((c : Read card) × ((length seats ≡ seats_due c.0) × FirstWrong c.0 seats place))
  -- some seat may take this statement, and none may take one before it
  pub statement : (q : ℕ) → (a ≡ tell (says (some q))) ↔ ((c : Read card) × (Seated c.0 seats × FirstTaken c.0.statements (seating_of c.0 seats) q))
  -- nobody exactly where the seating is stuck
  pub nobody : (a ≡ tell (says none)) ↔ ((c : Read card) × (Seated c.0 seats × Stuck c.0 (seating_of c.0 seats)))
  -- there is no other refusal
  pub no_other : (number place : ℕ) → a ≡ tell (refused number place) → (number ≤ seat_above_top) ⊎ (number ≡ decimal_weight)
