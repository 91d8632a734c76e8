-- What is then answered, refusal by refusal, in the order in which they are judged: 1 to 7 and 17, 8, 9, 13, 10; and the room afterwards (document 02,
-- 2026-05). Assumes nothing.
use Rattle.std.specs.Prelude.{ℕ, ◌≤◌, ◌<◌, ◌≡◌, ◌↔◌, ◌⊎◌, List, length}
use Rattle.card.specs.Refusals.{wrong_seats, seat_above_top, room_too_small, wrong_classes, OfCard, decimal_weight}
use Rattle.card.specs.Card.{Card}
use Rattle.reading.specs.Reading.{refused as turned, read_of}
use Rattle.entry.specs.Said.{Said, says, refused}
use Rattle.entry.specs.Contract.{onto}
use Rattle.seating.specs.Judged.{seats_due, FirstWrong, seating_of, Seated}
use Rattle.rows.specs.Said.{Read}
use Rattle.classes.specs.Classes.{ValidClasses, watch_of}
use Rattle.classes.specs.ClassesSaid.{WrongClasses}

-- a card that is taken, a seating of it, and a list for it
abbrev pub Watched : (card seats list : List ℕ) → Type 0
Watched card seats list = (c : Read card) × (Seated c.0 seats × ValidClasses c.0.k list)

-- the line of their classes
abbrev pub line_of : (seats list : List ℕ) → Card → List ℕ
line_of seats list c = watch_of list (seating_of c seats)

-- the room `was` became `is`
pub record Watches {T : Type 0} (tell : Said ℕ → T) (card seats list was is : List ℕ) (a : T) : Type 0 where
  pub wrong_card : (number place : ℕ) → OfCard number → (a ≡ tell (refused number place)) ↔ (read_of card ≡ turned number place)
  pub wrong_count : (place : ℕ) → (a ≡ tell (refused wrong_seats place)) ↔ ((c : Read card) × ((length seats ≡ seats_due c.0 → ⊥) × (place ≡ 0)))
  pub wrong_seat : (place : ℕ) → (a ≡ tell (refused seat_above_top place)) ↔ ((c : Read card) × ((length seats ≡ seats_due c.0) × FirstWrong c.0 seats place))
  -- 13: the seats are a seating
  pub wrong_list : (place : ℕ) → (a ≡ tell (refused wrong_classes place)) ↔ ((c : Read card) × (Seated c.0 seats × WrongClasses c.0.k list place))
  -- 10 comes last: the list is a list for the card
  pub small_room : (place : ℕ) → (a ≡ tell (refused room_too_small place))
      ↔ ((w : Watched card seats list) × (length was < length (line_of seats list w.0.0)) × (place ≡ length (line_of seats list w.0.0)))
  -- else the line stands at the start of the room, and the bytes past it are as they were
  pub done : (long : ℕ) → (a ≡ tell (says long))
      ↔ ((w : Watched card seats list) × (length (line_of seats list w.0.0) ≤ length was) × (long ≡ length (line_of seats list w.0.0)))
  pub stands : (w : Watched card seats list) → length (line_of seats list w.0.0) ≤ length was → is ≡ onto (line_of seats list w.0.0) was
  -- there is no other refusal, and none touches the room
  pub no_other : (number place : ℕ) → a ≡ tell (refused number place) → (number ≤ room_too_small) ⊎ (number ≡ wrong_classes) ⊎ (number ≡ decimal_weight)
  pub untouched : (number place : ℕ) → a ≡ tell (refused number place) → is ≡ was
