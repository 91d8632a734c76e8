-- Demand 1 for the names that C calls ("Refusal numbers"): what their contracts say in document 01's numbers, and of the lent room afterwards.
-- That the code keeps these contracts is said in crate `keeps`. Assumes nothing.
use Rattle.std.specs.Prelude.{ℕ, ◌≤◌, ◌<◌, ◌≡◌, ◌↔◌, ◌⊎◌, List, ◌++◌, length, drop}
use Rattle.card.specs.Refusals.{wrong_seats, seat_above_top, room_too_small, OfCard, decimal_weight}
use Rattle.card.specs.Card.{Card}
use Rattle.reading.specs.Reading.{taken, refused, read_of}
use Rattle.room.specs.Answer.{Text}
use Rattle.seating.specs.Judged.{seats_due, FirstWrong, seating_of, Seated}
use Rattle.texts.specs.Writing.{write_of}
use Rattle.texts_said.specs.WriteSaid.{write_said}
use Rattle.texts.specs.ReducedText.{reduced_of}
use Rattle.texts_said.specs.ReduceSaid.{reduce_said}
use Rattle.panel_wording.specs.PanelText.{panel_of}
use Rattle.panel_said.specs.PanelSaid.{panel_said}
use Rattle.answers.specs.declared.OpenPanelAnswer.{OpenPanelAnswer}
use Rattle.told.specs.Told.{judged, Told}

-- the two numbers of an answer
abbrev pub Answers : OpenPanelAnswer → ℕ → ℕ → Type 0
Answers a number value = (a.number ≡ number) × (a.value ≡ value)

-- is it a card?
pub record JudgeTells (card : List ℕ) (a : OpenPanelAnswer) : Type 0 where
  -- 0 and 0 exactly for a card
  pub fine : (value : ℕ) → Answers a 0 value ↔ ((c : Card) × (read_of card ≡ taken c) × (value ≡ 0))
  -- 1 to 7, or 17, and the place, and no other number
  pub wrong_card : (number place : ℕ) → 1 ≤ number → Answers a number place ↔ (read_of card ≡ refused number place)
  pub no_other : OfCard a.number

-- the text f of a card: the room `was` became `is`
pub record TextTells (f : Card → List ℕ) (card was is : List ℕ) (a : OpenPanelAnswer) : Type 0 where
  -- 0 and the length
  pub done : (long : ℕ) → Answers a 0 long ↔ ((c : Card) × (read_of card ≡ taken c) × (length (f c) ≤ length was) × (long ≡ length (f c)))
  pub stands : (c : Card) → read_of card ≡ taken c → length (f c) ≤ length was → is ≡ f c ++ drop (length (f c)) was
  -- 1 to 7, or 17, and the place
  pub wrong_card : (number place : ℕ) → 1 ≤ number → OfCard number → Answers a number place ↔ (read_of card ≡ refused number place)
  -- 10 and the length needed
  pub small_room : (place : ℕ) → Answers a room_too_small place ↔ ((c : Card) × (read_of card ≡ taken c) × (length was < length (f c)) × (place ≡ length (f c)))
  pub no_other : OfCard a.number ⊎ (a.number ≡ room_too_small)
  -- no refusal touches the room
  pub untouched : (a.number ≡ 0 → ⊥) → is ≡ was

-- the panel of a card and its seats
pub record PanelTells (card seats was is : List ℕ) (a : OpenPanelAnswer) : Type 0 where
  pub done : (long : ℕ) → Answers a 0 long
      ↔ ((c : Card) × (read_of card ≡ taken c) × Seated c seats × (length (panel_of c (seating_of c seats)) ≤ length was) × (long ≡ length (panel_of c (seating_of c seats))))
  pub stands : (c : Card) → read_of card ≡ taken c → Seated c seats → length (panel_of c (seating_of c seats)) ≤ length was
      → is ≡ panel_of c (seating_of c seats) ++ drop (length (panel_of c (seating_of c seats))) was
  pub wrong_card : (number place : ℕ) → 1 ≤ number → OfCard number → Answers a number place ↔ (read_of card ≡ refused number place)
  -- 8 and 0
  pub wrong_count : (place : ℕ) → Answers a wrong_seats place ↔ ((c : Card) × (read_of card ≡ taken c) × (length seats ≡ seats_due c → ⊥) × (place ≡ 0))
  -- 9 and the first seat above k, or place n for the shared number
  pub wrong_seat : (place : ℕ) → Answers a seat_above_top place ↔ ((c : Card) × (read_of card ≡ taken c) × (length seats ≡ seats_due c) × FirstWrong c seats place)
  pub small_room : (place : ℕ) → Answers a room_too_small place
      ↔ ((c : Card) × (read_of card ≡ taken c) × Seated c seats × (length was < length (panel_of c (seating_of c seats))) × (place ≡ length (panel_of c (seating_of c seats))))
  pub no_other : (a.number ≤ room_too_small) ⊎ (a.number ≡ decimal_weight)
  pub untouched : (a.number ≡ 0 → ⊥) → is ≡ was

pub record ForC : Type 0 where
  pub judge : (card : List ℕ) (a : OpenPanelAnswer) → a ≡ judged (read_of card) → JudgeTells card a
  pub write : (card was is : List ℕ) (a : OpenPanelAnswer) → Told was is (write_said card) a → TextTells write_of card was is a
  pub reduce : (card was is : List ℕ) (a : OpenPanelAnswer) → Told was is (reduce_said card) a → TextTells reduced_of card was is a
  pub show : (card seats was is : List ℕ) (a : OpenPanelAnswer) → Told was is (panel_said card seats) a → PanelTells card seats was is a
  -- two results that keep one contract are the same
  pub unique : (was is₁ is₂ : List ℕ) (said : Text) (a₁ a₂ : OpenPanelAnswer) → Told was is₁ said a₁ → Told was is₂ said a₂ → (a₁ ≡ a₂) × (is₁ ≡ is₂)
