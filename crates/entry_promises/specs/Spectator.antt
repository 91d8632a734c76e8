-- Document 02, 2026-05: what the spectator's entry answers and what can be told from it. The words on the right are in `classes/specs` and `watch_said/specs`.
-- That the code keeps its contracts is said in crate `keeps`. Assumes nothing.
use Rattle.std.specs.Prelude.{ℕ, suc, ◌≤◌, ◌<◌, ◌≡◌, ◌↔◌, ◌⊎◌, List, length}
use Rattle.card.specs.Limits.{public_classes}
use Rattle.card.specs.Refusals.{wrong_seats, seat_above_top, room_too_small, wrong_classes, OfCard, decimal_weight}
use Rattle.card.specs.Card.{Card}
use Rattle.card.specs.Valid.{ValidCard}
use Rattle.reading.specs.Reading.{taken, refused as turned, read_of}
use Rattle.meaning.specs.Sums.{sum}
use Rattle.meaning.specs.Seats.{Seating, ValidSeating, counts}
use Rattle.entry.specs.Said.{says as text}
use Rattle.entry.specs.Contract.{onto}
use Rattle.room.specs.Answer.{Answer}
use Rattle.room.specs.Answer.{told, Entered}
use Rattle.seating.specs.Judged.{seats_due, FirstWrong, Seated, bytes_of}
use Rattle.rows.specs.Said.{Read}
use Rattle.classes.specs.Classes.{ValidClasses, class_counts, class_counts_at, classes_text, watch_of}
use Rattle.classes.specs.ClassesSaid.{WrongClasses}
use Rattle.classes.specs.ClassesRoom.{classes_room}
use Rattle.watch_said.specs.WatchSaid.{watch_said}
use Rattle.watch_said.specs.Watches.{Watched, line_of, Watches}
use Rattle.answers.specs.declared.OpenPanelAnswer.{OpenPanelAnswer}
use Rattle.told.specs.Told.{Told}
use Rattle.entry_promises.specs.Entries.{RoomEnough}
use Rattle.entry_promises.specs.ForC.{Answers}

-- ---- the class counts

pub record ClassCounts : Type 0 where
  -- the counts of the states tell them, so nothing but counts is needed
  pub by_counts : (c : Card) (x : Seating) → ValidSeating c x → (list : List ℕ) → length list ≡ suc c.k
      → class_counts list x.each ≡ class_counts_at list (counts c.k x.each)
  -- there are eight, and they add up to n
  pub eight : (list x : List ℕ) → length (class_counts list x) ≡ public_classes
  pub adds_up : (c : Card) (x : Seating) → ValidSeating c x → (list : List ℕ) → ValidClasses c.k list → sum (λ v. v) (class_counts list x.each) ≡ c.n

-- ---- what can be told from what is shown: one card, one list and one room, and two valid seatings of the card

pub record Seen : Type 0 where
  -- equal class counts: the answer and every byte of the room are equal, whatever the list, the room and the shared number
  pub equal_classes : (card list was : List ℕ) (c : Card) → read_of card ≡ taken c → (x y : Seating) → ValidSeating c x → ValidSeating c y
      → class_counts list x.each ≡ class_counts list y.each
      → {is_x is_y : List ℕ} {a b : Answer} → Entered was is_x (watch_said card (bytes_of c x) list) a → Entered was is_y (watch_said card (bytes_of c y) list) b → (a ≡ b) × (is_x ≡ is_y)
  -- and in a room that is long enough the bytes are equal only then: the spectator sees the class counts, and nothing else of the seats
  pub exactly : (card list was : List ℕ) (c : Card) → read_of card ≡ taken c → (x y : Seating) → ValidSeating c x → ValidSeating c y → ValidClasses c.k list
      → classes_room ≤ length was
      → {is_x is_y : List ℕ} {a b : Answer} → Entered was is_x (watch_said card (bytes_of c x) list) a → Entered was is_y (watch_said card (bytes_of c y) list) b
      → (is_x ≡ is_y) ↔ (class_counts list x.each ≡ class_counts list y.each)
  -- so nothing that the open panel does not show: equal counts have equal class counts
  pub equal_counts : (c : Card) (x y : Seating) → ValidSeating c x → ValidSeating c y → (list : List ℕ) → ValidClasses c.k list
      → counts c.k x.each ≡ counts c.k y.each → class_counts list x.each ≡ class_counts list y.each

-- ---- the name for C: its answer in numbers

pub record WatchTells (card seats list was is : List ℕ) (a : OpenPanelAnswer) : Type 0 where
  -- 0 and the length
  pub done : (long : ℕ) → Answers a 0 long
      ↔ ((w : Watched card seats list) × (length (line_of seats list w.0.0) ≤ length was) × (long ≡ length (line_of seats list w.0.0)))
  pub stands : (w : Watched card seats list) → length (line_of seats list w.0.0) ≤ length was → is ≡ onto (line_of seats list w.0.0) was
  -- 1 to 7, or 17, and the place on the card
  pub wrong_card : (number place : ℕ) → 1 ≤ number → OfCard number → Answers a number place ↔ (read_of card ≡ turned number place)
  -- 8 and 0; 9 and the first seat above k, or place n for the shared number
  pub wrong_count : (place : ℕ) → Answers a wrong_seats place ↔ ((c : Read card) × ((length seats ≡ seats_due c.0 → ⊥) × (place ≡ 0)))
  pub wrong_seat : (place : ℕ) → Answers a seat_above_top place ↔ ((c : Read card) × ((length seats ≡ seats_due c.0) × FirstWrong c.0 seats place))
  -- 13 and the list's length, or the first class above 7
  pub wrong_list : (place : ℕ) → Answers a wrong_classes place ↔ ((c : Read card) × (Seated c.0 seats × WrongClasses c.0.k list place))
  -- 10 and the length needed
  pub small_room : (place : ℕ) → Answers a room_too_small place
      ↔ ((w : Watched card seats list) × (length was < length (line_of seats list w.0.0)) × (place ≡ length (line_of seats list w.0.0)))
  pub no_other : (a.number ≤ room_too_small) ⊎ (a.number ≡ wrong_classes) ⊎ (a.number ≡ decimal_weight)
  pub untouched : (a.number ≡ 0 → ⊥) → is ≡ was

pub record Spectator : Type 0 where
  pub class_counts_holds : ClassCounts
  pub seen : Seen
  -- the text of an accepted card, a seating and a list is the one line of the class counts
  pub shown : (card list : List ℕ) (c : Card) (x : Seating) → read_of card ≡ taken c → ValidSeating c x → ValidClasses c.k list
      → watch_said card (bytes_of c x) list ≡ text (classes_text (class_counts list x.each))
  -- for any bytes: the card's 1 to 7 and 17, 8, 9, 13, 10, or the line, each exactly where it is due, and in this order
  pub watch : (card seats list was is : List ℕ) (a : Answer) → Entered was is (watch_said card seats list) a → Watches told card seats list was is a
  pub for_c : (card seats list was is : List ℕ) (a : OpenPanelAnswer) → Told was is (watch_said card seats list) a → WatchTells card seats list was is a
  -- a room that is always enough, because no line is longer
  pub room : (card seats list : List ℕ) → RoomEnough classes_room (watch_said card seats list)
  pub most : (c : Card) → ValidCard c → (x : Seating) → ValidSeating c x → (list : List ℕ) → ValidClasses c.k list → length (watch_of list x) ≤ classes_room
