-- The demands of document 01, each as one statement, in words that crate `meaning` defines; demand 3 as document 02 widens it. Assumes nothing.
use Rattle.std.specs.Prelude.{ℕ, ◌≤◌, ◌<◌, ◌≡◌, ◌↔◌, true, List, [], map, length, replicate}
use Rattle.card.specs.Limits.{card_bytes, unit}
use Rattle.card.specs.Card.{Statement, Card}
use Rattle.card.specs.Valid.{Every, ValidCard}
use Rattle.meaning.specs.Sums.{sum, flat}
use Rattle.meaning.specs.Position.{Position}
use Rattle.meaning.specs.Steps.{Step, Turn}
use Rattle.meaning.specs.Choices.{choices_of, stay, stuck_choices}
use Rattle.meaning.specs.Offers.{OneForOne, Offers}
use Rattle.meaning.specs.Seats.{Seating, ValidSeating, counts, counted, turn, choices_from, choices, turns, steps, Stuck}
use Rattle.meaning.specs.Apart.{SeatStep, takers}
use Rattle.meaning.specs.Reduced.{reduce, reduced_turns_by, reduced_choices, reduced_turns, reduced_steps, StuckAt}
use Rattle.meaning.specs.Demand.{same_position, Agrees}
use Rattle.meaning.specs.Panel.{panel}
use Rattle.seating.specs.Judged.{Seated, seating_of, bytes_of}
use Rattle.reading.specs.Reading.{taken, read_of}
use Rattle.room.specs.Answer.{Answer}
use Rattle.entry.specs.Said.{says as text}
use Rattle.room.specs.Answer.{Entered}
use Rattle.texts.specs.Writing.{write_of}
use Rattle.texts_said.specs.WriteSaid.{write_said}
use Rattle.texts.specs.ReducedText.{program_text}
use Rattle.texts_said.specs.ReduceSaid.{reduce_said}
use Rattle.panel_wording.specs.PanelText.{panel_text}
use Rattle.panel_said.specs.PanelSaid.{panel_said}
use Rattle.panel_said.specs.Reordering.{ReorderedOn, SaidAlike, Alike}
use Rattle.card_promises.specs.Marks.{Markings}
use Rattle.card_promises.specs.Readings.{Readings}

-- Demand 2 ("Marks on a card", "Shape of a card", "Texts, byte for byte", "Refusal numbers"): which bytes are a card, why others are not, and what is
-- printed of a card
pub record Demand2 : Type 0 where
  -- which marks the bytes are; then when they are taken and as which card, and each refusal 1 to 7 and 17 with its place exactly under the
  -- condition of its row
  pub marks : Markings
  pub readings : Readings
  -- a seating and its bytes are one for one
  pub seats : (c : Card) (x : Seating) → ValidSeating c x → Seated c (bytes_of c x) × (seating_of c (bytes_of c x) ≡ x)
  pub bytes_of_holds : (c : Card) (x : List ℕ) → Seated c x → ValidSeating c (seating_of c x) × (bytes_of c (seating_of c x) ≡ x)
  -- the texts of an accepted card are those of the definitions
  pub written : (b : List ℕ) (c : Card) → read_of b ≡ taken c → write_said b ≡ text (write_of c)
  pub reduced : (b : List ℕ) (c : Card) → read_of b ≡ taken c → reduce_said b ≡ text (program_text (reduce c))
  pub shown : (b : List ℕ) (c : Card) (x : Seating) → read_of b ≡ taken c → ValidSeating c x → panel_said b (bytes_of c x) ≡ text (panel_text (panel c x))
  -- written out and read again it is the same card
  pub again : (b : List ℕ) (c : Card) → read_of b ≡ taken c → length (write_of c) ≤ card_bytes → read_of (write_of c) ≡ taken c

-- Demand 3 over bytes: of every card that demand 2 accepts
pub record Demand3OfBytes : Type 0 where
  pub agrees : (b : List ℕ) (c : Card) (x : Seating) → read_of b ≡ taken c → ValidSeating c x → Agrees c.mode c x
  -- from every valid seating there is a step, by seats and by counts; one on each side where it is stuck
  pub some_step : (b : List ℕ) (c : Card) (x : Seating) → read_of b ≡ taken c → ValidSeating c x
      → (1 ≤ length (steps c x)) × (1 ≤ length (reduced_steps (reduce c) (counted c.k x)))
  pub one_step : (b : List ℕ) (c : Card) (x : Seating) → read_of b ≡ taken c → ValidSeating c x → Stuck c x
      → (length (steps c x) ≡ 1) × (length (reduced_steps (reduce c) (counted c.k x)) ≡ 1)
  -- valid seatings with equal counts show the same bytes; seats in another order do, and of the refusals only the place of 9 may change
  pub equal_counts : (b : List ℕ) (c : Card) (x y : Seating) → read_of b ≡ taken c → ValidSeating c x → ValidSeating c y → counted c.k x ≡ counted c.k y
      → panel_said b (bytes_of c x) ≡ panel_said b (bytes_of c y)
  pub reordered : (b : List ℕ) {x y : List ℕ} → ReorderedOn b x y → SaidAlike b x y
  pub answers_alike : (b : List ℕ) {x y : List ℕ} → ReorderedOn b x y → {was is-a is_b : List ℕ} {a d : Answer}
      → Entered was is-a (panel_said b x) a → Entered was is_b (panel_said b y) d → Alike a d is-a is_b

-- Demand 3 ("What a card means"; document 02, 2026-03), for every card in either mode and every valid seating, stuck or not
pub record Demand3 : Type 0 where
  -- the reduced program does from a seating's counts what the seats do
  pub agrees : (c : Card) (x : Seating) → ValidSeating c x → Agrees c.mode c x
  -- a seating is stuck exactly where its counts are
  pub stuck_alike : (c : Card) (x : Seating) → ValidSeating c x → Stuck c x ↔ StuckAt (reduce c) (counted c.k x)
  -- and where a seating or a vector is stuck it has one step, which changes nothing and weighs the unit
  pub stuck_step : (c : Card) (x : Seating) → Stuck c x → steps c x ≡ stay x
  pub stuck_step_at : (c : Card) (v : Position) → StuckAt (reduce c) v → reduced_steps (reduce c) v ≡ stay v
  -- the vectors and shared numbers in it are compared by a test that is equality
  pub positions : (u v : Position) → (same_position u v ≡ true) ↔ (u ≡ v)

-- The relation is total, as source document 000 has it: every seating of a valid card has a step, and so has every vector of counts
pub record Total : Type 0 where
  pub by_seats_holds : (c : Card) → ValidCard c → (x : Seating) → 1 ≤ length (steps c x)
  pub by_counts : (c : Card) → ValidCard c → (v : Position) → 1 ≤ length (reduced_steps (reduce c) v)
  -- and each turn's steps weigh the unit together
  pub turns_weigh : (c : Card) → ValidCard c → (x : Seating)
      → Every (λ (t : Turn Seating). sum (λ (s : Step Seating). s.units) t ≡ unit) (turns c x)
  pub counts_weigh : (c : Card) → ValidCard c → (v : Position)
      → Every (λ (t : Turn Position). sum (λ (s : Step Position). s.units) t ≡ unit) (reduced_turns (reduce c) v)

-- and what else is known of the two meanings
pub record Meanings : Type 0 where
  -- all seats are told apart: a turn belongs to one of them, and has a step for each branch, in order
  pub own_seat : (s : Statement) (x : Seating) (i : ℕ) → i < length x.each → OneForOne (SeatStep x i) s.branches (turn s x i)
  -- and there is one for each pair of a statement and a seat that may take it, in either mode, by statement and then by seat
  pub pairs : (c : Card) (x : Seating) → (Stuck c x → ⊥) → turns c x ≡ flat (map (λ s. map (turn s x) (takers s x)) c.statements)
  -- both offer the same. On a probabilistic card any number that depends on a turn's units and next counts has the same sum on both sides; on a
  -- nondeterministic one each choice has one turn by counts, and the steps of every seat that may take it are, seen in the counts, that turn's
  pub offers : (c : Card) (x : Seating) → ValidSeating c x → Offers c.mode (counted c.k) (choices c x) (reduced_choices (reduce c) (counted c.k x))
  -- nothing can be taken exactly where no seat may take any statement
  pub nothing : (c : Card) (x : Seating) → Stuck c x ↔ (choices_from 1 c.statements x ≡ [])
  -- and exactly there the one choice is that at place 0; elsewhere nothing is added to the statements
  pub stuck : (c : Card) (x : Seating) → Stuck c x ↔ (choices c x ≡ stuck_choices x)
  pub moving : (c : Card) (x : Seating) → (Stuck c x → ⊥) → choices c x ≡ choices_from 1 c.statements x
  -- and so by counts, at any vector
  pub nothing_at : (c : Card) (v : Position) → StuckAt (reduce c) v ↔ (choices_of (reduced_turns_by v) 1 (reduce c).statements ≡ [])
  pub stuck_at : (c : Card) (v : Position) → StuckAt (reduce c) v ↔ (reduced_choices (reduce c) v ≡ stuck_choices v)
  pub moving_at : (c : Card) (v : Position) → (StuckAt (reduce c) v → ⊥) → reduced_choices (reduce c) v ≡ choices_of (reduced_turns_by v) 1 (reduce c).statements
  -- the reduced program starts at the counts of the card's own start, all seats in state l
  pub start : (c : Card) → (reduce c).start ≡ counts c.k (replicate c.n c.l)
