-- Document 02, 2026-13: over whole evenings the counts lose nothing. The exact chance by counts is the exact chance by seats told apart, so what 2026-08 says of the former holds of the latter, and of what
-- is answered for any bytes. Both are the same iteration (`round` in `evenings/specs/Rounds.antt`) on two tables: one of seatings and what every seat may do there, one of counts and the reduced program. Assumes nothing.
use Rattle.std.specs.Prelude.{ℕ, suc, ◌*◌, ◌≤◌, ◌≡◌, List, length}
use Rattle.card.specs.Card.{Card}
use Rattle.meaning.specs.Position.{Position}
use Rattle.meaning.specs.Reordered.{Reordered}
use Rattle.meaning.specs.Seats.{Seating, ValidSeating, Stuck, counted, choices, turns}
use Rattle.meaning.specs.Reduced.{reduce, reduced_choices, reduced_turns}
use Rattle.entry.specs.Contract.{Two, Enters, in_rows}
use Rattle.rows.specs.Said.{Read}
use Rattle.room.specs.Answer.{Answer}
use Rattle.room.specs.Answer.{Done}
use Rattle.room.specs.Answer.{told}
use Rattle.seating.specs.Judged.{seating_of, Seated}
use Rattle.asking.specs.Meant.{Question, holds_on, test_for, passes_on}
use Rattle.ask_said.specs.AskSaid.{Understood}
use Rattle.evenings.specs.Limits.{most_nights}
use Rattle.evenings.specs.Rounds.{Aim, turns_at}
use Rattle.evenings.specs.Scales.{bottom, Close}
use Rattle.evenings.specs.Fair.{Leads}
use Rattle.evenings.specs.Evenings.{most_turns, exact, whole}
use Rattle.chances.specs.Chances.{by_seats, by_counts, chance_at}
use Rattle.odds_said.specs.OddsSaid.{odds_said}
use Rattle.evening_edges.specs.EveningEdges.{EveningEdges}
use Rattle.answers.specs.declared.OpenPanelAnswer.{OpenPanelAnswer}
use Rattle.tablet.specs.Rows.{RowsTold}
use Rattle.entry_promises.specs.ForC.{Answers}

-- the two tables of a card and a question
pub record Tables (c : Card) (q : Question) : Type 0 where
  -- by seats: the choices and turns of every seat by itself, as `Meanings.own_seat` and `Meanings.pairs` have them, and the question as it holds on the seats
  pub seats_choices : (x : Seating) → (by_seats c q).choices x ≡ choices c x
  pub seats_turns : (x : Seating) → turns_at (by_seats c q) x ≡ turns c x
  pub seats_asked : (x : Seating) → (by_seats c q).asked x ≡ holds_on x q
  -- by counts: the choices and turns of the reduced program, and the question's translation
  pub counts_choices : (v : Position) → (by_counts c q).choices v ≡ reduced_choices (reduce c) v
  pub counts_turns : (v : Position) → turns_at (by_counts c q) v ≡ reduced_turns (reduce c) v
  pub counts_asked : (v : Position) → (by_counts c q).asked v ≡ passes_on v (test_for c.n q)

-- of a card, a question, an aim, a number of steps and a seating
pub record WholeEvening (c : Card) (q : Question) (a : Aim) (m : ℕ) (x : Seating) : Type 0 where
  -- the counts' chance is the seats' own
  pub same : exact c a (by_seats c q) m x ≡ exact c a (by_counts c q) m (counted c.k x)
  -- so the value in millionths is never above it, and short of it by m millionths at most
  pub close : Close m (whole c m) (chance_at c q a m (counted c.k x)) (exact c a (by_seats c q) m x)
  -- a stuck seating keeps it
  pub stuck : Stuck c x → exact c a (by_seats c q) (suc m) x ≡ exact c a (by_seats c q) m x * bottom (most_turns c)

-- the bytes are a card, a question on it and a valid seating of it, and a value in millionths is close to the chance of the seats themselves
abbrev pub CloseToSeats : (card question seats : List ℕ) (m : ℕ) → Aim → (value : ℕ) → Type 0
CloseToSeats card question seats m a value =
    (c : Read card) × ((q : Understood question c.0) × (Seated c.0 seats × Close m (whole c.0 m) value (exact c.0 a (by_seats c.0 q.0) m (seating_of c.0 seats))))

pub record WholeEvenings : Type 0 where
  -- what is iterated: on the one side all seats are told apart, on the other only counted
  pub tables : (c : Card) (q : Question) → Tables c q
  -- no step leads out of the valid seatings, so none of an evening does, and what is said of one seating holds all the way (`Chance.turns` among it)
  pub leads : (card : List ℕ) (c : Read card) (x : Seating) → ValidSeating c.0 x → Leads (ValidSeating c.0) (turns c.0 x)
  -- for every card that is taken, every question and every seating valid on it, with the shared number where the card has one, up to 32 steps ahead and for either aim
  pub evening : (card : List ℕ) (c : Read card) (q : Question) (a : Aim) (m : ℕ) → m ≤ most_nights → (x : Seating) → ValidSeating c.0 x → WholeEvening c.0 q a m x
  -- what is answered for any bytes is that close to the chance of the seats themselves; for C, in numbers, too
  pub answered : (card question seats : List ℕ) (m : ℕ) (a : Aim) (was is : Two (List ℕ)) (r : Answer)
      → Enters in_rows told was is (odds_said card question seats m a (length was.first) (length was.second)) r
      → (value : ℕ) → r ≡ Done value → CloseToSeats card question seats m a value
  pub answered_for_c : (card question seats : List ℕ) (m : ℕ) (a : Aim) (was is : Two (List ℕ)) (r : OpenPanelAnswer)
      → RowsTold was is (odds_said card question seats m a (length was.first) (length was.second)) r
      → (value : ℕ) → Answers r 0 value → CloseToSeats card question seats m a value
  -- seats in another order have the same chance, though each is told apart
  pub reordered : (card : List ℕ) (c : Read card) (q : Question) (a : Aim) (m : ℕ) {x y : Seating} → Reordered x y → ValidSeating c.0 x
      → exact c.0 a (by_seats c.0 q) m x ≡ exact c.0 a (by_seats c.0 q) m y
  pub edges : EveningEdges
