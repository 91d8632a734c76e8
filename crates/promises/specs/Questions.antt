-- Document 02, 2026-01: what a question means, which bytes are one on a card of n seats with top state k whose shared number has so many values (0: there is none), which refusal is given where, and what
-- the entry answers. The words on the right are in `asking/specs` and `ask_said/specs`. Assumes nothing.
use Rattle.std.specs.Prelude.{ℕ, ◌≤◌, ◌≡◌, Bool, true, ◌↔◌, ◌⊎◌, List, [], ◌∷◌, length}
use Rattle.card.specs.Refusals.{too_long, outside_rules, out_of_shape, past_limit, above_top, not_due, wrong_seats, seat_above_top, OfCard, decimal_weight}
use Rattle.card.specs.Card.{everyone, Sign, all, Relation, is, group, shared_is, atom, Card}
use Rattle.card.specs.Formulas.{over}
use Rattle.card.specs.Valid.{ValidCard}
use Rattle.reading.specs.Reader.{Place}
use Rattle.reading.specs.Group.{Literal}
use Rattle.grammar.specs.Rules.{OnceEach}
use Rattle.grammar.specs.Verdicts.{TooLong, OutsideRules}
use Rattle.reading.specs.Reading.{refused as turned, read_of}
use Rattle.meaning.specs.Formulas.{value}
use Rattle.meaning.specs.Position.{position}
use Rattle.meaning.specs.Seats.{Seating, ValidSeating, count, counted}
use Rattle.meaning.specs.Reordered.{Reordered}
use Rattle.meaning.specs.Reduced.{equal_to, counter, shared_test, counter_of}
use Rattle.meaning.specs.ByCounts.{held_at}
use Rattle.entry.specs.Said.{Said, says, refused}
use Rattle.entry.specs.Contract.{yes_no}
use Rattle.seating.specs.Judged.{seats_due, FirstWrong, seating_of, Seated}
use Rattle.rows.specs.Said.{Read}
use Rattle.asking.specs.Question.{Occurs, twice_next, TermSaid}
use Rattle.asking.specs.Meant.{of_all, one_in, shared_at, Question, ValidQuestion, OneSeat, holds_atom, holds_on, test_for, passes_on, leaf_for}
use Rattle.asking.specs.Asking.{Everyone, ExactlyOne, is_everyone, is_exactly_one, in_question, question_of, QuestionPastLimit, QuestionOutOfShape, QuestionBroken, QuestionAccepted}
use Rattle.asking.specs.AsWritten.{item_holds}
use Rattle.ask_said.specs.AskSaid.{question_said, Understood, ask_said, Asks}
use Rattle.answers.specs.declared.OpenPanelAnswer.{OpenPanelAnswer}
use Rattle.tablet.specs.AskedTold.{answered_numbers}
use Rattle.entry_promises.specs.ForC.{Answers}

-- ---- what a question means

pub record QuestionMeaning : Type 0 where
  -- the question that is taken from a text holds on n seats exactly when the text does, literal by literal as it is written
  pub as_written : (n k values : ℕ) (s : List ℕ) (q : Question) (a : QuestionAccepted n k values s q) (x : Seating) → length x.each ≡ n
      → value (item_holds x) a.shaped.shape ≡ holds_on x q
  -- it holds on a seating exactly when its translation holds at the seating's counts
  pub by_counts : (c : Card) → ValidCard c → (x : Seating) → ValidSeating c x → (q : Question) → holds_on x q ≡ passes_on (counted c.k x) (test_for c.n q)
  -- an everyone group is translated by document 01's table, an exactly-one to no_d=1
  pub group_translated : (n j : ℕ) (s : Sign) (q : Relation) (d : ℕ) → test_for n (atom (of_all s q d)) ≡ atom (counter_of n j (group everyone s q d))
  pub one_translated : (n d : ℕ) → test_for n (atom (one_in d)) ≡ atom (counter d (equal_to 1))
  -- and a test of the shared number to itself, as on a card (2026-10)
  pub test_translated : (n j : ℕ) (q : Relation) (v : ℕ)
      → (test_for n (atom (shared_at q v)) ≡ atom (shared_test q v)) × (counter_of n j (shared_is q v) ≡ shared_test q v)
  -- by seats an exactly-one says that some seat is d and no other is, which is to say that the number of seats in state d is 1
  pub one_in_words : (x : Seating) (d : ℕ) → (holds_atom x (one_in d) ≡ true) ↔ OneSeat d x
  pub one_by_number : (x : Seating) (d : ℕ) → (holds_atom x (one_in d) ≡ true) ↔ (count d x.each ≡ 1)
  -- of one seat it is the single literal
  pub one_of_one : (a g d : ℕ) → holds_atom (position (a ∷ []) g) (one_in d) ≡ holds_atom (position (a ∷ []) g) (of_all all is d)
  -- equal counts, equal answers; and reordering seats changes no answer
  pub equal_counts : (c : Card) → ValidCard c → (x y : Seating) → ValidSeating c x → ValidSeating c y → counted c.k x ≡ counted c.k y
      → (q : Question) → holds_on x q ≡ holds_on y q
  pub reordered : (c : Card) → ValidCard c → {x y : Seating} → Reordered x y → ValidSeating c x → (q : Question) → holds_on x q ≡ holds_on y q
  -- laid in nodes as a card's guard is, it is tested as a guard is, whatever the local state
  pub laid : (c : Card) → ValidCard c → (x : Seating) → ValidSeating c x → (own : ℕ) (q : Question)
      → holds_on x q ≡ held_at c.n own (counted c.k x) (over leaf_for q)

-- ---- which bytes are a question

pub record QuestionReadings : Type 0 where
  -- taken exactly when its marks have the grammar's shape within the limits and keep the rules; and it is the grammar's question
  pub accepted : (n k values : ℕ) (s : List ℕ) (q : Question) → (question_of n k values s ≡ says q) ↔ QuestionAccepted n k values s q
  -- it is then valid: its states at most k, values that the shared number can have, its nodes and its depth within a guard's limits
  pub valid : (n k values : ℕ) (s : List ℕ) (q : Question) → question_of n k values s ≡ says q → ValidQuestion k values q
  -- an exactly-one starts behind a bracket exactly where a term stands in which each relation occurs
  pub starts : (ms : Place) → (twice_next ms ≡ true) ↔ ((ls : List Literal) × (r : Place) × TermSaid ms ls r × ((q : Relation) → Occurs q ls))
  -- the two rules to which 26 is due, as they are tested; a group of the others keeps neither
  pub is_everyone_holds : (n : ℕ) (ls : List Literal) → (is_everyone n ls ≡ true) ↔ Everyone n ls
  pub is_exactly_one_holds : (n : ℕ) (ts : List (List Literal)) → (is_exactly_one n ts ≡ true) ↔ ExactlyOne n ts
  pub others : (n : ℕ) (ls : List Literal) → 1 ≤ n → OnceEach 2 n ls → Everyone n ls → ⊥
  -- each refusal
  pub row_21 : (n k values : ℕ) (s : List ℕ) (p : ℕ) → (question_of n k values s ≡ refused (in_question too_long) p) ↔ TooLong s p
  pub row_22 : (n k values : ℕ) (s : List ℕ) (p : ℕ) → (question_of n k values s ≡ refused (in_question outside_rules) p) ↔ OutsideRules s p
  pub row_23 : (n k values : ℕ) (s : List ℕ) (p : ℕ) → (question_of n k values s ≡ refused (in_question out_of_shape) p) ↔ QuestionOutOfShape values s p
  pub row_24 : (n k values : ℕ) (s : List ℕ) (p : ℕ) → (question_of n k values s ≡ refused (in_question past_limit) p) ↔ QuestionPastLimit values s p
  pub row_25 : (n k values : ℕ) (s : List ℕ) (p : ℕ) → (question_of n k values s ≡ refused (in_question above_top) p) ↔ QuestionBroken n k values above_top s p
  pub row_26 : (n k values : ℕ) (s : List ℕ) (p : ℕ) → (question_of n k values s ≡ refused (in_question not_due) p) ↔ QuestionBroken n k values not_due s p
  -- there is no other
  pub no_other : (n k values : ℕ) (s : List ℕ) (r p : ℕ) → question_of n k values s ≡ refused r p → (in_question too_long ≤ r) × (r ≤ in_question not_due)

-- ---- what is answered

-- as it is said
abbrev pub as_said : Said Bool → Said Bool
as_said said = said

-- the name for C: its answer in numbers
pub record AskTells (card question seats : List ℕ) (a : OpenPanelAnswer) : Type 0 where
  -- 0, with 1 for yes and 0 for no
  pub answered : (yes : Bool) → Answers a 0 (yes_no yes)
      ↔ ((c : Read card) × ((q : Understood question c.0) × (Seated c.0 seats × (yes ≡ holds_on (seating_of c.0 seats) q.0))))
  -- 1 to 7, or 17, and the place on the card
  pub wrong_card : (number place : ℕ) → 1 ≤ number → OfCard number → Answers a number place ↔ (read_of card ≡ turned number place)
  -- 21 to 26 and the place in the question
  pub wrong_question : (number place : ℕ) → 21 ≤ number → number ≤ 26
      → Answers a number place ↔ ((c : Read card) × (question_said question c.0 ≡ refused number place))
  -- 8 and 0; 9 and the first seat above k, or place n for the shared number
  pub wrong_count : (place : ℕ) → Answers a wrong_seats place
      ↔ ((c : Read card) × (Understood question c.0 × ((length seats ≡ seats_due c.0 → ⊥) × (place ≡ 0))))
  pub wrong_seat : (place : ℕ) → Answers a seat_above_top place
      ↔ ((c : Read card) × (Understood question c.0 × ((length seats ≡ seats_due c.0) × FirstWrong c.0 seats place)))
  pub no_other : ((a.number ≤ seat_above_top) ⊎ (a.number ≡ decimal_weight)) ⊎ ((21 ≤ a.number) × (a.number ≤ 26))

pub record Questions : Type 0 where
  pub meaning : QuestionMeaning
  pub readings : QuestionReadings
  -- for any bytes: the card's 1 to 7 and 17, the question's 21 to 26, 8, 9, yes or no, each exactly where it is due, and in this order
  pub answers : (card question seats : List ℕ) → Asks as_said card question seats (ask_said card question seats)
  pub for_c : (card question seats : List ℕ) (a : OpenPanelAnswer) → a ≡ answered_numbers (ask_said card question seats) → AskTells card question seats a
