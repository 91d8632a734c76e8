-- Document 02, 2026-07: which statement is given to those who ask who may move, and what is answered for any bytes. The words on the right of an `↔`
-- are in `moving/specs` and `move_said/specs`. Assumes nothing.
use Rattle.std.specs.Prelude.{ℕ, ◌≤◌, ◌≡◌, ◌↔◌, ◌⊎◌, List, [], ◌∷◌, ◌++◌, length}
use Rattle.std.proofs.Math.Option.{none, some}
use Rattle.card.specs.Refusals.{wrong_seats, seat_above_top, OfCard, decimal_weight}
use Rattle.card.specs.Card.{nondeterministic, Statement, Card}
use Rattle.reading.specs.Reading.{taken, refused as turned, read_of}
use Rattle.meaning.specs.Position.{Position}
use Rattle.meaning.specs.Seats.{Seating, ValidSeating, counted, Stuck}
use Rattle.meaning.specs.Panel.{Panel, panel}
use Rattle.meaning.specs.Reordered.{Reordered}
use Rattle.entry.specs.Said.{refused}
use Rattle.seating.specs.Judged.{seats_due, FirstWrong, seating_of, Seated, bytes_of}
use Rattle.rows.specs.Said.{Read}
use Rattle.phrases.specs.Phrases.{◌▸◌, num, mode_word}
use Rattle.panel_wording.specs.PanelText.{line, shared_text, panel_of}
use Rattle.panel_said.specs.PanelSaid.{panel_said}
use Rattle.moving.specs.FirstMove.{first_move, first_at}
use Rattle.moving.specs.FirstTaken.{FirstTaken}
use Rattle.moving.specs.Shown.{FirstChoice}
use Rattle.able_seats.specs.Moved.{FirstMove}
use Rattle.move_said.specs.MoveSaid.{move_said, Moves}
use Rattle.able_seats.specs.Moved.{moved}
use Rattle.answers.specs.declared.OpenPanelAnswer.{OpenPanelAnswer}
use Rattle.tablet.specs.Moves.{moved_numbers}
use Rattle.entry_promises.specs.ForC.{Answers}

-- ---- which statement

-- a panel's lines up to its counts and the shared number, and what stands behind them
abbrev pub behind_counts : Panel → List ℕ → List ℕ
behind_counts p rest = mode_word p.mode ▸ "\nseats " ▸ num p.seats (line " enabled" (p.enabled ∷ []) (line "counts" p.counts (shared_text p.shared rest)))

pub record MoveMeaning : Type 0 where
  -- the full walk gives statement q exactly if some seat may take it and none may take one before it
  pub first : (c : Card) (x : Seating) (q : ℕ) → (first_move c x ≡ some q) ↔ FirstTaken c.statements x q
  -- and none exactly where the seating is stuck
  pub nobody : (c : Card) (x : Seating) → (first_move c x ≡ none) ↔ Stuck c x
  -- a walk over counts that stops at the first gives the same
  pub by_counts : (c : Card) (x : Seating) → ValidSeating c x → first_move c x ≡ first_at c.n (counted c.k x) 1 c.statements
  -- what stands behind makes no difference
  pub rest_unread : (n : ℕ) (v : Position) (p q : ℕ) (l m : List Statement) → first_at n v p l ≡ some q → first_at n v p (l ++ m) ≡ some q
  -- equal counts give the same, and so do the same seats in another order
  pub equal_counts : (c : Card) (x y : Seating) → ValidSeating c x → ValidSeating c y → counted c.k x ≡ counted c.k y → first_move c x ≡ first_move c y
  pub reordered : (c : Card) {x y : Seating} → Reordered x y → ValidSeating c x → first_move c x ≡ first_move c y
  -- on a nondeterministic card the panel's first choice stands under it, where the seating is not stuck
  pub shown : (c : Card) (x : Seating) → c.mode ≡ nondeterministic → (Stuck c x → ⊥) → FirstChoice (panel c x).blocks (first_move c x)
  -- so the first line behind them is `choice` and its place
  pub shown_text : (c : Card) (x : Seating) (q : ℕ) → c.mode ≡ nondeterministic → first_move c x ≡ some q
      → (rest : List ℕ) × (panel_of c x ≡ behind_counts (panel c x) (line "choice" (q ∷ []) rest))

-- ---- what is answered

-- the name for C: its answer in numbers
pub record MoveTells (card seats : List ℕ) (a : OpenPanelAnswer) : Type 0 where
  -- 0 and the statement's place, from 1
  pub statement : (q : ℕ) → 1 ≤ q → Answers a 0 q ↔ ((c : Read card) × (Seated c.0 seats × FirstTaken c.0.statements (seating_of c.0 seats) q))
  -- 0 and 0 for nobody
  pub nobody : Answers a 0 0 ↔ ((c : Read card) × (Seated c.0 seats × Stuck c.0 (seating_of c.0 seats)))
  -- 1 to 7, or 17, and the place on the card
  pub wrong_card : (number place : ℕ) → 1 ≤ number → OfCard number → Answers a number place ↔ (read_of card ≡ turned number place)
  -- 8 and 0; 9 and the first seat above k, or place n for the shared number
  pub wrong_count : (place : ℕ) → Answers a wrong_seats place ↔ ((c : Read card) × ((length seats ≡ seats_due c.0 → ⊥) × (place ≡ 0)))
  pub wrong_seat : (place : ℕ) → Answers a seat_above_top place ↔ ((c : Read card) × ((length seats ≡ seats_due c.0) × FirstWrong c.0 seats place))
  pub no_other : (a.number ≤ seat_above_top) ⊎ (a.number ≡ decimal_weight)

pub record FirstMoves : Type 0 where
  pub meaning : MoveMeaning
  -- for any bytes: the card's 1 to 7 and 17, 8, 9, a statement or nobody, each exactly where it is due, and in this order
  pub answers : (card seats : List ℕ) (a : FirstMove) → a ≡ moved (move_said card seats) → Moves moved card seats a
  pub for_c : (card seats : List ℕ) (a : OpenPanelAnswer) → a ≡ moved_numbers (move_said card seats) → MoveTells card seats a
  -- its refusals are the panel's, with their places
  pub as_panel : (card seats : List ℕ) (number place : ℕ) → (move_said card seats ≡ refused number place) ↔ (panel_said card seats ≡ refused number place)
  -- the seats of a card in another order get the same answer
  pub reordered : (card : List ℕ) (c : Card) → read_of card ≡ taken c → {x y : Seating} → Reordered x y → ValidSeating c x → move_said card (bytes_of c x) ≡ move_said card (bytes_of c y)
