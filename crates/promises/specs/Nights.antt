-- Document 02, 2026-08 and 2026-10: what the odds after several nights are worth, in which order the count vectors stand, each with the values of the
-- shared number, what both rows hold, and what is answered for any bytes. The words on the right of an `↔` are in `chances/specs`. Assumes nothing.
use Rattle.std.specs.Prelude.{ℕ, suc, ◌*◌, ◌≤◌, ◌<◌, ◌≡◌, true, false, ◌↔◌, ◌⊎◌, List, length, get_or}
use Rattle.card.specs.Limits.{unit}
use Rattle.card.specs.Refusals.{wrong_seats, seat_above_top, OfCard}
use Rattle.card.specs.Card.{Card}
use Rattle.card.specs.Valid.{Every}
use Rattle.card.specs.Laid.{zeros}
use Rattle.reading.specs.Reading.{taken, refused as turned, read_of}
use Rattle.meaning.specs.Position.{Position, shared_values}
use Rattle.meaning.specs.Seats.{Seating, ValidSeating, counted}
use Rattle.meaning.specs.Reordered.{Reordered}
use Rattle.entry.specs.Said.{Said, refused}
use Rattle.entry.specs.Contract.{Ends, Two, Enters, in_rows}
use Rattle.seating.specs.Judged.{seats_due, FirstWrong, seating_of, Seated, bytes_of}
use Rattle.rows.specs.Said.{Read}
use Rattle.room.specs.Answer.{told}
use Rattle.room.specs.Answer.{Answer}
use Rattle.asking.specs.Meant.{Question}
use Rattle.ask_said.specs.AskSaid.{question_said, Understood}
use Rattle.evenings.specs.Limits.{most_nights, most_vectors}
use Rattle.evenings.specs.Rounds.{Aim, largest, smallest, aim_of, extreme}
use Rattle.evenings.specs.Best.{IsBest}
use Rattle.evenings.specs.Scales.{bottom, exactly}
use Rattle.vectors.specs.Vectors.{ways}
use Rattle.listed.specs.Listed.{Listed}
use Rattle.chances.specs.Chances.{chance_at, positions_of, PositionOf, held_for, round_row, row_before}
use Rattle.chances.specs.Chance.{Chance}
use Rattle.odds_said.specs.OddsSaid.{odds_said, Fits, Odds}
use Rattle.odds_edges.specs.OddsEdges.{OddsEdges}
use Rattle.answers.specs.declared.OpenPanelAnswer.{OpenPanelAnswer}
use Rattle.answers.specs.Aims.{aim_by}
use Rattle.tablet.specs.Rows.{RowsTold}
use Rattle.entry_promises.specs.ForC.{Answers}

-- ---- what the value is

pub record OddsMeaning : Type 1 where
  -- of every card that is taken, question and valid seating: close to the exact chance from below, the same by seats, a chance, and more
  pub chance : (card : List ℕ) (c : Read card) (q : Question) (a : Aim) (m : ℕ) (x : Seating) → ValidSeating c.0 x → Chance c.0 q a m x
  -- the exact mean over e turns is the sum over (e × unit): the denominator of the next round is that of this one times `bottom`
  pub exact_mean : (most e s : ℕ) → 1 ≤ e → e ≤ most → e * unit * (exactly most).mean e s ≡ s * bottom most
  -- the extreme of some chances is one of them, and bounds them all
  pub best : {A : Type 0} (a : Aim) (top : ℕ) (f : A → ℕ) (l : List A) → 1 ≤ length l → Every (λ x. f x ≤ top) l → IsBest a f l (extreme a top f l)
  -- what the caller's flag asks for, and in C a byte: the smallest by 0, the largest by any other
  pub aims : (aim_of true ≡ largest) × (aim_of false ≡ smallest)
  pub aims_for_c : (aim_by 0 ≡ smallest) × ((b : ℕ) → aim_by (suc b) ≡ largest)
  -- all count vectors with each value of the shared number, none twice, rising; how many there are
  pub listed : (c : Card) → Listed (suc c.k) c.n (shared_values c.shared)
  pub how_many : (c : Card) → length (positions_of c) ≡ ways (suc c.k) c.n * shared_values c.shared
  -- they are the counts of the seatings
  pub of_seatings : (c : Card) (v : Position) → PositionOf c v ↔ ((x : Seating) × ValidSeating c x × (counted c.k x ≡ v))
  -- a row has the round's value at the place of each, and zeros behind them; where they are few enough it has 512 numbers
  pub in_row : (c : Card) (q : Question) (a : Aim) (m : ℕ) (v : Position) → PositionOf c v → held_for c (round_row c q a m) v ≡ chance_at c q a m v
  pub behind : (c : Card) (q : Question) (a : Aim) (m i : ℕ) → length (positions_of c) ≤ i → get_or (round_row c q a m) i 0 ≡ 0
  pub long : (c : Card) (q : Question) (a : Aim) (m : ℕ) → length (positions_of c) ≤ most_vectors → length (round_row c q a m) ≡ most_vectors
  -- the row before: of the round before; before the first all zeros
  pub none_before : (c : Card) (q : Question) (a : Aim) → row_before c q a 0 ≡ zeros most_vectors
  pub before : (c : Card) (q : Question) (a : Aim) (m : ℕ) → row_before c q a (suc m) ≡ round_row c q a m
  pub edges : OddsEdges

-- ---- what is answered

-- the name for C: its answer in numbers, and the two lent rows, which were `was` and are `is`
pub record OddsTells (card question seats : List ℕ) (m : ℕ) (aim : Aim) (was is : Two (List ℕ)) (a : OpenPanelAnswer) : Type 0 where
  -- 0 and the value in millionths
  pub answered : (value : ℕ) → Answers a 0 value
      ↔ ((c : Read card) × ((q : Understood question c.0) × (Fits c.0 seats m was × (value ≡ chance_at c.0 q.0 aim m (counted c.0.k (seating_of c.0 seats))))))
  -- which stands in the first row at the place of the seating's counts
  pub stands : (c : Read card) (q : Understood question c.0) → Fits c.0 seats m was → Answers a 0 (held_for c.0 is.first (counted c.0.k (seating_of c.0 seats)))
  -- the first row holds round m, the second the round before it, or zeros
  pub first_holds : (c : Read card) (q : Understood question c.0) → Fits c.0 seats m was → is.first ≡ round_row c.0 q.0 aim m
  pub second_holds : (c : Read card) (q : Understood question c.0) → Fits c.0 seats m was → is.second ≡ row_before c.0 q.0 aim m
  -- 1 to 7, or 17, and the place on the card; 21 to 26 and the place in the question
  pub wrong_card : (number place : ℕ) → 1 ≤ number → OfCard number → Answers a number place ↔ (read_of card ≡ turned number place)
  pub wrong_question : (number place : ℕ) → 21 ≤ number → number ≤ 26
      → Answers a number place ↔ ((c : Read card) × (question_said question c.0 ≡ refused number place))
  -- 8 and 0; 9 and the first seat above k, or place n for the shared number
  pub wrong_count : (place : ℕ) → Answers a wrong_seats place
      ↔ ((c : Read card) × (Understood question c.0 × ((length seats ≡ seats_due c.0 → ⊥) × (place ≡ 0))))
  pub wrong_seat : (place : ℕ) → Answers a seat_above_top place
      ↔ ((c : Read card) × (Understood question c.0 × ((length seats ≡ seats_due c.0) × FirstWrong c.0 seats place)))
  -- 14, 15 and 16, each with 0
  pub too_many_vectors_holds : (place : ℕ) → Answers a 14 place
      ↔ ((c : Read card) × (Understood question c.0 × (Seated c.0 seats × ((most_vectors < length (positions_of c.0)) × (place ≡ 0)))))
  pub too_many_nights_holds : (place : ℕ) → Answers a 15 place
      ↔ ((c : Read card) × (Understood question c.0 × (Seated c.0 seats × ((length (positions_of c.0) ≤ most_vectors) × ((most_nights < m) × (place ≡ 0))))))
  pub wrong_rows : (place : ℕ) → Answers a 16 place
      ↔ ((c : Read card) × (Understood question c.0 × (Seated c.0 seats × ((length (positions_of c.0) ≤ most_vectors)
      × ((m ≤ most_nights) × (((length was.first ≡ most_vectors) × (length was.second ≡ most_vectors) → ⊥) × (place ≡ 0)))))))
  pub no_other : ((a.number ≤ seat_above_top) ⊎ ((14 ≤ a.number) × (a.number ≤ 17))) ⊎ ((21 ≤ a.number) × (a.number ≤ 26))
  -- no refusal touches the rows
  pub untouched : (a.number ≡ 0 → ⊥) → is ≡ was

pub record Nights : Type 1 where
  pub meaning : OddsMeaning
  -- for any bytes, any number of steps and any rows: each refusal exactly where it is due, in document 02's order, or the value with both rows
  pub answers : (card question seats : List ℕ) (m : ℕ) (aim : Aim) (was is : Two (List ℕ)) (a : Answer)
      → Enters in_rows told was is (odds_said card question seats m aim (length was.first) (length was.second)) a → Odds told card question seats m aim was is a
  pub for_c : (card question seats : List ℕ) (m : ℕ) (aim : Aim) (was is : Two (List ℕ)) (a : OpenPanelAnswer)
      → RowsTold was is (odds_said card question seats m aim (length was.first) (length was.second)) a
      → OddsTells card question seats m aim was is a
  -- two answers that keep the contract are the same, and so are the rows
  pub unique : {T : Type 0} (tell : Said ℕ → T) (said : Said (Ends ℕ (Two (List ℕ)))) (was is₁ is₂ : Two (List ℕ)) (a₁ a₂ : T)
      → Enters in_rows tell was is₁ said a₁ → Enters in_rows tell was is₂ said a₂ → (a₁ ≡ a₂) × (is₁ ≡ is₂)
  -- the seats of a card in another order get the same
  pub reordered : (card : List ℕ) (c : Card) → read_of card ≡ taken c → (question : List ℕ) (m : ℕ) (aim : Aim) (long long₁ : ℕ) {x y : Seating} → Reordered x y → ValidSeating c x
      → odds_said card question (bytes_of c x) m aim long long₁ ≡ odds_said card question (bytes_of c y) m aim long long₁
