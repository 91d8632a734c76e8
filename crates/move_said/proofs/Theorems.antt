-- What `first_move` answers, refusal by refusal: each is that of the stage which gives its number, where the stages before it pass; and what is found
-- is the first statement that can be taken, or nobody on a stuck seating. Assumes nothing.
use Prim.Native.Nat.{ℕ}
use mathlib.Core.Path.{◌≡◌, refl, sym, ap, ◌∙◌}
use mathlib.Core.Logic.{inl, inr}
use mathlib.Core.List.{List, ◌++◌}
use mathlib.Core.Option.{Option, none, some}
use native.Mathlib.Omega.{arith}
use Rattle.card.specs.Refusals.{wrong_seats, seat_above_top}
use Rattle.card.proofs.Verdicts.{refused_number, refused_place}
use Rattle.card.specs.Card.{Card}
use Rattle.entry.specs.Said.{Said, says, refused}
use Rattle.entry.specs.Contract.{Enters, lent_nothing, Faithful}
use Rattle.entry.specs.Stage.{Stage}
use Rattle.entry.proofs.Stages.{value, followed, beyond, last, by_span}
use Rattle.entry.proofs.Exactly.{◌↔∙◌}
use Rattle.entry.proofs.Entries.{says_exactly, refused_exactly}
use Rattle.seating.specs.Judged.{seating_of, Seated}
use Rattle.seating.specs.SeatsSaid.{seats_numbers}
use Rattle.seating.proofs.SeatsStage.{seats_stage, wrong_count, wrong_seat}
use Rattle.rows.specs.Said.{card_numbers, Read}
use Rattle.rows.proofs.Theorems.{card_stage, card_first}
use Rattle.moving.specs.FirstMove.{first_move}
use Rattle.moving.proofs.FirstTaken.{first_exactly, nobody_exactly}
use Rattle.move_said.specs.MoveSaid.{move_seated, move_said, Moves}
use Rattle.able_seats.specs.Moved.{moved}

module _ (card seats : List ℕ) where
  seated : (c : Card) → Stage (move_seated seats c) seats_numbers (Seated c seats) (λ _. first_move c (seating_of c seats))
  seated c = value (seats_stage seats c) (λ _. first_move c (seating_of c seats))

  pub said : Stage (move_said card seats) (card_numbers ++ seats_numbers) ((w : Read card) × Seated w.0 seats) (λ z. first_move z.0.0 (seating_of z.0.0 seats))
  unfolding move_said
  said = followed (card_stage card) (move_seated seats) (λ c. (seated c).numbers) (λ w. (seated w.0).found)

  module _ {T : Type 0} {tell : Said (Option ℕ) → T} (faithful : Faithful tell) {a : T} (e : Enters lent_nothing tell tt tt (move_said card seats) a) where
    pub moves : Moves tell card seats a
    unfolding move_said
    moves = record {
      wrong_card = λ r p l. refused_exactly faithful e r p ↔∙ card_first card (move_seated seats) (λ c. (seated c).numbers) r p l refl;
      wrong_count = λ p. refused_exactly faithful e wrong_seats p ↔∙ beyond (card_stage card) (move_seated seats) wrong_seats p refl (λ w.
          last (seats_stage seats w.0) (λ _. first_move w.0 (seating_of w.0 seats)) wrong_seats p ↔∙ wrong_count seats w.0 p);
      wrong_seat = λ p. refused_exactly faithful e seat_above_top p ↔∙ beyond (card_stage card) (move_seated seats) seat_above_top p refl (λ w.
          last (seats_stage seats w.0) (λ _. first_move w.0 (seating_of w.0 seats)) seat_above_top p ↔∙ wrong_seat seats w.0 p);
      statement = λ q. says_exactly faithful e (some q) ↔∙ (
        (λ h. let (z, at) = said.found.only (some q) h in (z.0, (z.1, (first_exactly z.0.0 (seating_of z.0.0 seats) q).0 (sym at)))),
        (λ h. said.found.each (h.0, h.1.0) ∙ ap says ((first_exactly h.0.0 (seating_of h.0.0 seats) q).1 h.1.1)),
      );
      nobody = says_exactly faithful e none ↔∙ (
        (λ h. let (z, at) = said.found.only none h in (z.0, (z.1, (nobody_exactly z.0.0 (seating_of z.0.0 seats)).0 (sym at)))),
        (λ h. said.found.each (h.0, h.1.0) ∙ ap says ((nobody_exactly h.0.0 (seating_of h.0.0 seats)).1 h.1.1)),
      );
      no_other = λ r p h. by_span (card_numbers ++ seats_numbers) r (said.numbers.number r p ((refused_exactly faithful e r p).0 h))
          ((λ l m. inl (omega arith)), ((λ l m. inr (omega arith)), ((λ l m. inl m), tt)));
    }

-- ---- no two things said have the same answer

pub moved_faithful : Faithful moved
moved_faithful (says (some a)) (says (some b)) e = let z : a ≡ b = cc in rw z
moved_faithful (says (some a)) (says none) e = let z : ◌≡◌ {A = ℕ} 0 1 = cc in absurd (omega arith)
moved_faithful (says (some a)) (refused r p) e = let z : ◌≡◌ {A = ℕ} 0 1 = cc in absurd (omega arith)
moved_faithful (says none) (says (some b)) e = let z : ◌≡◌ {A = ℕ} 0 1 = cc in absurd (omega arith)
moved_faithful (says none) (says none) e = refl
moved_faithful (says none) (refused r p) e = let z : ◌≡◌ {A = ℕ} 0 1 = cc in absurd (omega arith)
moved_faithful (refused r p) (says (some b)) e = let z : ◌≡◌ {A = ℕ} 0 1 = cc in absurd (omega arith)
moved_faithful (refused r p) (says none) e = let z : ◌≡◌ {A = ℕ} 0 1 = cc in absurd (omega arith)
moved_faithful (refused r p) (refused s q) e = rw (refused_number e, refused_place e)
