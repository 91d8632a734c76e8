-- What `ask` answers, refusal by refusal: each is that of the stage which gives its number, where the stages before it pass; by the theorem of
-- stages, since no two stages share a number. Assumes nothing.
use Prim.Native.Nat.{ℕ, ◌≤◌}
use mathlib.Core.Path.{◌≡◌, refl, sym, ap, ◌∙◌}
use mathlib.Core.Bool.{Bool, true, false}
use mathlib.Core.Logic.{◌⊎◌, inl, inr, ◌↔◌}
use mathlib.Core.List.{List, ◌++◌}
use native.Mathlib.Omega.{arith}
use Rattle.card.specs.Refusals.{too_long, not_due, wrong_seats, seat_above_top, decimal_weight}
use Rattle.card.specs.Card.{Card}
use Rattle.card.specs.Valid.{values_of}
use Rattle.entry.specs.Said.{Said, says, refused}
use Rattle.entry.specs.Numbers.{among}
use Rattle.entry.specs.Contract.{Enters, lent_nothing, Faithful}
use Rattle.entry.specs.Stage.{Stage}
use Rattle.entry.proofs.Stages.{in_span, apart_out, itself, value, followed, its, beyond, last, by_span}
use Rattle.entry.proofs.Exactly.{◌↔∙◌}
use Rattle.entry.proofs.Entries.{says_exactly, refused_exactly}
use Rattle.seating.specs.Judged.{seating_of, Seated}
use Rattle.seating.specs.SeatsSaid.{seats_numbers}
use Rattle.seating.proofs.SeatsStage.{seats_stage, wrong_count, wrong_seat}
use Rattle.rows.specs.Said.{card_numbers, Read}
use Rattle.rows.proofs.Theorems.{card_stage, card_first}
use Rattle.asking.specs.Meant.{Question, holds_on}
use Rattle.asking.specs.Asking.{in_question}
use Rattle.asking.proofs.Answers.{numbered}
use Rattle.ask_said.specs.AskSaid.{question_said, question_numbers, ask_seated, ask_card, ask_said, Understood, Asks}

module _ (card question seats : List ℕ) where
  asked : (c : Card) → Stage (question_said question c) question_numbers (Understood question c) (λ u. u.0)
  asked c = itself (record { number = λ r p e. let (l, m) = numbered c.n c.k (values_of c.shared) question r p e in rw (in_span (in_question too_long) (in_question not_due) r l m) })

  seated : (c : Card) (q : Question) → Stage (ask_seated seats c q) seats_numbers (Seated c seats) (λ _. holds_on (seating_of c seats) q)
  seated c q = value (seats_stage seats c) (λ _. holds_on (seating_of c seats) q)

  -- a number of the question's is its refusal, whatever the seats are
  question_first : (c : Card) (r p : ℕ) → among seats_numbers r ≡ false → (ask_card question seats c ≡ refused r p) ↔ (question_said question c ≡ refused r p)
  question_first c r p h = its (asked c) (ask_seated seats c) (λ u. (seated c u).numbers) r p h

  behind : (c : Card) → Stage (ask_card question seats c) (question_numbers ++ seats_numbers) ((u : Understood question c) × Seated c seats) (λ z. holds_on (seating_of c seats) z.0.0)
  behind c = followed (asked c) (ask_seated seats c) (λ q. (seated c q).numbers) (λ u. (seated c u.0).found)

  pub said : Stage (ask_said card question seats) (card_numbers ++ (question_numbers ++ seats_numbers))
      ((w : Read card) × ((u : Understood question w.0) × Seated w.0 seats)) (λ z. holds_on (seating_of z.0.0 seats) z.1.0.0)
  unfolding ask_said
  said = followed (card_stage card) (ask_card question seats) (λ c. (behind c).numbers) (λ w. (behind w.0).found)

  other : (r p : ℕ) → ask_said card question seats ≡ refused r p → ((r ≤ seat_above_top) ⊎ (r ≡ decimal_weight)) ⊎ ((in_question too_long ≤ r) × (r ≤ in_question not_due))
  other r p e = by_span (card_numbers ++ (question_numbers ++ seats_numbers)) r (said.numbers.number r p e)
      ((λ l m. inl (inl (omega arith))), ((λ l m. inl (inr (omega arith))), ((λ l m. inr (l, m)), ((λ l m. inl (inl m)), tt))))

  module _ {T : Type 0} {tell : Said Bool → T} (faithful : Faithful tell) {a : T} (e : Enters lent_nothing tell tt tt (ask_said card question seats) a) where
    pub asks : Asks tell card question seats a
    unfolding ask_said
    asks = record {
      wrong_card = λ r p l. refused_exactly faithful e r p ↔∙ card_first card (ask_card question seats) (λ c. (behind c).numbers) r p l refl;
      wrong_question = λ r p l m.
          let q : among question_numbers r ≡ true = rw (in_span (in_question too_long) (in_question not_due) r l m) in
          refused_exactly faithful e r p
          ↔∙ beyond (card_stage card) (ask_card question seats) r p (apart_out question_numbers card_numbers r refl q)
          (λ w. question_first w.0 r p (apart_out question_numbers seats_numbers r refl q));
      wrong_count = λ p. refused_exactly faithful e wrong_seats p ↔∙ beyond (card_stage card) (ask_card question seats) wrong_seats p refl (λ w.
          beyond (asked w.0) (ask_seated seats w.0) wrong_seats p refl (λ u. last (seats_stage seats w.0) (λ _. holds_on (seating_of w.0 seats) u.0) wrong_seats p ↔∙ wrong_count seats w.0 p));
      wrong_seat = λ p. refused_exactly faithful e seat_above_top p ↔∙ beyond (card_stage card) (ask_card question seats) seat_above_top p refl (λ w.
          beyond (asked w.0) (ask_seated seats w.0) seat_above_top p refl (λ u. last (seats_stage seats w.0) (λ _. holds_on (seating_of w.0 seats) u.0) seat_above_top p ↔∙ wrong_seat seats w.0 p));
      answered = λ yes. says_exactly faithful e yes ↔∙ (
        (λ h. let (z, at) = said.found.only yes h in (z.0, (z.1.0, (z.1.1, at)))),
        (λ h. said.found.each (h.0, (h.1.0, h.1.1.0)) ∙ ap says (sym h.1.1.1)),
      );
      no_other = λ r p h. other r p ((refused_exactly faithful e r p).0 h);
    }
