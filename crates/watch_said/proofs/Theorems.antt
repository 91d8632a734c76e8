-- What `watch` answers, refusal by refusal: each is that of the stage which gives its number, where the stages before it pass; by the theorem of
-- stages, since no two stages share a number. Assumes nothing.
use Prim.Native.Nat.{ℕ, ◌≤◌}
use mathlib.Core.Path.{◌≡◌, refl}
use mathlib.Core.Logic.{◌⊎◌, inl, inr}
use mathlib.Core.List.{List, ◌++◌}
use native.Mathlib.Omega.{arith}
use Rattle.card.specs.Refusals.{wrong_seats, seat_above_top, room_too_small, wrong_classes, decimal_weight}
use Rattle.card.specs.Card.{Card}
use Rattle.entry.specs.Said.{Said, refused}
use Rattle.entry.specs.Numbers.{Numbers, only}
use Rattle.entry.specs.Contract.{Enters, in_room, stored, Faithful, InRoom}
use Rattle.entry.specs.Stage.{Stage}
use Rattle.entry.proofs.Stages.{among_then, value, followed, its, beyond, last, by_span}
use Rattle.entry.proofs.Exactly.{◌↔∙◌}
use Rattle.entry.proofs.Entries.{answer_refused, among_stored, in_room_law, before_room}
use Rattle.seating.specs.Judged.{seating_of, Seated}
use Rattle.seating.specs.SeatsSaid.{seats_numbers}
use Rattle.seating.proofs.SeatsStage.{seats_stage, wrong_count, wrong_seat}
use Rattle.rows.specs.Said.{card_numbers}
use Rattle.rows.proofs.Theorems.{of_card, card_stage, card_first}
use Rattle.classes.specs.Classes.{ValidClasses, watch_of}
use Rattle.classes.specs.ClassesSaid.{classes_numbers}
use Rattle.classes.proofs.ClassesStage.{classes_stage, wrong_classes_law}
use Rattle.watch_said.specs.WatchSaid.{watch_seated, watch_card, watch_said}
use Rattle.watch_said.specs.Watches.{Watched, line_of, Watches}

module _ (card seats list : List ℕ) where
  listed : (c : Card) → Stage (watch_seated seats list c) classes_numbers (ValidClasses c.k list) (λ _. watch_of list (seating_of c seats))
  listed c = value (classes_stage list c) (λ _. watch_of list (seating_of c seats))

  seated : (c : Card) → Stage (watch_card seats list c) (seats_numbers ++ classes_numbers) (Seated c seats × ValidClasses c.k list) (λ _. watch_of list (seating_of c seats))
  seated c = followed (seats_stage seats c) (λ _. watch_seated seats list c) (λ _. (listed c).numbers) (λ _. (listed c).found)

  abbrev numbers_said : Numbers
  numbers_said = card_numbers ++ (seats_numbers ++ classes_numbers)

  pub said : Stage (watch_said card seats list) numbers_said (Watched card seats list) (λ w. line_of seats list w.0.0)
  unfolding watch_said
  said = followed (card_stage card) (watch_card seats list) (λ c. (seated c).numbers) (λ w. (seated w.0).found)

  other : (was : List ℕ) (r p : ℕ) → in_room was (watch_said card seats list) ≡ refused r p → (r ≤ room_too_small) ⊎ (r ≡ wrong_classes) ⊎ (r ≡ decimal_weight)
  other was r p e = by_span (numbers_said ++ only room_too_small) r ((among_then (watch_said card seats list) (stored was) said.numbers (among_stored was)).number r p e)
      ((λ l m. inl (omega arith)), ((λ l m. inr (inr (omega arith))), ((λ l m. inl (omega arith)), ((λ l m. inr (inl (omega arith))), ((λ l m. inl m), tt)))))

  module _ {T : Type 0} {tell : Said ℕ → T} (faithful : Faithful tell) {was is : List ℕ} {a : T} (e : Enters in_room tell was is (watch_said card seats list) a) where
    in_its_room : InRoom tell (Watched card seats list) (λ w. line_of seats list w.0.0) was is a
    in_its_room = in_room_law faithful e said refl

    pub watches : Watches tell card seats list was is a
    unfolding watch_said
    watches = record {
      wrong_card = λ r p l. before_room faithful e r p (of_card (only room_too_small) r l refl) ↔∙ card_first card (watch_card seats list) (λ c. (seated c).numbers) r p l refl;
      wrong_count = λ p. before_room faithful e wrong_seats p refl ↔∙ beyond (card_stage card) (watch_card seats list) wrong_seats p refl (λ w.
          its (seats_stage seats w.0) (λ _. watch_seated seats list w.0) (λ _. (listed w.0).numbers) wrong_seats p refl ↔∙ wrong_count seats w.0 p);
      wrong_seat = λ p. before_room faithful e seat_above_top p refl ↔∙ beyond (card_stage card) (watch_card seats list) seat_above_top p refl (λ w.
          its (seats_stage seats w.0) (λ _. watch_seated seats list w.0) (λ _. (listed w.0).numbers) seat_above_top p refl ↔∙ wrong_seat seats w.0 p);
      wrong_list = λ p. before_room faithful e wrong_classes p refl ↔∙ beyond (card_stage card) (watch_card seats list) wrong_classes p refl (λ w.
          beyond (seats_stage seats w.0) (λ _. watch_seated seats list w.0) wrong_classes p refl (λ _.
          last (classes_stage list w.0) (λ _. watch_of list (seating_of w.0 seats)) wrong_classes p ↔∙ wrong_classes_law list w.0 p));
      small_room = in_its_room.small_room;
      done = in_its_room.done;
      stands = in_its_room.stands;
      no_other = λ r p h. other was r p ((answer_refused e faithful r p).0 h);
      untouched = in_its_room.untouched;
    }
