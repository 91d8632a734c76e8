-- What `watch` says, stage by stage: the card's refusal, the seats', the list's, or the line of the class counts. Assumes nothing.
use Prim.Native.Nat.{ℕ, ◌≤◌}
use mathlib.Core.Path.{◌≡◌, refl, sym, ap, subst, ◌∙◌}
use mathlib.Core.List.{List}
use native.Mathlib.Omega.{arith}
use lib.ListN.{length, take}
use Rattle.card.specs.Limits.{most_seats}
use Rattle.card.specs.Valid.{values_of}
use Rattle.card.specs.Lent.{Lent, card_in}
use Rattle.std.specs.Prelude.{Ok, Err}
use Rattle.card.specs.Verdict.{Verdict, Taken}
use Rattle.card.specs.declared.Head.{Head}
use Rattle.card.specs.declared.Refusal.{Refusal}
use Rattle.card.proofs.HeldIn.{holds_seats}
use Rattle.entry.specs.Said.{says as text, refused}
use Rattle.meaning.specs.Seats.{Seating, ValidSeating}
use Rattle.seating.specs.Judged.{judged_seats, seating_of}
use Rattle.seating.proofs.Judging.{valid_exactly}
use Rattle.seating.proofs.Heads.{judged_in}
use Rattle.outline.specs.ReadingOf.{ReadsInto}
use Rattle.outline.proofs.ReadInto.{taken_holds, refused_said, taken_said}
use Rattle.classes.specs.Classes.{class_counts, classes_text, watch_of}
use Rattle.classes.specs.ClassesSaid.{judged_classes}
use Rattle.classes.specs.ClassesRoom.{classes_room}
use Rattle.classes.proofs.ClassesStage.{fine_exactly}
use Rattle.classes.proofs.Line.{fits}
use Rattle.watch_said.specs.WatchSaid.{watch_card, watch_said}

-- ---- the stages

module _ (card seats list : List ℕ) where
  -- the card is refused
  pub card_refused : {e : Refusal} {x : Lent} → ReadsInto card (Err e) x → watch_said card seats list ≡ refused e.number e.place
  unfolding watch_said
  card_refused h = refused_said card h (watch_card seats list) refl

  -- it is taken
  module _ {head : Head} {x : Lent} (h : ReadsInto card (Ok head) x) where
    judged : {s : Verdict} → s ≡ judged_seats head.seats head.top head.shared seats → s ≡ judged_seats head.seats head.top (values_of (card_in head x).shared) seats
    judged e = judged_in head x seats e

    -- the seats are refused
    pub seats_refused : {d : Refusal} → Err d ≡ judged_seats head.seats head.top head.shared seats → watch_said card seats list ≡ refused d.number d.place
    unfolding watch_said
    seats_refused e = sym (taken_said card h (watch_card seats list) refl) ∙ rw (← judged e)

    module _ (fine : Taken ≡ judged_seats head.seats head.top head.shared seats) where
      -- the list is refused
      pub list_refused : {d : Refusal} → Err d ≡ judged_classes head.top list → watch_said card seats list ≡ refused d.number d.place
      unfolding watch_said
      list_refused e = sym (taken_said card h (watch_card seats list) refl) ∙ rw (← judged fine, ← e)

      module _ (of-list : Taken ≡ judged_classes head.top list) {v : List ℕ} (counts-are : v ≡ class_counts list (take head.seats seats)) where
        abbrev the_seats : Seating
        the_seats = seating_of (card_in head x) seats

        the_line : watch_of list the_seats ≡ classes_text v
        unfolding watch_of
        the_line = ap classes_text (sym counts-are)

        seating : ValidSeating (card_in head x) the_seats
        seating = ((valid_exactly (card_in head x) seats).0 (sym (judged fine))).valid

        few : length the_seats.each ≤ most_seats
        few = omega (arith, seating.seats, holds_seats (taken_holds card h refl))

        pub line_fits : length (classes_text v) ≤ classes_room
        unfolding watch_of
        line_fits =
            subst (λ (t : List ℕ). length t ≤ classes_room) the_line
            (fits head.top list the_seats.each ((fine_exactly head.top list).0 (sym of-list)) seating.states few)

        pub line_said : text (classes_text v) ≡ watch_said card seats list
        unfolding watch_said
        line_said =
            let a : text (watch_of list the_seats) ≡ watch_card seats list (card_in head x) = rw (← judged fine, ← of-list) in
            ap (λ (t : List ℕ). text t) (sym the_line) ∙ a ∙ taken_said card h (watch_card seats list) refl

    -- the same, in the form in which the code has it
    module _ {u : Unit {0}} (fine : Ok u ≡ judged_seats head.seats head.top head.shared seats) where
      pub list_told : {d : Refusal} → Err d ≡ judged_classes head.top list → watch_said card seats list ≡ refused d.number d.place
      list_told e = list_refused fine e

      module _ {w : Unit {0}} (of-list : Ok w ≡ judged_classes head.top list) {v : List ℕ} (counts-are : v ≡ class_counts list (take head.seats seats)) where
        pub told_fits : length (classes_text v) ≤ classes_room
        told_fits = line_fits fine of-list counts-are

        pub told : watch_said card seats list ≡ text (classes_text v)
        told = sym (line_said fine of-list counts-are)
