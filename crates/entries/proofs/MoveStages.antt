-- What `first_move` says, stage by stage: the card's refusal, the seats', or what the walk over the rows finds at the seats' counts. Assumes nothing.
use Prim.Native.Nat.{ℕ, ◌≤◌}
use mathlib.Core.Path.{◌≡◌, refl, sym, ap, ◌∙◌}
use mathlib.Core.List.{List}
use mathlib.Core.Option.{Option}
use native.Mathlib.Nat.{le_trans}
use Rattle.card.specs.Limits.{top_state, most_statements}
use lib.ListN.{take}
use Rattle.card.specs.Card.{Card}
use Rattle.card.specs.Valid.{values_of}
use Rattle.card.specs.Lent.{Lent, card_in, HoldsIn}
use Rattle.std.specs.Prelude.{Ok, Err}
use Rattle.card.specs.Verdict.{Verdict, Taken}
use Rattle.card.specs.declared.Head.{Head}
use Rattle.card.specs.declared.Refusal.{Refusal}
use Rattle.card.proofs.Held.{every_map}
use Rattle.card.proofs.HeldIn.{holds_top, holds_count}
use Rattle.entry.specs.Said.{says, refused}
use Rattle.meaning.specs.Position.{Position, position}
use Rattle.meaning.specs.Seats.{Seating, ValidSeating, counts, counted}
use Rattle.meaning.proofs.Counting.{Within}
use Rattle.seating.specs.Judged.{judged_seats, shared_at, seating_of}
use Rattle.seating.proofs.Judging.{valid_exactly}
use Rattle.seating.proofs.Heads.{judged_in, counted_in}
use Rattle.outline.specs.ReadingOf.{ReadsInto}
use Rattle.outline.proofs.ReadInto.{taken_holds, refused_said, taken_said}
use Rattle.moving.specs.FirstMove.{first_move, first_at}
use Rattle.moving.proofs.FirstMove.{walks_alike}
use Rattle.able_seats.specs.FirstRow.{first_row}
use Rattle.move_said.specs.MoveSaid.{move_seated, move_said}
use Rattle.able_seats.proofs.Laws.{rows_walk}

module _ (card seats : List ℕ) where
  -- the card is refused
  pub card_refused : {e : Refusal} {x : Lent} → ReadsInto card (Err e) x → move_said card seats ≡ refused e.number e.place
  unfolding move_said
  card_refused h = refused_said card h (move_seated seats) refl

  -- it is taken
  module _ {head : Head} {x : Lent} (h : ReadsInto card (Ok head) x) where
    judged : {s : Verdict} → s ≡ judged_seats head.seats head.top head.shared seats → s ≡ judged_seats head.seats head.top (values_of (card_in head x).shared) seats
    judged e = judged_in head x seats e

    -- the seats are refused
    pub seats_refused : {d : Refusal} → Err d ≡ judged_seats head.seats head.top head.shared seats → move_said card seats ≡ refused d.number d.place
    unfolding move_said
    seats_refused e = sym (taken_said card h (move_seated seats) refl) ∙ rw (← judged e)

    holds : HoldsIn head x
    holds = taken_holds card h refl

    pub few : head.count ≤ most_statements
    few = holds_count holds

    abbrev the_card : Card
    the_card = card_in head x

    module _ (fine : Taken ≡ judged_seats head.seats head.top head.shared seats) {v : List ℕ} (counts-are : v ≡ counts top_state (take head.seats seats)) {g : ℕ} (shared-is : g ≡ shared_at head.seats head.shared seats) where
      abbrev the_seats : Seating
      the_seats = seating_of the_card seats

      seating : ValidSeating the_card the_seats
      seating = ((valid_exactly the_card seats).0 (sym (judged fine))).valid

      low : Within top_state the_seats.each
      low = every_map (λ (d : ℕ) (l : d ≤ head.top). le_trans l (holds_top holds)) the_seats.each seating.states

      abbrev found : Option ℕ
      found = first_row head.seats (position v g) x.nodes x.rows 0 head.count

      walked : first_move the_card the_seats ≡ found
      unfolding first_move
      walked =
          walks_alike top_state the_seats low 1 the_card.statements
          ∙ ap (λ (n : ℕ). first_at n (counted top_state the_seats) 1 the_card.statements) seating.seats
          ∙ ap (λ (w : Position). first_at head.seats w 1 the_card.statements) (sym (counted_in head x seats top_state counts-are shared-is))
          ∙ rows_walk head.seats (position v g) x.nodes x.rows x.branches 0 head.count

      pub answered : move_said card seats ≡ says found
      unfolding move_said
      answered =
          let seated : move_seated seats the_card ≡ says (first_move the_card the_seats) = rw (← judged fine) in
          sym (taken_said card h (move_seated seats) refl) ∙ seated ∙ ap says walked
