-- The seats as a stage: it passes exactly for valid seatings, and else gives 8 or 9. Assumes nothing.
use Prim.Native.Nat.{ℕ}
use mathlib.Core.Path.{◌≡◌, refl, sym, ap, ap₂}
use mathlib.Core.Logic.{◌↔◌, ⊎_elim}
use mathlib.Core.List.{List}
use Rattle.std.specs.Prelude.{Ok, Err}
use lib.ListN.{length}
use Rattle.card.specs.Refusals.{wrong_seats, seat_above_top}
use Rattle.card.specs.Card.{Card}
use Rattle.card.specs.Valid.{values_of}
use Rattle.entry.specs.Said.{says, refused}
use Rattle.entry.specs.Stage.{Stage}
use Rattle.entry.proofs.Stages.{says≢refused, same_number, same_place}
use Rattle.entry.proofs.Exactly.{◌↔∙◌}
use Rattle.card.proofs.Verdicts.{ok≢refused}
use Rattle.card.specs.Verdict.{Verdict}
use Rattle.card.specs.Verdict.{Taken, Refused}
use Rattle.seating.specs.Judged.{judged_seats, seats_due, FirstWrong, Seated}
use Rattle.seating.specs.SeatsSaid.{verdict_said, seats_said, seats_numbers}
use Rattle.seating.proofs.Judging.{valid_exactly, wrong_seats_exactly, seat_above_exactly, judged_else}

pub verdict_refused : (s : Verdict) (r p : ℕ) → (verdict_said s ≡ refused r p) ↔ (s ≡ Refused r p)
verdict_refused (Ok u) r p = (λ e. says≢refused e, λ e. ok≢refused e)
verdict_refused (Err d) r p = (λ e. ap₂ (λ n q. Refused n q) (same_number e) (same_place e), λ e. ap verdict_said e)

pub verdict_fine : (s : Verdict) (u : Unit {0}) → verdict_said s ≡ says u → s ≡ Taken
verdict_fine (Ok u) v e = refl
verdict_fine (Err d) v e = says≢refused (sym e)

module _ (seats : List ℕ) (c : Card) where
  pub seats_stage : Stage (seats_said seats c) seats_numbers (Seated c seats) (λ _. tt)
  seats_stage = record {
    numbers = record { number = λ r p e. ⊎_elim (λ k. rw k) (λ k. rw k) (judged_else c.n c.k (values_of c.shared) seats r p ((verdict_refused (judged_seats c.n c.k (values_of c.shared) seats) r p).0 e)) };
    found = record {
      each = λ ok. ap verdict_said ((valid_exactly c seats).1 ok);
      only = λ u e. ((valid_exactly c seats).0 (verdict_fine (judged_seats c.n c.k (values_of c.shared) seats) u e), refl);
    };
  }

  pub wrong_count : (p : ℕ) → (seats_said seats c ≡ refused wrong_seats p) ↔ ((length seats ≡ seats_due c → ⊥) × (p ≡ 0))
  wrong_count p = verdict_refused (judged_seats c.n c.k (values_of c.shared) seats) wrong_seats p ↔∙ wrong_seats_exactly c.n c.k (values_of c.shared) seats p

  pub wrong_seat : (p : ℕ) → (seats_said seats c ≡ refused seat_above_top p) ↔ ((length seats ≡ seats_due c) × FirstWrong c seats p)
  wrong_seat p = verdict_refused (judged_seats c.n c.k (values_of c.shared) seats) seat_above_top p ↔∙ seat_above_exactly c.n c.k (values_of c.shared) seats p
