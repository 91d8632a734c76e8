-- A card that lies beside its head has as many values of the shared number as the head says; so seats judged by a head are judged by its card,
-- and the position made of counts and the number behind the seats is the seating's. Assumes nothing.
use Prim.Native.Nat.{ℕ, zero, suc}
use mathlib.Core.Path.{◌≡◌, refl, sym, ap, ap₂, ◌∙◌}
use mathlib.Core.List.{List}
use lib.ListN.{take}
use Rattle.card.specs.Valid.{values_of}
use Rattle.card.specs.Laid.{shared_of}
use Rattle.card.specs.Lent.{Lent, card_in}
use Rattle.card.specs.declared.Head.{Head}
use Rattle.card.specs.Verdict.{Verdict}
use Rattle.meaning.specs.Position.{position}
use Rattle.meaning.specs.Seats.{counts, counted}
use Rattle.seating.specs.Judged.{judged_seats, shared_at, seating_of}

pub values_again : (values initial : ℕ) → values_of (shared_of values initial) ≡ values
values_again zero initial = refl
values_again (suc most) initial = refl

module _ (h : Head) (x : Lent) (seats : List ℕ) where
  pub values_in_law : values_of (card_in h x).shared ≡ h.shared
  values_in_law = values_again h.shared h.initial

  pub judged_in : {s : Verdict} → s ≡ judged_seats h.seats h.top h.shared seats
      → s ≡ judged_seats (card_in h x).n (card_in h x).k (values_of (card_in h x).shared) seats
  judged_in e = e ∙ ap (λ (v : ℕ). judged_seats h.seats h.top v seats) (sym values_in_law)

  pub counted_in : (k : ℕ) {v : List ℕ} {g : ℕ} → v ≡ counts k (take h.seats seats) → g ≡ shared_at h.seats h.shared seats
      → position v g ≡ counted k (seating_of (card_in h x) seats)
  counted_in k e f = ap₂ position e (f ∙ ap (λ (a : ℕ). shared_at h.seats a seats) (sym values_in_law))
