-- What is said of a card and its seats, stage by stage: refusals 1 to 7 and 17 are the reader's; 8 and 9 are given exactly where the card is taken and
-- the seats are no seating of it; and else the panel's text is said. Assumes nothing.
use Prim.Native.Nat.{ℕ}
use mathlib.Core.Path.{◌≡◌, refl}
use mathlib.Core.Bool.{false}
use mathlib.Core.Logic.{◌↔◌}
use mathlib.Core.List.{List, ◌++◌}
use lib.ListN.{length}
use Rattle.card.specs.Refusals.{wrong_seats, seat_above_top, OfCard}
use Rattle.card.specs.Card.{Card}
use Rattle.reading.specs.Reading.{taken, refused as turned, read_of}
use Rattle.entry.specs.Said.{refused}
use Rattle.entry.specs.Numbers.{among}
use Rattle.entry.specs.Stage.{Stage}
use Rattle.entry.proofs.Stages.{value, followed, beyond, last}
use Rattle.entry.proofs.Exactly.{◌↔∙◌, under}
use Rattle.seating.specs.Judged.{seats_due, FirstWrong, seating_of, Seated}
use Rattle.seating.specs.SeatsSaid.{seats_said, seats_numbers}
use Rattle.seating.proofs.SeatsStage.{seats_stage, wrong_count, wrong_seat}
use Rattle.rows.specs.Said.{card_numbers, Read}
use Rattle.rows.proofs.Theorems.{card_stage, card_first}
use Rattle.panel_wording.specs.PanelText.{panel_of}
use Rattle.panel_said.specs.PanelSaid.{shown_said, panel_said}

module _ (card seats : List ℕ) where
  shown : (c : Card) → Stage (shown_said seats c) seats_numbers (Seated c seats) (λ _. panel_of c (seating_of c seats))
  shown c = value (seats_stage seats c) (λ _. panel_of c (seating_of c seats))

  pub said : Stage (panel_said card seats) (card_numbers ++ seats_numbers) ((w : Read card) × Seated w.0 seats) (λ z. panel_of z.0.0 (seating_of z.0.0 seats))
  unfolding panel_said
  said = followed (card_stage card) (shown_said seats) (λ c. (shown c).numbers) (λ w. (shown w.0).found)

  pub said_card : (r p : ℕ) → OfCard r → (panel_said card seats ≡ refused r p) ↔ (read_of card ≡ turned r p)
  unfolding panel_said
  said_card r p h = card_first card (shown_said seats) (λ c. (shown c).numbers) r p h refl

  pub said_seats : (r p : ℕ) → among card_numbers r ≡ false → (panel_said card seats ≡ refused r p) ↔ ((w : Read card) × (seats_said seats w.0 ≡ refused r p))
  unfolding panel_said
  said_seats r p h = beyond (card_stage card) (shown_said seats) r p h (λ w. last (seats_stage seats w.0) (λ _. panel_of w.0 (seating_of w.0 seats)) r p)

  pub said_count : (p : ℕ) → (panel_said card seats ≡ refused wrong_seats p) ↔ ((c : Card) × (read_of card ≡ taken c) × (length seats ≡ seats_due c → ⊥) × (p ≡ 0))
  said_count p = said_seats wrong_seats p refl ↔∙ under (λ w. wrong_count seats w.0 p) ↔∙ (λ h. (h.0.0, h.0.1, h.1.0, h.1.1), λ h. ((h.0, h.1), (h.2, h.3)))

  pub said_seat : (p : ℕ) → (panel_said card seats ≡ refused seat_above_top p) ↔ ((c : Card) × (read_of card ≡ taken c) × (length seats ≡ seats_due c) × FirstWrong c seats p)
  said_seat p = said_seats seat_above_top p refl ↔∙ under (λ w. wrong_seat seats w.0 p) ↔∙ (λ h. (h.0.0, h.0.1, h.1.0, h.1.1), λ h. ((h.0, h.1), (h.2, h.3)))
