-- What the program prints, by the four ways in which the panel entry's word of a card and its seats can go: the card's refusal, the two of
-- seats, the panel. Assumes nothing.
use Prim.Native.Nat.{ℕ, ◌≤◌, ◌<◌}
use mathlib.Core.Path.{◌≡◌, refl, ap, ◌∙◌}
use mathlib.Core.Bool.{Bool, true, false, ◌&&◌}
use mathlib.Core.Logic.{◌⊎◌, inl, inr}
use mathlib.Core.List.{List, [], ◌∷◌, ◌++◌, map}
use native.Mathlib.Decide.{ℕ_discrete}
use native.Mathlib.Omega.{arith}
use borrow.Author.Tests.{ne_eqb, le-leb, lt-leb}
use lib.Dec.{leb}
use lib.ListN.{length, take}
use Rattle.rows.proofs.Theorems.{of_card?}
use Rattle.card.specs.Weight.{card_rule}
use Rattle.card.specs.Refusals.{wrong_weight, wrong_seats, seat_above_top, decimal_weight, OfCard}
use Rattle.card.specs.Card.{Card}
use Rattle.card.specs.Valid.{Every}
use Rattle.reading.specs.Reading.{taken, refused, read_of}
use Rattle.grammar.proofs.Theorems.{read_valid}
use Rattle.reading.proofs.Numbers.{read_number}
use Rattle.entry.specs.Said.{says as text, refused as refusal}
use Rattle.room.specs.Digits.{digit}
use Rattle.room.specs.Answer.{Text}
use Rattle.seating.specs.Judged.{seats_due, FirstWrong, seating_of, Seated}
use Rattle.seating.specs.SeatsSaid.{seats_numbers}
use Rattle.rows.specs.Said.{card_numbers}
use Rattle.panel_wording.specs.PanelText.{panel_of}
use Rattle.panel_said.specs.PanelSaid.{panel_said}
use Rattle.panel_said.proofs.Short.{panel_fits}
use Rattle.panel_said.proofs.Theorems.{said, said_card, said_count, said_seat}
use Rattle.entry.proofs.Stages.{by_span}
use Rattle.panel_said.specs.Program.{input_bytes, line_end, seats_line, card_behind, no_state, seat_of, printed, program_of, answer_to}
use Rattle.entry_promises.specs.Entries.{Input, seats_read, card_read, Response, wrong_card, wrong_count, wrong_seat, the_panel}
use Rattle.card_promises.proofs.Numbers.{number_some}

module _ (card seats : List ℕ) where
  pub data Way : Type 0 where
    of_card : (number place : ℕ) → read_of card ≡ refused number place → panel_said card seats ≡ refusal number place → Way
    of_count : (c : Card) → read_of card ≡ taken c → (length seats ≡ seats_due c → ⊥) → panel_said card seats ≡ refusal wrong_seats 0 → Way
    of_seat : (c : Card) → read_of card ≡ taken c → length seats ≡ seats_due c → (place : ℕ) → FirstWrong c seats place → panel_said card seats ≡ refusal seat_above_top place → Way
    of_panel : (c : Card) → read_of card ≡ taken c → Seated c seats → panel_said card seats ≡ text (panel_of c (seating_of c seats)) → Way

  most : (r p : ℕ) → panel_said card seats ≡ refusal r p → (r ≤ seat_above_top) ⊎ (r ≡ decimal_weight)
  most r p e = by_span (card_numbers ++ seats_numbers) r ((said card seats).numbers.number r p e) ((λ l m. inl (omega arith)), ((λ l m. inr (omega arith)), ((λ l m. inl m), tt)))

  pub way : Way
  way = go (panel_said card seats) refl
    where
      by_number : (r p : ℕ) → panel_said card seats ≡ refusal r p → Dec (OfCard r) → Dec (r ≡ wrong_seats) → Way
      by_number r p e (yes l) k = of_card r p ((said_card card seats r p l).0 e) e
      by_number r p e (no l) (yes k) =
          let (c, t, n, z) = (said_count card seats p).0 (e ∙ ap (λ (s : ℕ). refusal s p) k) in
          of_count c t n ((said_count card seats 0).1 (c, t, n, refl))
      by_number r p e (no l) (no k) =
          let nine : r ≡ seat_above_top = ninth (most r p e) in
          let h = e ∙ ap (λ (s : ℕ). refusal s p) nine in
          let (c, t, n, f) = (said_seat card seats p).0 h in
          of_seat c t n p f h
        where
          ninth : (r ≤ seat_above_top) ⊎ (r ≡ decimal_weight) → r ≡ seat_above_top
          ninth (inl m) = let o : r ≤ wrong_weight → ⊥ = λ h. l (inl h) in omega arith
          ninth (inr m) = absurd (l (inr m))

      go : (s : Text) → panel_said card seats ≡ s → Way
      go (text t) e = let (z, k) = (said card seats).found.only t e in of_panel z.0.0 z.0.1 z.1 (e ∙ ap text k)
      go (refusal r p) e = by_number r p e (of_card? r) (ℕ_discrete r wrong_seats)

  pub never_10 : (number place : ℕ) → panel_said card seats ≡ refusal number place → (1 ≤ number) × ((number ≤ seat_above_top) ⊎ (number ≡ decimal_weight))
  never_10 number place e = (go (of_card? number), most number place e)
    where
      go : Dec (OfCard number) → 1 ≤ number
      go (yes l) = number_some card_rule card ((said_card card seats number place l).0 e)
      go (no l) = let m : number ≤ wrong_weight → ⊥ = λ h. l (inl h) in omega arith

-- ---- the input

line : (seats card : List ℕ) → Every (λ b. b ≡ line_end → ⊥) seats → (seats_line (seats ++ (line_end ∷ card)) ≡ seats) × (card_behind (seats ++ (line_end ∷ card)) ≡ card)
unfolding seats_line card_behind
line [] card h = (refl, refl)
line (b ∷ seats) card h =
    let (e, f) = line seats card h.1 in
    (rw (ne_eqb b line_end h.0, e), rw (ne_eqb b line_end h.0, f))

no_line : (seats : List ℕ) → Every (λ b. b ≡ line_end → ⊥) seats → (seats_line seats ≡ seats) × (card_behind seats ≡ [])
unfolding seats_line card_behind
no_line [] h = (refl, refl)
no_line (b ∷ seats) h =
    let (e, f) = no_line seats h.1 in
    (rw (ne_eqb b line_end h.0, e), rw (ne_eqb b line_end h.0, f))

and_false : (b : Bool) → (b && false) ≡ false
and_false true = refl
and_false false = refl

digits : (d : ℕ) → d ≤ 9 → seat_of (digit d) ≡ d
digits d h = rw (le-leb (digit 0) (digit d) (omega arith), le-leb (digit d) (digit 9) (omega arith)) (omega arith)

no_digit : (b : ℕ) → (b < digit 0) ⊎ (digit 9 < b) → seat_of b ≡ no_state
no_digit b (inl h) = rw (lt-leb (digit 0) b h)
no_digit b (inr h) = rw (lt-leb b (digit 9) h, and_false (leb (digit 0) b))

pub input : Input
input = record { line = line; no_line = no_line; digits = digits; no_digit = no_digit }

-- ---- the program prints what is said of the card and the seats that it reads
answer_printed : (s : List ℕ) → answer_to s ≡ printed (panel_said (card_behind s) (map seat_of (seats_line s)))
unfolding answer_to
answer_printed s = refl

program_printed : (input : List ℕ) → program_of input ≡ printed (panel_said (card_read input) (seats_read input))
unfolding program_of
program_printed input = answer_printed (take input_bytes input)

pub responds : (input : List ℕ) → Response input
responds input = go (way (card_read input) (seats_read input))
  where
    prints : {said : Text} → panel_said (card_read input) (seats_read input) ≡ said → program_of input ≡ printed said
    prints e = program_printed input ∙ ap printed e

    go : Way (card_read input) (seats_read input) → Response input
    go (of_card number place h k) = wrong_card number place h (number_some card_rule (card_read input) h) (read_number card_rule (card_read input) h) (prints k)
    go (of_count c h n k) = wrong_count c h n (prints k)
    go (of_seat c h n p f k) = wrong_seat c h n p f (prints k)
    go (of_panel c h ok k) = the_panel c h ok (panel_fits c (read_valid card_rule (card_read input) c h) (seating_of c (seats_read input)) ok.valid) (prints k)
