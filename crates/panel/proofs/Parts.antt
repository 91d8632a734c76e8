-- The input in the parts that the code lends: the line of seats ends where it was found, the card begins behind LF, and of a line of more
-- seats than any card has the first few are refused as all of them are. Assumes nothing.
use Prim.Native.Nat.{ℕ, zero, suc, ◌+◌, ◌-◌, ◌≤◌, ◌<◌, min}
use mathlib.Core.Path.{◌≡◌, refl, sym, ap, ◌∙◌}
use mathlib.Core.Bool.{Bool, true, false}
use mathlib.Core.List.{List, [], ◌∷◌, map}
use native.Mathlib.Decide.{dec_le}
use native.Mathlib.Numerals.{add-one}
use native.Mathlib.Omega.{arith}
use borrow.Author.Tests.{ne_eqb}
use lib.Dec.{eqb}
use lib.ListN.{length, take, drop, length-drop, length-map}
use lib.Seq.{length-take-le, take_all, take_at}
use Rattle.card.specs.Limits.{most_seats}
use Rattle.card.specs.Refusals.{wrong_seats}
use Rattle.card.specs.Text.{when◌then◌else◌}
use Rattle.card.specs.Card.{Card}
use Rattle.card.specs.Weight.{card_rule}
use Rattle.reading.specs.Reading.{Outcome, taken, refused as turned, read_of}
use Rattle.entry.specs.Said.{◌>>=◌, ◌>>◌, return}
use Rattle.std.specs.Prelude.{Ok, Err}
use Rattle.card.specs.Verdict.{Verdict, Refused}
use Rattle.card.specs.Valid.{values_of}
use Rattle.seating.specs.Judged.{bytes_due, judged_seats, seating_of}
use Rattle.rows.specs.Said.{outcome_said}
use Rattle.seating.specs.SeatsSaid.{verdict_said}
use Rattle.panel_wording.specs.PanelText.{panel_of}
use Rattle.panel_said.specs.PanelSaid.{shown_said, panel_said}
use Rattle.seating.proofs.Judging.{valid_exactly}
use Rattle.grammar.proofs.Theorems.{read_valid}
use Rattle.panel_wording.specs.PanelRoom.{panel_room}
use Rattle.panel_said.proofs.Short.{panel_fits}
use Rattle.panel_said.specs.Program.{line_end, seats_line, card_behind, seat_of, input_bytes, printed, answer_to, program_of}
use Rattle.program_lines.proofs.Printing.{Short}
use Rattle.program_lines.proofs.Seats.{sown}

-- ---- the line and the card

by_byte : (C : Bool → Type 0) (b : ℕ) → (eqb b line_end ≡ true → C true) → (eqb b line_end ≡ false → C false) → C (eqb b line_end)
by_byte C b t f = go (eqb b line_end) refl
  where
    go : (x : Bool) → eqb b line_end ≡ x → C x
    go true e = t e
    go false e = f e

pub line_part : (s : List ℕ) → take (length (seats_line s)) s ≡ seats_line s
unfolding seats_line
line_part [] = refl
line_part (b ∷ s) =
    by_byte
    (λ (x : Bool). take (length (when x then [] else b ∷ seats_line s)) (b ∷ s) ≡ (when x then [] else b ∷ seats_line s)) b
    (λ e. refl) (λ e. ap (λ (l : List ℕ). b ∷ l) (line_part s))

card_suc : (s : List ℕ) → length (seats_line s) < length s → drop (suc (length (seats_line s))) s ≡ card_behind s
unfolding seats_line card_behind
card_suc [] h = absurd (omega arith)
card_suc (b ∷ s) h =
    by_byte (λ (x : Bool). length (when x then [] else b ∷ seats_line s) < suc (length s) → drop (suc (length (when x then [] else b ∷ seats_line s))) (b ∷ s) ≡ (when x then s else card_behind s)) b
    (λ e l. refl) (λ e l. card_suc s (omega arith)) h

pub card_part : (s : List ℕ) {end : ℕ} → end ≡ length (seats_line s) → end < length s → drop (end + 1) s ≡ card_behind s
card_part s {end} e h = rw (add-one, e) (card_suc s (omega arith))

pub card_none : (s : List ℕ) {end : ℕ} → end ≡ length (seats_line s) → length s ≤ end → [] ≡ card_behind s
unfolding seats_line card_behind
card_none [] e h = refl
card_none (b ∷ s) {end} e h =
    by_byte (λ (x : Bool). end ≡ length (when x then [] else b ∷ seats_line s) → [] ≡ (when x then s else card_behind s)) b
    (λ k l. absurd (omega arith)) (λ k l. card_none s refl (omega arith)) e

-- ---- the seats

due_most : (n values : ℕ) → n ≤ most_seats → bytes_due n values ≤ suc most_seats
due_most n zero h = omega arith
due_most n (suc most) h = omega arith

wrong : {n : ℕ} (k values : ℕ) (x : List ℕ) → n ≤ most_seats → suc most_seats < length x → judged_seats n k values x ≡ Refused wrong_seats 0
unfolding judged_seats
wrong {n} k values x h l = rw (ne_eqb (length x) (bytes_due n values) (λ e. omega (arith, due_most n values h)))

-- more bytes than any card has seats, and one for the shared number, are alike
module _ (card x y : List ℕ) (h : suc most_seats < length x) (l : suc most_seats < length y) where
  pub too_many : panel_said card x ≡ panel_said card y
  unfolding panel_said
  too_many = go (read_of card) refl
    where
      go : (o : Outcome) → read_of card ≡ o → outcome_said (read_of card) >>= shown_said x ≡ outcome_said (read_of card) >>= shown_said y
      go (taken c) e =
          let v = (read_valid card_rule card c e).seats_most in
          rw (e, wrong c.k (values_of c.shared) x v h, wrong c.k (values_of c.shared) y v l)
      go (turned r p) e = rw e

sown_part : (line was : List ℕ) (i : ℕ) → i ≤ length line → take i (sown line was i) ≡ map seat_of (take i line)
sown_part line was i h = take_at (map seat_of (take i line)) (drop i was) i (length-map (take i line) seat_of ∙ length-take-le i line h)

-- the seats that are handed over, of as many places as `was` has, are said to be what all seats of the line are
module _ (line was : List ℕ) {i : ℕ} {is : List ℕ} (few : i ≡ min (length line) (length was)) (wrote : is ≡ sown line was i) where
  handed : take i is ≡ map seat_of (take i line)
  handed = ap (take i) wrote ∙ sown_part line was i (omega arith)

  -- they are as many as they are said to be
  pub handed_count : i ≡ length (take i is)
  handed_count = sym (ap length handed ∙ length-map (take i line) seat_of ∙ length-take-le i line (omega arith))

  pub seats_said : (card : List ℕ) → suc most_seats < length was → panel_said card (take i is) ≡ panel_said card (map seat_of line)
  seats_said card room = go (dec_le (length line) (length was))
    where
      go : Dec (length line ≤ length was) → panel_said card (take i is) ≡ panel_said card (map seat_of line)
      go (yes h) = ap (panel_said card) (handed ∙ ap (map seat_of) (take_all i line (omega arith)))
      go (no h) =
          let long : length (take i is) ≡ i = ap length handed ∙ length-map (take i line) seat_of ∙ length-take-le i line (omega arith) in
          too_many card (take i is) (map seat_of line) (omega arith) (omega (arith, length-map line seat_of))

-- ---- what is said

-- a panel is never longer than its room
pub panel_short : (card seats : List ℕ) → Short panel_room (panel_said card seats)
unfolding panel_said
panel_short card seats = go (read_of card) refl
  where
    by_seats : (c : Card) → read_of card ≡ taken c → (s : Verdict) → judged_seats c.n c.k (values_of c.shared) seats ≡ s → Short panel_room (verdict_said s >> return (panel_of c (seating_of c seats)))
    by_seats c e (Ok u) j = panel_fits c (read_valid card_rule card c e) (seating_of c seats) ((valid_exactly c seats).0 j).valid
    by_seats c e (Err d) j = tt

    go : (o : Outcome) → read_of card ≡ o → Short panel_room (outcome_said o >>= shown_said seats)
    go (taken c) e = by_seats c e (judged_seats c.n c.k (values_of c.shared) seats) refl
    go (turned number place) e = tt

-- the parts of an input are its line of seats and its card
module _ (s card was : List ℕ) {end count : ℕ} {is : List ℕ} (found : end ≡ length (seats_line s)) (room : suc most_seats < length was)
    (few : count ≡ min (length (take end s)) (length was)) (wrote : is ≡ sown (take end s) was count) where
  pub answer_said : card ≡ card_behind s → printed (panel_said card (take count is)) ≡ answer_to s
  unfolding answer_to
  answer_said e =
      let line : take end s ≡ seats_line s = ap (λ (k : ℕ). take k s) found ∙ line_part s in
      ap printed (seats_said (take end s) was few wrote card room ∙ ap (λ (l : List ℕ). panel_said card (map seat_of l)) line ∙ ap (λ (b : List ℕ). panel_said b (map seat_of (seats_line s))) e)

-- the card as a part up to the end of the input
pub card_from : (s : List ℕ) {end from : ℕ} → end ≡ length (seats_line s) → end < length s → from ≡ end + 1 → take (length s - from) (drop from s) ≡ card_behind s
card_from s {end} {from} e h f =
    take_all (length s - from) (drop from s) (omega (arith, length-drop from s)) ∙ ap (λ (k : ℕ). drop k s) f ∙ card_part s e h

pub card_left : (s : List ℕ) {end : ℕ} → end ≡ length (seats_line s) → length s ≤ end → take (length s - end) (drop end s) ≡ card_behind s
card_left s {end} e h =
    let z : length s - end ≡ 0 = omega arith in
    ap (λ (k : ℕ). take k (drop end s)) z ∙ card_none s e h

-- ---- the whole input

pub program_short : (input : List ℕ) → length input ≤ input_bytes → answer_to input ≡ program_of input
unfolding program_of
program_short input h = ap answer_to (sym (take_all input_bytes input h))

pub program_long : (input : List ℕ) → answer_to (take input_bytes input) ≡ program_of input
unfolding program_of
program_long input = refl
