-- Reordered seats are as many, and a seating exactly where the first are; so both are judged alike, and where they are fine their panels
-- are the same. Assumes nothing.
use Prim.Native.Nat.{ℕ, zero, suc, ◌+◌}
use mathlib.Core.Path.{◌≡◌, refl, sym, ap, ap₂, ◌∙◌}
use mathlib.Core.Logic.{inl, inr, ⊎_elim}
use mathlib.Core.List.{List, [], ◌∷◌}
use mathlib.Core.Option.{Option, none, some}
use native.Mathlib.Omega.{arith}
use lib.ListN.{length, get_or, take, drop, length-append, take-append-drop}
use lib.Seq.{take_all}
use Rattle.card.specs.Refusals.{wrong_seats, seat_above_top}
use Rattle.card.specs.Card.{Shared, Card}
use Rattle.card.specs.Valid.{values_of}
use Rattle.reading.specs.Reading.{Outcome, taken, refused as turned, read_of}
use Rattle.room.specs.Answer.{Answer}
use Rattle.entry.specs.Said.{says as text, refused}
use Rattle.room.specs.Answer.{Text, answer_number, answered, room_after, Entered}
use Rattle.meaning.specs.Position.{position}
use Rattle.meaning.specs.Seats.{Seating, ValidSeating, counted}
use Rattle.meaning.specs.Panel.{Panel}
use Rattle.meaning.specs.Reordered.{Swapped, done, keep, swap, then, Reordered}
use Rattle.meaning.proofs.Reorder.{reordered_length, reordered_valid, reordered_panel}
use Rattle.meaning.proofs.Panel.{equal_counts}
use Rattle.card.specs.Verdict.{Verdict}
use Rattle.std.specs.Prelude.{Ok, Err}
use Rattle.card.specs.Verdict.{Taken, Refused}
use Rattle.seating.specs.Judged.{bytes_due, judged_seats, seating_in, seating_of, Seated, bytes_of}
use Rattle.seating.proofs.Judging.{valid_exactly, wrong_seats_exactly, seat_above_exactly, judged_else}
use Rattle.seating.proofs.Bytes.{bytes_back, bytes_seated}
use Rattle.panel_wording.specs.PanelText.{panel_text, panel_of}
use Rattle.panel_said.specs.PanelSaid.{panel_said}
use Rattle.panel_said.specs.Reordering.{seat_bytes, bytes_behind, SeatsReordered, ReorderedOn, SaidAlike, Alike}

back : {x y : List ℕ} → Swapped x y → Swapped y x
back done = done
back (keep a r) = keep a (back r)
back (swap a b x) = swap b a x
back (then r s) = then (back s) (back r)

-- ---- bytes with seats reordered

swapped_length : {x y : List ℕ} → Swapped x y → length x ≡ length y
swapped_length {x} {y} r =
    let z : Reordered (position x 0) (position y 0) = record { seats = r; shared = refl } in
    reordered_length z

both_lengths : (n : ℕ) (x : List ℕ) → length x ≡ length (take n x) + length (drop n x)
both_lengths n x = ap (λ (l : List ℕ). length l) (sym (take-append-drop n x)) ∙ length-append (take n x) (drop n x)

behind_first : (n : ℕ) (x : List ℕ) → get_or x n 0 ≡ get_or (drop n x) 0 0
behind_first zero x = refl
behind_first (suc n) [] = refl
behind_first (suc n) (a ∷ x) = behind_first n x

module _ (n : ℕ) where
  as_long : (s : Option Shared) (x y : List ℕ) → Swapped (seat_bytes s n x) (seat_bytes s n y) → bytes_behind s n x ≡ bytes_behind s n y → length x ≡ length y
  as_long none x y r e = swapped_length r
  as_long (some s) x y r e = both_lengths n x ∙ ap₂ ◌+◌ (swapped_length r) (ap (λ (l : List ℕ). length l) e) ∙ sym (both_lengths n y)

  in_order : (s : Option Shared) (x y : List ℕ) → length x ≡ bytes_due n (values_of s) → length y ≡ bytes_due n (values_of s)
      → Swapped (seat_bytes s n x) (seat_bytes s n y) → bytes_behind s n x ≡ bytes_behind s n y → Reordered (seating_in n (values_of s) x) (seating_in n (values_of s) y)
  in_order none x y h k r e = rw (take_all n x (omega arith), take_all n y (omega arith)) (record { seats = r; shared = refl })
  in_order (some s) x y h k r e = record { seats = r; shared = behind_first n x ∙ ap (λ (l : List ℕ). get_or l 0 0) e ∙ sym (behind_first n y) }

module _ (c : Card) {x y : List ℕ} (r : SeatsReordered c x y) where
  same_length : length x ≡ length y
  same_length = as_long c.n c.shared x y r.seats r.behind

  other_way : SeatsReordered c y x
  other_way = record { seats = back r.seats; behind = sym r.behind }

  seated_alike : Seated c x → Reordered (seating_of c x) (seating_of c y)
  seated_alike ok = in_order c.n c.shared x y ok.due (sym same_length ∙ ok.due) r.seats r.behind

  also_seated : Seated c x → Seated c y
  also_seated ok = record { due = sym same_length ∙ ok.due; valid = reordered_valid c (seated_alike ok) ok.valid }

module _ (card : List ℕ) {c : Card} (h : read_of card ≡ taken c) where
  said_fine : (x : List ℕ) → Seated c x → panel_said card x ≡ text (panel_of c (seating_of c x))
  unfolding panel_said
  said_fine x ok = rw (h, (valid_exactly c x).1 ok)

  said_refused : (x : List ℕ) {number place : ℕ} → judged_seats c.n c.k (values_of c.shared) x ≡ Refused number place → panel_said card x ≡ refused number place
  unfolding panel_said
  said_refused x j = rw (h, j)

  -- valid seatings with equal counts show the same
  pub equal_said : (x y : Seating) → ValidSeating c x → ValidSeating c y → counted c.k x ≡ counted c.k y → panel_said card (bytes_of c x) ≡ panel_said card (bytes_of c y)
  unfolding panel_of
  equal_said x y ok ok' e = told x ok ∙ ap (λ (p : Panel). text (panel_text p)) (equal_counts c x y ok ok' e) ∙ sym (told y ok')
    where
      told : (z : Seating) → ValidSeating c z → panel_said card (bytes_of c z) ≡ text (panel_of c z)
      told z v = said_fine (bytes_of c z) (bytes_seated c z v) ∙ ap (λ (w : Seating). text (panel_of c w)) (bytes_back c z v)

  module _ {x y : List ℕ} (r : SeatsReordered c x y) where
    fine_alike : Seated c x → panel_said card x ≡ panel_said card y
    unfolding panel_of
    fine_alike ok =
        said_fine x ok ∙ ap (λ (p : Panel). text (panel_text p)) (reordered_panel c (seated_alike c r ok) ok.valid) ∙ sym (said_fine y (also_seated c r ok))

    wrong_alike : (p : ℕ) → judged_seats c.n c.k (values_of c.shared) x ≡ Refused wrong_seats p → panel_said card x ≡ panel_said card y
    wrong_alike p j =
        let q = (wrong_seats_exactly c.n c.k (values_of c.shared) x p).0 j in
        let j' = (wrong_seats_exactly c.n c.k (values_of c.shared) y p).1 (λ e. q.0 (same_length c r ∙ e), q.1) in
        said_refused x j ∙ sym (said_refused y j')

    above_alike : (p : ℕ) → judged_seats c.n c.k (values_of c.shared) x ≡ Refused seat_above_top p → (s : Verdict) → judged_seats c.n c.k (values_of c.shared) y ≡ s → SaidAlike card x y
    above_alike p j (Ok u) k =
        let ok = also_seated c (other_way c r) ((valid_exactly c y).0 k) in
        let z : ◌≡◌ {A = ℕ} 0 1 = cc ((valid_exactly c x).1 ok) in
        absurd (omega arith)
    above_alike p j (Err e) k = ⊎_elim other nine (judged_else c.n c.k (values_of c.shared) y number q k)
      where
        number : ℕ
        number = e.number

        q : ℕ
        q = e.place

        other : number ≡ wrong_seats → SaidAlike card x y
        other e =
            let n = ((seat_above_exactly c.n c.k (values_of c.shared) x p).0 j).0 in
            absurd (((wrong_seats_exactly c.n c.k (values_of c.shared) y q).0 (k ∙ ap (λ (m : ℕ). Refused m q) e)).0 (sym (same_length c r) ∙ n))

        nine : number ≡ seat_above_top → SaidAlike card x y
        nine e = inr (p, q, said_refused x j, said_refused y (k ∙ ap (λ (m : ℕ). Refused m q) e))

    seats_alike : (s : Verdict) → judged_seats c.n c.k (values_of c.shared) x ≡ s → SaidAlike card x y
    seats_alike (Ok u) j = inl (fine_alike ((valid_exactly c x).0 j))
    seats_alike (Err r) j = ⊎_elim
        (λ e. inl (wrong_alike r.place (j ∙ ap (λ (m : ℕ). Refused m r.place) e)))
        (λ e. above_alike r.place (j ∙ ap (λ (m : ℕ). Refused m r.place) e) (judged_seats c.n c.k (values_of c.shared) y) refl)
        (judged_else c.n c.k (values_of c.shared) x r.number r.place j)

module _ (card : List ℕ) {x y : List ℕ} (r : ReorderedOn card x y) where
  pub said_alike : SaidAlike card x y
  unfolding panel_said
  said_alike = go (read_of card) refl
    where
      go : (o : Outcome) → read_of card ≡ o → SaidAlike card x y
      go (taken c) h = seats_alike card h (r c h) (judged_seats c.n c.k (values_of c.shared) x) refl
      go (turned number place) h = inl (rw h)

  -- so is what is answered, and the room
  pub alike : {was is-a is_b : List ℕ} {a b : Answer} → Entered was is-a (panel_said card x) a → Entered was is_b (panel_said card y) b → Alike a b is-a is_b
  alike {was} {is-a} {is_b} {a} {b} p q = ⊎_elim same nine said_alike
    where
      same : panel_said card x ≡ panel_said card y → Alike a b is-a is_b
      same e =
          let equal : a ≡ b = p.answers ∙ ap (λ (s : Text). answered s was) e ∙ sym q.answers in
          record { rooms = p.leaves ∙ ap (λ (s : Text). room_after s was) e ∙ sym q.leaves; numbers = ap answer_number equal; answers = λ n. equal }

      nine : (m : ℕ) × (n : ℕ) × (panel_said card x ≡ refused seat_above_top m) × (panel_said card y ≡ refused seat_above_top n) → Alike a b is-a is_b
      nine w =
          let first : answer_number a ≡ seat_above_top = ap answer_number (p.answers ∙ ap (λ (s : Text). answered s was) w.2) in
          let second : answer_number b ≡ seat_above_top = ap answer_number (q.answers ∙ ap (λ (s : Text). answered s was) w.3) in
          record {
            rooms = p.leaves ∙ ap (λ (s : Text). room_after s was) w.2 ∙ sym (q.leaves ∙ ap (λ (s : Text). room_after s was) w.3);
            numbers = first ∙ sym second;
            answers = λ n. absurd (n first);
          }
