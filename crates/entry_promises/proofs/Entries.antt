-- What entries answer: each stage's refusals and the room's, from the one theorem of stages. Assumes nothing.
use Prim.Native.Nat.{ℕ, ◌≤◌}
use mathlib.Core.Path.{◌≡◌, refl, sym, ap, ◌∙◌, subst}
use mathlib.Core.Logic.{◌↔◌, ◌⊎◌, inl, inr}
use mathlib.Core.List.{List}
use native.Mathlib.Decide.{dec_le}
use native.Mathlib.Omega.{arith}
use lib.ListN.{length}
use Rattle.card.specs.Weight.{card_rule}
use Rattle.card.specs.Refusals.{wrong_seats, seat_above_top, room_too_small, decimal_weight, OfCard}
use Rattle.card.specs.Card.{Card}
use Rattle.reading.specs.Reading.{Outcome, taken, refused, read_of}
use Rattle.grammar.proofs.Theorems.{read_valid}
use Rattle.reading.proofs.Numbers.{read_number}
use Rattle.outline.specs.ReadingOf.{Reading, Outline}
use Rattle.card.specs.Verdict.{verdict_in, verdict_number, verdict_place}
use Rattle.outline.specs.ReadingOf.{reading_of, outline_of, memory_of}
use Rattle.entry.specs.Said.{says, ◌>>=◌}
use Rattle.entry.specs.Numbers.{only}
use Rattle.entry.specs.Contract.{InRoom}
use Rattle.entry.proofs.Stages.{among_says, value}
use Rattle.entry.proofs.Exactly.{◌↔∙◌}
use Rattle.entry.proofs.Entries.{enters_unique, before_room, in_room_law}
use Rattle.room.specs.Answer.{Answer}
use Rattle.room.specs.Answer.{Done, Refused}
use Rattle.room.specs.Answer.{told, answer_number, answer_value, Entered}
use Rattle.room.proofs.Entries.{told_faithful}
use Rattle.seating.specs.Judged.{seating_of, Seated}
use Rattle.rows.specs.Said.{card_said, Read}
use Rattle.rows.proofs.Theorems.{of_card, card_stage, card_first}
use Rattle.texts.specs.Writing.{write_of}
use Rattle.texts_said.specs.WriteSaid.{write_said}
use Rattle.texts.proofs.WrittenShort.{written_room_law}
use Rattle.texts.specs.ReducedText.{reduced_of}
use Rattle.texts_said.specs.ReduceSaid.{reduce_said}
use Rattle.texts.proofs.ReducedShort.{short}
use Rattle.panel_wording.specs.PanelText.{panel_of}
use Rattle.panel_said.specs.PanelSaid.{panel_said}
use Rattle.panel_said.proofs.Short.{panel_fits}
use Rattle.panel_said.proofs.Theorems.{said, said_card, said_count, said_seat}
use Rattle.entry_promises.specs.Entries.{InNumbers, outcome_number, outcome_place, Prints, Shows, Rooms, Unique, Demand1}
use Rattle.card_promises.proofs.Numbers.{number_some}
use Rattle.entry_promises.proofs.Program.{Way, of_card as card_way, of_count, of_seat, of_panel, way, input, responds, never_10}

pub in_numbers : (a : Answer) → InNumbers a
in_numbers a = record { refusal = λ number place e. (ap answer_number e, ap answer_value e); length_told = λ long e. (ap answer_number e, ap answer_value e) }

pub done≢refused : {A : Type 0} {long r p : ℕ} → Done long ≡ Refused r p → A
done≢refused e = let z : ◌≡◌ {A = ℕ} 0 1 = cc in absurd (omega arith)

reads_number : (o : Outcome) → verdict_number (verdict_in (reading_of o)) ≡ outcome_number o
reads_number (taken c) = refl
reads_number (refused number place) = refl

reads_place : (o : Outcome) → verdict_place (verdict_in (reading_of o)) ≡ outcome_place o
reads_place (taken c) = refl
reads_place (refused number place) = refl

outline_number : (o : Outcome) → verdict_number (verdict_in (outline_of o)) ≡ outcome_number o
outline_number (taken c) = refl
outline_number (refused number place) = refl

outline_place : (o : Outcome) → verdict_place (verdict_in (outline_of o)) ≡ outcome_place o
outline_place (taken c) = refl
outline_place (refused number place) = refl

-- a text of a card
module _ (f : Card → List ℕ) (card : List ℕ) {was is : List ℕ} {a : Answer} (e : Entered was is (card_said card >>= (λ (c : Card). says (f c))) a) where
  printed : InRoom told (Read card) (λ w. f w.0) was is a
  printed = in_room_law told_faithful e (value (card_stage card) f) refl

  wrong : (r p : ℕ) → OfCard r → (a ≡ Refused r p) ↔ (read_of card ≡ refused r p)
  wrong r p l = before_room told_faithful e r p (of_card (only room_too_small) r l refl) ↔∙ card_first card (λ (c : Card). says (f c)) (λ c. among_says (f c)) r p l refl

  other : (r p : ℕ) → a ≡ Refused r p → (o : Outcome) → read_of card ≡ o → (1 ≤ r) × (OfCard r ⊎ (r ≡ room_too_small))
  other r p h (taken c) k = go (dec_le (length (f c)) (length was))
    where
      go : Dec (length (f c) ≤ length was) → (1 ≤ r) × (OfCard r ⊎ (r ≡ room_too_small))
      go (yes l) = let z = sym ((printed.done (length (f c))).1 ((c, k), l, refl)) ∙ h in done≢refused z
      go (no l) = let z : room_too_small ≡ r = ap answer_number (sym ((printed.small_room (length (f c))).1 ((c, k), omega arith, refl)) ∙ h) in (omega (arith, z), inr (sym z))
  other r p h (refused n q) k =
      let z : n ≡ r = ap answer_number (sym ((wrong n q (read_number card_rule card k)).1 k) ∙ h) in
      (omega (arith, z, number_some card_rule card k), inl (subst OfCard z (read_number card_rule card k)))

  prints : Prints f card was is a
  prints = record {
    wrong_card = wrong;
    small_room = λ p. printed.small_room p ↔∙ (λ h. (h.0.0, h.0.1, h.1, h.2), λ h. ((h.0, h.1), h.2, h.3));
    done = λ p. printed.done p ↔∙ (λ h. (h.0.0, h.0.1, h.1, h.2), λ h. ((h.0, h.1), h.2, h.3));
    stands = λ c t l. printed.stands (c, t) l;
    no_other = λ r p h. other r p h (read_of card) refl;
    untouched = printed.untouched;
    in_numbers = in_numbers a;
  }

pub write : (card was is : List ℕ) (a : Answer) → Entered was is (write_said card) a → Prints write_of card was is a
unfolding write_said
write card was is a e = prints write_of card e

pub reduce : (card was is : List ℕ) (a : Answer) → Entered was is (reduce_said card) a → Prints reduced_of card was is a
unfolding reduce_said
reduce card was is a e = prints reduced_of card e

-- the panel of a card and its seats
module _ (card seats was is : List ℕ) (a : Answer) (e : Entered was is (panel_said card seats) a) where
  shown : InRoom told ((w : Read card) × Seated w.0 seats) (λ z. panel_of z.0.0 (seating_of z.0.0 seats)) was is a
  shown = in_room_law told_faithful e (said card seats) refl

  wrong_shown : (r p : ℕ) → OfCard r → (a ≡ Refused r p) ↔ (read_of card ≡ refused r p)
  wrong_shown r p l = before_room told_faithful e r p (of_card (only room_too_small) r l refl) ↔∙ said_card card seats r p l

  other_shown : (r p : ℕ) → a ≡ Refused r p → Way card seats → (1 ≤ r) × ((r ≤ room_too_small) ⊎ (r ≡ decimal_weight))
  other_shown r p h (of_panel c k ok _) = go (dec_le (length (panel_of c (seating_of c seats))) (length was))
    where
      go : Dec (length (panel_of c (seating_of c seats)) ≤ length was) → (1 ≤ r) × ((r ≤ room_too_small) ⊎ (r ≡ decimal_weight))
      go (yes l) = done≢refused (sym ((shown.done (length (panel_of c (seating_of c seats)))).1 (((c, k), ok), l, refl)) ∙ h)
      go (no l) = let z : room_too_small ≡ r = ap answer_number (sym ((shown.small_room (length (panel_of c (seating_of c seats)))).1 (((c, k), ok), omega arith, refl)) ∙ h) in (omega (arith, z), inl (omega (arith, z)))
  other_shown r p h (card_way n q k _) =
      let z : n ≡ r = ap answer_number (sym ((wrong_shown n q (read_number card_rule card k)).1 k) ∙ h) in
      (omega (arith, z, number_some card_rule card k), more (subst OfCard z (read_number card_rule card k)))
    where
      more : OfCard r → (r ≤ room_too_small) ⊎ (r ≡ decimal_weight)
      more (inl l) = inl (omega arith)
      more (inr m) = inr m
  other_shown r p h (of_count c k n _) =
      let z : wrong_seats ≡ r = ap answer_number (sym ((before_room told_faithful e wrong_seats 0 refl ↔∙ said_count card seats 0).1 (c, k, n, refl)) ∙ h) in
      (omega (arith, z), inl (omega (arith, z)))
  other_shown r p h (of_seat c k n q f _) =
      let z : seat_above_top ≡ r = ap answer_number (sym ((before_room told_faithful e seat_above_top q refl ↔∙ said_seat card seats q).1 (c, k, n, f)) ∙ h) in
      (omega (arith, z), inl (omega (arith, z)))

  pub panel : Shows card seats was is a
  panel = record {
    wrong_card = wrong_shown;
    wrong_count = λ p. before_room told_faithful e wrong_seats p refl ↔∙ said_count card seats p;
    wrong_seat = λ p. before_room told_faithful e seat_above_top p refl ↔∙ said_seat card seats p;
    small_room = λ p. shown.small_room p ↔∙ (λ h. (h.0.0.0, h.0.0.1, h.0.1, h.1, h.2), λ h. (((h.0, h.1), h.2), h.3, h.4));
    done = λ p. shown.done p ↔∙ (λ h. (h.0.0.0, h.0.0.1, h.0.1, h.1, h.2), λ h. (((h.0, h.1), h.2), h.3, h.4));
    stands = λ c t ok l. shown.stands ((c, t), ok) l;
    no_other = λ r p h. other_shown r p h (way card seats);
    untouched = shown.untouched;
    in_numbers = in_numbers a;
  }

pub rooms : Rooms
rooms = record {
  written = λ card was is a e l p r. let (c, t, g, _) = ((write card was is a e).small_room p).0 r in omega (arith, g, written_room_law c (read_valid card_rule card c t));
  reduced = λ card was is a e l p r. let (c, t, g, _) = ((reduce card was is a e).small_room p).0 r in omega (arith, g, short c (read_valid card_rule card c t));
  shown = λ card seats was is a e l p r. let (c, t, ok, g, _) = ((panel card seats was is a e).small_room p).0 r in omega (arith, g, panel_fits c (read_valid card_rule card c t) (seating_of c seats) ok.valid);
  written_most = written_room_law;
  reduced_most = short;
  shown_most = panel_fits;
}

unique : Unique
unique = record {
  read = λ card x y h k. h.reading ∙ sym k.reading;
  read_into = λ card x y m n h k. (h.outline ∙ sym k.outline, h.memory ∙ sym k.memory);
  entered = λ was is₁ is₂ said a₁ a₂ h k. enters_unique h k;
  printed = λ was is₁ is₂ t l₁ l₂ h k. (h.length_is ∙ sym k.length_is, h.stands ∙ sym k.stands);
}

pub demand1 : Demand1
demand1 = record {
  read = λ card x h. (
    ap (λ (y : Reading). verdict_number (verdict_in y)) h.reading ∙ reads_number (read_of card),
    ap (λ (y : Reading). verdict_place (verdict_in y)) h.reading ∙ reads_place (read_of card),
    h.reading,
  );
  read_into = λ card x m h. (
    ap (λ (y : Outline). verdict_number (verdict_in y)) h.outline ∙ outline_number (read_of card),
    ap (λ (y : Outline). verdict_place (verdict_in y)) h.outline ∙ outline_place (read_of card),
    λ c e. (h.outline ∙ ap outline_of e, h.memory ∙ ap memory_of e),
    λ r p e. (h.outline ∙ ap outline_of e, h.memory ∙ ap memory_of e),
  );
  program = λ input was is long p. (p.stands, p.length_is);
  responds = responds;
  never_10 = never_10;
  input = input;
  rooms = rooms;
  unique = unique;
  write = write;
  reduce = reduce;
  panel = panel;
}
