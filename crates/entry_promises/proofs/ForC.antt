-- The entries' demands, carried over to answers in numbers: no refusal has the number 0, so the two numbers tell every
-- answer. Assumes nothing.
use Prim.Native.Nat.{ℕ, ◌≤◌}
use mathlib.Core.Path.{◌≡◌, refl, sym, ap, ◌∙◌, subst}
use mathlib.Core.Logic.{◌↔◌, ◌⊎◌, inl}
use mathlib.Core.List.{List}
use native.Mathlib.Omega.{arith}
use Rattle.card.specs.Weight.{card_rule}
use Rattle.card.specs.Refusals.{wrong_seats, seat_above_top, room_too_small, decimal_weight, OfCard}
use Rattle.card.specs.Card.{Card}
use Rattle.reading.specs.Reading.{Outcome, taken, refused, read_of}
use Rattle.reading.proofs.Numbers.{read_number}
use Rattle.entry.proofs.Exactly.{◌↔∙◌}
use Rattle.entry.proofs.Entries.{enters_unique}
use Rattle.room.specs.Answer.{Answer}
use Rattle.std.specs.Prelude.{Ok, Err}
use Rattle.room.specs.Answer.{Done, Refused}
use Rattle.room.specs.Answer.{Text, answer_number, answer_value, answered, Entered}
use Rattle.texts.specs.Writing.{write_of}
use Rattle.texts_said.specs.WriteSaid.{write_said}
use Rattle.texts.specs.ReducedText.{reduced_of}
use Rattle.texts_said.specs.ReduceSaid.{reduce_said}
use Rattle.panel_said.specs.PanelSaid.{panel_said}
use Rattle.answers.specs.declared.OpenPanelAnswer.{OpenPanelAnswer}
use Rattle.answers.specs.Numbered.{numbers}
use Rattle.told.specs.Told.{judged, Told}
use Rattle.entry_promises.specs.Entries.{Prints, Shows}
use Rattle.entry_promises.specs.ForC.{Answers, JudgeTells, TextTells, PanelTells, ForC}
use Rattle.card_promises.proofs.Numbers.{number_some}
use Rattle.entry_promises.proofs.Entries.{write, reduce, panel}

-- ---- an answer and its two numbers

module _ (a : Answer) (some : (number place : ℕ) → a ≡ Refused number place → 1 ≤ number) where
  pub tells_done : (long : ℕ) → Answers (numbers a) 0 long ↔ (a ≡ Done long)
  tells_done long = (forth a some, λ e. (ap answer_number e, ap answer_value e))
    where
      forth : (a : Answer) → ((number place : ℕ) → a ≡ Refused number place → 1 ≤ number) → Answers (numbers a) 0 long → a ≡ Done long
      forth (Ok l) h e = ap Done e.1
      forth (Err x) h e = absurd (omega (arith, e.0, h x.number x.place refl))

  pub tells_refused : (number place : ℕ) → 1 ≤ number → Answers (numbers a) number place ↔ (a ≡ Refused number place)
  tells_refused number place l = (forth a, λ e. (ap answer_number e, ap answer_value e))
    where
      forth : (a : Answer) → Answers (numbers a) number place → a ≡ Refused number place
      forth (Ok long) e = absurd (omega (arith, e.0))
      forth (Err x) e = λ i. Refused (e.0 i) (e.1 i)

  -- a number that is not 0 is a refusal's
  pub is_refused : (answer_number a ≡ 0 → ⊥) → (number : ℕ) × (place : ℕ) × (a ≡ Refused number place)
  is_refused h = go a h
    where
      go : (a : Answer) → (answer_number a ≡ 0 → ⊥) → (number : ℕ) × (place : ℕ) × (a ≡ Refused number place)
      go (Ok long) h = absurd (h refl)
      go (Err x) h = (x.number, x.place, refl)

  pub number_of : {P : ℕ → Type 0} → P 0 → ((number place : ℕ) → a ≡ Refused number place → P number) → P (answer_number a)
  number_of {P} z h = go a h
    where
      go : (a : Answer) → ((number place : ℕ) → a ≡ Refused number place → P number) → P (answer_number a)
      go (Ok long) h = z
      go (Err x) h = h x.number x.place refl

-- ---- the entries

text_tells : {f : Card → List ℕ} {card was is : List ℕ} (a : Answer) → Prints f card was is a → TextTells f card was is (numbers a)
text_tells a h =
    let some : (r p : ℕ) → a ≡ Refused r p → 1 ≤ r = λ r p e. (h.no_other r p e).0 in
    record {
      done = λ long. tells_done a some long ↔∙ h.done long;
      stands = h.stands;
      wrong_card = λ r p l m. tells_refused a some r p l ↔∙ h.wrong_card r p m;
      small_room = λ p. tells_refused a some room_too_small p (omega arith) ↔∙ h.small_room p;
      no_other = number_of a some {P = λ r. OfCard r ⊎ (r ≡ room_too_small)} (inl (inl (omega arith))) (λ r p e. (h.no_other r p e).1);
      untouched = λ z. let (r, p, e) = is_refused a some z in h.untouched r p e;
    }

panel_tells : {card seats was is : List ℕ} (a : Answer) → Shows card seats was is a → PanelTells card seats was is (numbers a)
panel_tells a h =
    let some : (r p : ℕ) → a ≡ Refused r p → 1 ≤ r = λ r p e. (h.no_other r p e).0 in
    record {
      done = λ long. tells_done a some long ↔∙ h.done long;
      stands = h.stands;
      wrong_card = λ r p l m. tells_refused a some r p l ↔∙ h.wrong_card r p m;
      wrong_count = λ p. tells_refused a some wrong_seats p (omega arith) ↔∙ h.wrong_count p;
      wrong_seat = λ p. tells_refused a some seat_above_top p (omega arith) ↔∙ h.wrong_seat p;
      small_room = λ p. tells_refused a some room_too_small p (omega arith) ↔∙ h.small_room p;
      no_other = number_of a some {P = λ r. (r ≤ room_too_small) ⊎ (r ≡ decimal_weight)} (inl (omega arith)) (λ r p e. (h.no_other r p e).1);
      untouched = λ z. let (r, p, e) = is_refused a some z in h.untouched r p e;
    }

-- the answer that C is told in numbers
pub entered : {was is : List ℕ} (said : Text) {r : OpenPanelAnswer} → Told was is said r → Entered was is said (answered said was)
entered said e = record { answers = refl; leaves = e.leaves }

taken≢refused : {A : Type 0} {c : Card} {r p : ℕ} → taken c ≡ refused r p → A
taken≢refused e = let z : ◌≡◌ {A = ℕ} 0 1 = cc in absurd (omega arith)

judge_tells : (card : List ℕ) → JudgeTells card (judged (read_of card))
judge_tells card = go (read_of card) refl
  where
    go : (o : Outcome) → read_of card ≡ o → JudgeTells card (judged o)
    go (taken c) e = record {
      fine = λ v. (λ h. (c, e, sym h.1), λ h. (refl, sym h.2));
      wrong_card = λ r p l. (λ h. absurd (omega (arith, h.0)), λ h. let z : ◌≡◌ {A = ℕ} 0 1 = taken≢refused (sym e ∙ h) in absurd (omega (arith, z)));
      no_other = inl (omega arith);
    }
    go (refused n q) e = record {
      fine = λ v. (λ h. absurd (omega (arith, h.0, number_some card_rule card e)), λ h. taken≢refused (sym h.1 ∙ e));
      wrong_card = λ r p l. (λ h. e ∙ rw (h.0, h.1), λ h. let z = sym e ∙ h in (ap (λ (x : Outcome). (judged x).number) z, ap (λ (x : Outcome). (judged x).value) z));
      no_other = read_number card_rule card e;
    }

pub for_c : ForC
for_c = record {
  unique = λ was is₁ is₂ said a₁ a₂ h k. enters_unique h k;
  judge = λ card a e. subst (JudgeTells card) (sym e) (judge_tells card);
  write = λ card was is a e. subst (TextTells write_of card was is) (sym e.answers) (text_tells (answered (write_said card) was) (write card was is _ (entered (write_said card) e)));
  reduce = λ card was is a e. subst (TextTells reduced_of card was is) (sym e.answers) (text_tells (answered (reduce_said card) was) (reduce card was is _ (entered (reduce_said card) e)));
  show = λ card seats was is a e. subst (PanelTells card seats was is) (sym e.answers) (panel_tells (answered (panel_said card seats) was) (panel card seats was is _ (entered (panel_said card seats) e)));
}
