-- Questions, by citing; and what C is told, as for the other entries. Assumes nothing.
use Prim.Native.Nat.{ℕ, ◌≤◌, ◌<◌}
use mathlib.Core.Path.{◌≡◌, refl, sym, ap, ◌∙◌, subst}
use mathlib.Core.Bool.{Bool, true, false}
use mathlib.Core.Logic.{◌↔◌, ◌⊎◌, inl}
use mathlib.Core.List.{List}
use native.Mathlib.Omega.{arith}
use lib.ListN.{length}
use Rattle.rows.proofs.Theorems.{of_card?}
use Rattle.card.specs.Weight.{card_rule}
use Rattle.card.specs.Refusals.{wrong_weight, wrong_seats, seat_above_top, OfCard, decimal_weight}
use Rattle.card.specs.Card.{atom, Card}
use Rattle.card.specs.Formulas.{over}
use Rattle.card.specs.Valid.{ValidCard}
use Rattle.reading.specs.Group.{Literal}
use Rattle.grammar.specs.Rules.{OnceEach}
use Rattle.meaning.specs.Seats.{Seating, ValidSeating, counted}
use Rattle.meaning.specs.ByCounts.{held_at}
use Rattle.entry.specs.Said.{Said, says, refused}
use Rattle.entry.specs.Contract.{valued, lent_nothing, yes_no}
use Rattle.entry.proofs.Exactly.{◌↔∙◌}
use Rattle.asking.specs.Meant.{of_all, Question, holds_on, leaf_for}
use Rattle.asking.specs.Asking.{Everyone}
use Rattle.asking.proofs.Meant.{leaf_counter, question_held, question_by_counts, equal_counts, reordered_question, one_count, one_alone, one_in_words}
use Rattle.asking.proofs.Fitting.{everyone_exactly, one_exactly}
use Rattle.asking.proofs.AsWritten.{as_written}
use Rattle.asking.proofs.Looking.{starts_exactly}
use Rattle.asking.proofs.Valid.{taken_valid}
use Rattle.asking.proofs.Answers.{accepted, refusal_21, refusal_22, refusal_23, refusal_24, refusal_25, refusal_26, numbered}
use Rattle.ask_said.specs.AskSaid.{ask_said, Asks}
use Rattle.ask_said.proofs.Theorems.{asks}
use Rattle.tablet.specs.AskedTold.{answered_numbers}
use Rattle.entry_promises.specs.ForC.{Answers}
use Rattle.promises.specs.Questions.{QuestionMeaning, QuestionReadings, as_said, AskTells, Questions}
use Rattle.card_promises.proofs.Numbers.{number_some}

laid : (c : Card) → ValidCard c → (x : Seating) → ValidSeating c x → (own : ℕ) (q : Question)
    → holds_on x q ≡ held_at c.n own (counted c.k x) (over leaf_for q)
laid c v x ok own q =
    let l : 0 < length x.each = omega (arith, ok.seats, v.seats) in
    question_held c.k x ok.states l own q ∙ ap (λ (n : ℕ). held_at n own (counted c.k x) (over leaf_for q)) ok.seats

meaning : QuestionMeaning
meaning = record {
  as_written = as_written;
  by_counts = λ c v. question_by_counts c v.seats;
  group_translated = λ n j s q d. ap atom (sym (leaf_counter n j (of_all s q d)));
  one_translated = λ n d. refl;
  test_translated = λ n j q v. (refl, refl);
  one_in_words = λ x d. one_in_words d x;
  one_by_number = λ x d. one_count d x;
  one_of_one = λ a g d. one_alone d a g;
  equal_counts = λ c v. equal_counts c v.seats;
  reordered = λ c v r. reordered_question c v.seats r;
  laid = laid;
}

-- the first seat is named by everyone alone
others : (n : ℕ) (ls : List Literal) → 1 ≤ n → OnceEach 2 n ls → Everyone n ls → ⊥
others n ls h o e = omega (arith, e.seats.once 1 (omega arith) h, o.only 1 (inl (omega arith)))

readings : QuestionReadings
readings = record {
  accepted = accepted;
  valid = taken_valid;
  starts = starts_exactly;
  is_everyone_holds = everyone_exactly;
  is_exactly_one_holds = one_exactly;
  others = others;
  row_21 = refusal_21;
  row_22 = refusal_22;
  row_23 = refusal_23;
  row_24 = refusal_24;
  row_25 = refusal_25;
  row_26 = refusal_26;
  no_other = numbered;
}

told : (s : Said Bool) → s ≡ valued (lent_nothing tt s)
told (says b) = refl
told (refused number place) = refl

-- ---- the answer in numbers: no refusal has the number 0, so they tell every answer

module _ (s : Said Bool) where
  tells_refused : (number place : ℕ) → 1 ≤ number → Answers (answered_numbers s) number place ↔ (s ≡ refused number place)
  tells_refused number place l = (forth s, λ e. (ap (λ (x : Said Bool). (answered_numbers x).number) e, ap (λ (x : Said Bool). (answered_numbers x).value) e))
    where
      forth : (s : Said Bool) → Answers (answered_numbers s) number place → s ≡ refused number place
      forth (says true) e = absurd (omega (arith, e.0))
      forth (says false) e = absurd (omega (arith, e.0))
      forth (refused n p) e = rw (e.0, e.1)

  tells_answer : ((number place : ℕ) → s ≡ refused number place → 1 ≤ number) → (b : Bool) → Answers (answered_numbers s) 0 (yes_no b) ↔ (s ≡ says b)
  tells_answer some b = (forth s some b, back b)
    where
      forth : (s : Said Bool) → ((number place : ℕ) → s ≡ refused number place → 1 ≤ number) → (b : Bool) → Answers (answered_numbers s) 0 (yes_no b) → s ≡ says b
      forth (says true) h true e = refl
      forth (says true) h false e = absurd (omega (arith, e.1))
      forth (says false) h true e = absurd (omega (arith, e.1))
      forth (says false) h false e = refl
      forth (refused n p) h b e = absurd (omega (arith, e.0, h n p refl))

      told_yes : (b : Bool) → Answers (answered_numbers (says b)) 0 (yes_no b)
      told_yes true = (refl, refl)
      told_yes false = (refl, refl)

      back : (b : Bool) → s ≡ says b → Answers (answered_numbers s) 0 (yes_no b)
      back b e = rw e (told_yes b)

  number_of : {P : ℕ → Type 0} → P 0 → ((number place : ℕ) → s ≡ refused number place → P number) → P (answered_numbers s).number
  number_of {P} z h = go s h
    where
      go : (s : Said Bool) → ((number place : ℕ) → s ≡ refused number place → P number) → P (answered_numbers s).number
      go (says true) h = z
      go (says false) h = z
      go (refused n p) h = h n p refl

ask_tells : (card question seats : List ℕ) → Asks as_said card question seats (ask_said card question seats) → AskTells card question seats (answered_numbers (ask_said card question seats))
ask_tells card question seats h =
    record {
      answered = λ yes. tells_answer s some yes ↔∙ h.answered yes;
      wrong_card = λ r p l m. tells_refused s r p l ↔∙ h.wrong_card r p m;
      wrong_question = λ r p l m. tells_refused s r p (omega arith) ↔∙ h.wrong_question r p l m;
      wrong_count = λ p. tells_refused s wrong_seats p (omega arith) ↔∙ h.wrong_count p;
      wrong_seat = λ p. tells_refused s seat_above_top p (omega arith) ↔∙ h.wrong_seat p;
      no_other = number_of s {P = λ r. ((r ≤ seat_above_top) ⊎ (r ≡ decimal_weight)) ⊎ ((21 ≤ r) × (r ≤ 26))} (inl (inl (omega arith))) h.no_other;
    }
  where
    s : Said Bool
    s = ask_said card question seats

    some : (r p : ℕ) → s ≡ refused r p → 1 ≤ r
    some r p e = go (of_card? r)
      where
        go : Dec (OfCard r) → 1 ≤ r
        go (yes l) = number_some card_rule card ((h.wrong_card r p l).0 e)
        go (no l) = let m : r ≤ wrong_weight → ⊥ = λ h. l (inl h) in omega arith

answers : (card question seats : List ℕ) → Asks as_said card question seats (ask_said card question seats)
answers card question seats = asks card question seats (λ s t e. e) (record { answers = told (ask_said card question seats); leaves = refl })

pub questions : Questions
questions = record {
  meaning = meaning;
  readings = readings;
  answers = answers;
  for_c = λ card question seats a e. subst (AskTells card question seats) (sym e) (ask_tells card question seats (answers card question seats));
}
