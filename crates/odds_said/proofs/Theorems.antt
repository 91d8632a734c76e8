-- What `odds` answers, refusal by refusal: each is that of the stage which gives its number, where the stages before it pass; by the theorem of
-- stages, since no two stages share a number. Assumes nothing.
use Prim.Native.Nat.{ℕ, ◌≤◌, ◌<◌}
use mathlib.Core.Path.{◌≡◌, refl, sym, ap, ◌∙◌}
use mathlib.Core.Bool.{Bool, true, false, ◌&&◌, and-eq-true_iff, false≢true}
use mathlib.Core.Logic.{◌↔◌, ◌⊎◌, inl, inr}
use mathlib.Core.List.{List, [], ◌++◌}
use native.Mathlib.Omega.{arith}
use borrow.Author.Tests.{leb-true, leb-false, le-leb, lt-leb, eqb-true, eq-eqb}
use lib.Dec.{eqb, leb}
use lib.ListN.{length}
use Rattle.card.specs.Refusals.{too_long, not_due, wrong_seats, seat_above_top, decimal_weight}
use Rattle.card.specs.Card.{Card}
use Rattle.card.specs.Valid.{values_of}
use Rattle.meaning.specs.Seats.{counted}
use Rattle.entry.specs.Said.{Said, says, refused, ◌>>=◌}
use Rattle.entry.specs.Numbers.{Numbers, only, among}
use Rattle.entry.specs.Contract.{Ends, Two, Enters, in_rows, Faithful}
use Rattle.entry.specs.Stage.{Stage}
use Rattle.entry.proofs.Stages.{in_span, apart_out, refused_unless, itself, test, value, followed, its, beyond, last, by_span}
use Rattle.entry.proofs.Exactly.{◌↔∙◌}
use Rattle.entry.proofs.Entries.{ends_left, answer_refused, answer_says, refused_left}
use Rattle.seating.specs.Judged.{seating_of, Seated}
use Rattle.seating.specs.SeatsSaid.{seats_said, seats_numbers}
use Rattle.seating.proofs.SeatsStage.{seats_stage, wrong_count, wrong_seat}
use Rattle.rows.specs.Said.{card_numbers, Read}
use Rattle.rows.proofs.Theorems.{card_stage, card_first}
use Rattle.asking.specs.Meant.{Question}
use Rattle.asking.specs.Asking.{in_question}
use Rattle.asking.proofs.Answers.{numbered}
use Rattle.ask_said.specs.AskSaid.{question_said, question_numbers, Understood}
use Rattle.evenings.specs.Limits.{most_nights, most_vectors, too_many_vectors, too_many_nights, wrong_row}
use Rattle.evenings.specs.Rounds.{Aim}
use Rattle.chances.specs.Chances.{positions_of}
use Rattle.odds_said.specs.OddsSaid.{vectors_said, nights_said, rows_said, odds_of, odds_seated, odds_card, odds_said, Fits, Odds}

-- ---- tests and what they say

fewer : (a b : ℕ) → (leb a b ≡ true) ↔ (a ≤ b)
fewer a b = (leb-true a b, le-leb a b)

more : (a b : ℕ) → (leb a b ≡ false) ↔ (b < a)
more a b = (leb-false a b, lt-leb a b)

rows_right : (long long₁ : ℕ) → (eqb long most_vectors && eqb long₁ most_vectors ≡ true) ↔ ((long ≡ most_vectors) × (long₁ ≡ most_vectors))
rows_right long long₁ = (
  (λ e. let b = (and-eq-true_iff (eqb long most_vectors) (eqb long₁ most_vectors)).0 e in (eqb-true long most_vectors b.0, eqb-true long₁ most_vectors b.1)),
  (λ h. rw (eq-eqb long most_vectors h.0, eq-eqb long₁ most_vectors h.1)),
)

not_true : {P : Type 0} (b : Bool) → (b ≡ true) ↔ P → (b ≡ false) ↔ (P → ⊥)
not_true true h = (λ e. absurd (false≢true (sym e)), λ n. absurd (n (h.0 refl)))
not_true false h = (λ e p. false≢true (h.1 p), λ n. refl)

-- of both parts
both : {A B P Q : Type 0} → A ↔ B → P ↔ Q → (A × P) ↔ (B × Q)
both f g = (λ h. (f.0 h.0, g.0 h.1), λ h. (f.1 h.0, g.1 h.1))

same : {A : Type 0} → A ↔ A
same = (λ a. a, λ a. a)

-- ---- the stages

module _ (card question seats : List ℕ) (m : ℕ) (a : Aim) (long long₁ : ℕ) where
  abbrev few : Card → Bool
  few c = leb (length (positions_of c)) most_vectors

  abbrev near : Bool
  near = leb m most_nights

  abbrev right : Bool
  right = eqb long most_vectors && eqb long₁ most_vectors

  asked : (c : Card) → Stage (question_said question c) question_numbers (Understood question c) (λ u. u.0)
  asked c = itself (record { number = λ r p e. let (l, m) = numbered c.n c.k (values_of c.shared) question r p e in rw (in_span (in_question too_long) (in_question not_due) r l m) })

  module _ (c : Card) (q : Question) where
    abbrev ends : Ends ℕ (Two (List ℕ))
    ends = odds_of c q a m (counted c.k (seating_of c seats))

    abbrev after_nights : Said (Ends ℕ (Two (List ℕ)))
    after_nights = rows_said long long₁ >>= (λ _. says ends)

    abbrev after_vectors : Said (Ends ℕ (Two (List ℕ)))
    after_vectors = nights_said m >>= (λ _. after_nights)

    abbrev after_seats : Said (Ends ℕ (Two (List ℕ)))
    after_seats = vectors_said c >>= (λ _. after_vectors)

    after_nights_law : Stage after_nights (only wrong_row ++ []) (right ≡ true) (λ _. ends)
    after_nights_law = value (test right wrong_row 0) (λ _. ends)

    after_vectors_law : Stage after_vectors (only too_many_nights ++ (only wrong_row ++ [])) ((w : near ≡ true) × (right ≡ true)) (λ _. ends)
    after_vectors_law = followed (test near too_many_nights 0) (λ _. after_nights) (λ _. after_nights_law.numbers) (λ _. after_nights_law.found)

    after_seats_law : Stage after_seats (only too_many_vectors ++ (only too_many_nights ++ (only wrong_row ++ []))) ((w : few c ≡ true) × ((u : near ≡ true) × (right ≡ true))) (λ _. ends)
    after_seats_law = followed (test (few c) too_many_vectors 0) (λ _. after_vectors) (λ _. after_vectors_law.numbers) (λ _. after_vectors_law.found)

    seated : Stage (odds_seated seats m a long long₁ c q) (seats_numbers ++ (only too_many_vectors ++ (only too_many_nights ++ (only wrong_row ++ []))))
        ((s : Seated c seats) × ((w : few c ≡ true) × ((u : near ≡ true) × (right ≡ true)))) (λ _. ends)
    seated = followed (seats_stage seats c) (λ _. after_seats) (λ _. after_seats_law.numbers) (λ _. after_seats_law.found)

    -- each refusal behind the question
    seats_number : (r p : ℕ) → among (only too_many_vectors ++ (only too_many_nights ++ (only wrong_row ++ []))) r ≡ false
        → (odds_seated seats m a long long₁ c q ≡ refused r p) ↔ (seats_said seats c ≡ refused r p)
    seats_number r p h = its (seats_stage seats c) (λ _. after_seats) (λ _. after_seats_law.numbers) r p h

    vectors_number : (p : ℕ) → (odds_seated seats m a long long₁ c q ≡ refused too_many_vectors p) ↔ (Seated c seats × ((most_vectors < length (positions_of c)) × (p ≡ 0)))
    vectors_number p = beyond (seats_stage seats c) (λ _. after_seats) too_many_vectors p refl (λ _.
        its (test (few c) too_many_vectors 0) (λ _. after_vectors) (λ _. after_vectors_law.numbers) too_many_vectors p refl
        ↔∙ refused_unless too_many_vectors 0 (few c) p ↔∙ both (more (length (positions_of c)) most_vectors) same)

    nights_number : (p : ℕ) → (odds_seated seats m a long long₁ c q ≡ refused too_many_nights p)
        ↔ (Seated c seats × ((length (positions_of c) ≤ most_vectors) × ((most_nights < m) × (p ≡ 0))))
    nights_number p = beyond (seats_stage seats c) (λ _. after_seats) too_many_nights p refl (λ _.
        beyond (test (few c) too_many_vectors 0) (λ _. after_vectors) too_many_nights p refl (λ _.
        its (test near too_many_nights 0) (λ _. after_nights) (λ _. after_nights_law.numbers) too_many_nights p refl
        ↔∙ refused_unless too_many_nights 0 near p ↔∙ both (more m most_nights) same)
        ↔∙ both (fewer (length (positions_of c)) most_vectors) same)

    rows_number : (p : ℕ) → (odds_seated seats m a long long₁ c q ≡ refused wrong_row p)
        ↔ (Seated c seats × ((length (positions_of c) ≤ most_vectors) × ((m ≤ most_nights) × (((long ≡ most_vectors) × (long₁ ≡ most_vectors) → ⊥) × (p ≡ 0)))))
    rows_number p = beyond (seats_stage seats c) (λ _. after_seats) wrong_row p refl (λ _.
        beyond (test (few c) too_many_vectors 0) (λ _. after_vectors) wrong_row p refl (λ _.
        beyond (test near too_many_nights 0) (λ _. after_nights) wrong_row p refl (λ _.
        last (test right wrong_row 0) (λ _. ends) wrong_row p
        ↔∙ refused_unless wrong_row 0 right p ↔∙ both (not_true right (rows_right long long₁)) same)
        ↔∙ both (fewer m most_nights) same)
        ↔∙ both (fewer (length (positions_of c)) most_vectors) same)

  abbrev row_numbers : Numbers
  row_numbers = only too_many_vectors ++ (only too_many_nights ++ (only wrong_row ++ []))

  abbrev Taken : Card → Type 0
  Taken c = (s : Seated c seats) × ((w : few c ≡ true) × ((u : near ≡ true) × (right ≡ true)))

  behind : (c : Card) → Stage (odds_card question seats m a long long₁ c) (question_numbers ++ (seats_numbers ++ row_numbers))
      ((u : Understood question c) × Taken c) (λ z. ends c z.0.0)
  behind c = followed (asked c) (odds_seated seats m a long long₁ c) (λ q. (seated c q).numbers) (λ u. (seated c u.0).found)

  pub said : Stage (odds_said card question seats m a long long₁) (card_numbers ++ (question_numbers ++ (seats_numbers ++ row_numbers)))
      ((w : Read card) × ((u : Understood question w.0) × Taken w.0)) (λ z. ends z.0.0 z.1.0.0)
  unfolding odds_said
  said = followed (card_stage card) (odds_card question seats m a long long₁) (λ c. (behind c).numbers) (λ w. (behind w.0).found)

  -- a refusal behind the card's and the question's
  deeper : {P : (w : Read card) → Understood question w.0 → Type 0} (r p : ℕ) → among card_numbers r ≡ false → among question_numbers r ≡ false
      → ((w : Read card) (u : Understood question w.0) → (odds_seated seats m a long long₁ w.0 u.0 ≡ refused r p) ↔ P w u)
      → (odds_said card question seats m a long long₁ ≡ refused r p) ↔ ((w : Read card) × ((u : Understood question w.0) × P w u))
  unfolding odds_said
  deeper r p h k each = beyond (card_stage card) (odds_card question seats m a long long₁) r p h (λ w.
      beyond (asked w.0) (odds_seated seats m a long long₁ w.0) r p k (each w))

  -- no other number
  other : (r p : ℕ) → odds_said card question seats m a long long₁ ≡ refused r p
      → ((r ≤ seat_above_top) ⊎ ((too_many_vectors ≤ r) × (r ≤ decimal_weight))) ⊎ ((in_question too_long ≤ r) × (r ≤ in_question not_due))
  other r p e = by_span (card_numbers ++ (question_numbers ++ (seats_numbers ++ row_numbers))) r (said.numbers.number r p e)
      ((λ l m. inl (inl (omega arith))), ((λ l m. inl (inr (omega arith, m))), ((λ l m. inr (l, m)), ((λ l m. inl (inl m)), ((λ l m. inl (inr (l, omega arith))), ((λ l m. inl (inr (omega arith, omega arith))), ((λ l m. inl (inr (omega arith, omega arith))), tt)))))))

-- ---- the promise

module _ (card question seats : List ℕ) (m : ℕ) (aim : Aim) (was is : Two (List ℕ)) where
  abbrev what : Said (Ends ℕ (Two (List ℕ)))
  what = odds_said card question seats m aim (length was.first) (length was.second)

  module _ {T : Type 0} {tell : Said ℕ → T} (faithful : Faithful tell) {a : T} (e : Enters in_rows tell was is what a) where
    found : (c : Read card) (q : Understood question c.0) → Fits c.0 seats m was → what ≡ says (odds_of c.0 q.0 aim m (counted c.0.k (seating_of c.0 seats)))
    found c q f = (said card question seats m aim (length was.first) (length was.second)).found.each (
      c,
      (
        q,
        (
          f.seating,
          ((fewer (length (positions_of c.0)) most_vectors).1 f.few, ((fewer m most_nights).1 f.near, (rows_right (length was.first) (length was.second)).1 (f.first_row, f.second_row))),
        ),
      ),
    )

    number : (r p : ℕ) → (a ≡ tell (refused r p)) ↔ (what ≡ refused r p)
    number r p = answer_refused e faithful r p

    pub odds : Odds tell card question seats m aim was is a
    unfolding odds_said
    odds =
        let l = length was.first in
        let l₁ = length was.second in
        record {
          wrong_card = λ r p h. number r p ↔∙ card_first card (odds_card question seats m aim l l₁) (λ c. (behind card question seats m aim l l₁ c).numbers) r p h refl;
          wrong_question = λ r p h k.
              let q : among question_numbers r ≡ true = rw (in_span (in_question too_long) (in_question not_due) r h k) in
              number r p
              ↔∙ beyond (card_stage card) (odds_card question seats m aim l l₁) r p (apart_out question_numbers card_numbers r refl q)
              (λ w. its (asked card question seats m aim l l₁ w.0) (odds_seated seats m aim l l₁ w.0) (λ u. (seated card question seats m aim l l₁ w.0 u).numbers) r p
              (apart_out question_numbers (seats_numbers ++ row_numbers card question seats m aim l l₁) r refl q));
          wrong_count = λ p. number wrong_seats p
              ↔∙ deeper card question seats m aim l l₁ wrong_seats p refl refl (λ w u. seats_number card question seats m aim l l₁ w.0 u.0 wrong_seats p refl ↔∙ wrong_count seats w.0 p);
          wrong_seat = λ p. number seat_above_top p
              ↔∙ deeper card question seats m aim l l₁ seat_above_top p refl refl (λ w u. seats_number card question seats m aim l l₁ w.0 u.0 seat_above_top p refl ↔∙ wrong_seat seats w.0 p);
          too_many_vectors_holds = λ p. number too_many_vectors p
              ↔∙ deeper card question seats m aim l l₁ too_many_vectors p refl refl (λ w u. vectors_number card question seats m aim l l₁ w.0 u.0 p);
          too_many_nights_holds = λ p. number too_many_nights p
              ↔∙ deeper card question seats m aim l l₁ too_many_nights p refl refl (λ w u. nights_number card question seats m aim l l₁ w.0 u.0 p);
          wrong_rows = λ p. number wrong_row p
              ↔∙ deeper card question seats m aim l l₁ wrong_row p refl refl (λ w u. rows_number card question seats m aim l l₁ w.0 u.0 p);
          answered = λ x. answer_says e faithful x ↔∙ (
            (λ h.
                let (z, at) = (said card question seats m aim l l₁).found.only h.0 h.1 in
                let right = (rows_right l l₁).0 z.1.1.1.1.1 in (
                  z.0,
                  (
                    z.1.0,
                    (
                      record {
                        seating = z.1.1.0;
                        few = (fewer (length (positions_of z.0.0)) most_vectors).0 z.1.1.1.0;
                        near = (fewer m most_nights).0 z.1.1.1.1.0;
                        first_row = right.0;
                        second_row = right.1;
                      },
                      h.2 ∙ ap (λ (y : Ends ℕ (Two (List ℕ))). y.value) at,
                    ),
                  ),
                )),
            (λ h. (odds_of h.0.0 h.1.0.0 aim m (counted h.0.0.k (seating_of h.0.0 seats)), found h.0 h.1.0 h.1.1.0, h.1.1.1)),
          );
          first_holds = λ c q f. ap (λ (y : Two (List ℕ)). y.first) (ends_left e (found c q f));
          second_holds = λ c q f. ap (λ (y : Two (List ℕ)). y.second) (ends_left e (found c q f));
          untouched = λ r p h. refused_left e faithful r p h;
          no_other = λ r p h. other card question seats m aim l l₁ r p ((number r p).0 h);
        }
