-- Who may move, by citing; what C is told, as for the other entries; and the same refusals as the panel's, since both judge the card and then the
-- seats. Assumes nothing.
use Prim.Native.Nat.{ℕ, ◌≤◌}
use mathlib.Core.Path.{◌≡◌, refl, sym, ap, ◌∙◌, subst}
use mathlib.Core.Logic.{◌↔◌, ◌⊎◌, inl}
use mathlib.Core.List.{List, [], ◌∷◌}
use mathlib.Core.Option.{Option, none, some}
use native.Mathlib.Omega.{arith}
use Rattle.rows.proofs.Theorems.{of_card?}
use Rattle.card.specs.Refusals.{wrong_weight, wrong_seats, seat_above_top, OfCard, decimal_weight}
use Rattle.card.specs.Card.{nondeterministic, Card}
use Rattle.card.specs.Weight.{card_rule}
use Rattle.reading.specs.Reading.{Outcome, taken, refused as turned, read_of}
use Rattle.meaning.specs.Seats.{Seating, ValidSeating, Stuck}
use Rattle.meaning.specs.Panel.{Block, Panel, panel}
use Rattle.meaning.specs.Reordered.{Reordered}
use Rattle.meaning.proofs.Reorder.{reordered_valid}
use Rattle.entry.specs.Said.{Said, says, refused, ◌>>=◌}
use Rattle.entry.specs.Contract.{valued, lent_nothing, Faithful}
use Rattle.entry.proofs.Stages.{same_number, same_place, last}
use Rattle.entry.proofs.Exactly.{◌↔∙◌}
use Rattle.seating.specs.Judged.{seating_of, bytes_of}
use Rattle.seating.proofs.Judging.{valid_exactly}
use Rattle.seating.proofs.Bytes.{bytes_back, bytes_seated}
use Rattle.seating.proofs.SeatsStage.{seats_stage}
use Rattle.rows.specs.Said.{outcome_said}
use Rattle.panel_wording.specs.PanelText.{line, told as tells_shared, choice_text, stays_text, moves_text, block_text, blocks_text, panel_text, panel_of}
use Rattle.panel_said.specs.PanelSaid.{shown_said, panel_said}
use Rattle.moving.specs.FirstMove.{first_move}
use Rattle.moving.specs.Shown.{FirstChoice}
use Rattle.moving.proofs.FirstMove.{first_by_counts, rest_unread, equal_counts, reordered_first}
use Rattle.moving.proofs.FirstTaken.{first_exactly, nobody_exactly}
use Rattle.moving.proofs.Shown.{shown_first}
use Rattle.move_said.specs.MoveSaid.{move_seated, move_said, Moves}
use Rattle.able_seats.specs.Moved.{moved}
use Rattle.move_said.proofs.Theorems.{moves, moved_faithful}
use Rattle.tablet.specs.Moves.{moved_numbers}
use Rattle.entry_promises.specs.ForC.{Answers}
use Rattle.promises.specs.FirstMoves.{behind_counts, MoveMeaning, MoveTells, FirstMoves}
use Rattle.card_promises.proofs.Numbers.{number_some}

-- ---- the panel's text

module _ (p : Panel) (q : ℕ) where
  first_line : FirstChoice p.blocks (some q) → (rest : List ℕ) × (panel_text p ≡ behind_counts p (line "choice" (q ∷ []) rest))
  unfolding panel_text block_text
  first_line (b, r, parts, e) =
      let t = tells_shared p.shared in
      let rest = stays_text t b.stays (moves_text t b.moves (blocks_text t r [])) in
      (rest, ap (λ (l : List Block). behind_counts p (blocks_text t l [])) parts ∙ ap (λ (o : Option ℕ). behind_counts p (choice_text o rest)) e)

shown_text : (c : Card) (x : Seating) (q : ℕ) → c.mode ≡ nondeterministic → first_move c x ≡ some q
    → (rest : List ℕ) × (panel_of c x ≡ behind_counts (panel c x) (line "choice" (q ∷ []) rest))
unfolding panel_of
shown_text c x q m e = first_line (panel c x) q (subst (FirstChoice (panel c x).blocks) e (shown_first c x free m))
  where
    free : Stuck c x → ⊥
    free s = let z : none ≡ some q = sym ((nobody_exactly c x).1 s) ∙ e in let y : ◌≡◌ {A = ℕ} 0 1 = cc in omega (arith, y)

meaning : MoveMeaning
meaning = record {
  first = first_exactly;
  nobody = nobody_exactly;
  by_counts = first_by_counts;
  rest_unread = rest_unread;
  equal_counts = equal_counts;
  reordered = λ c r ok. reordered_first c r ok;
  shown = λ c x e free. shown_first c x free e;
  shown_text = shown_text;
}

-- ---- what is answered

told : (s : Said (Option ℕ)) → s ≡ valued (lent_nothing tt s)
told (says m) = refl
told (refused number place) = refl

module _ (card seats : List ℕ) where
  answers : {T : Type 0} {tell : Said (Option ℕ) → T} → Faithful tell → Moves tell card seats (tell (move_said card seats))
  answers {T} {tell} faithful = moves card seats faithful (record { answers = ap tell (told (move_said card seats)); leaves = refl })

-- ---- the answer in numbers: no refusal has the number 0 and no statement the place 0, so they tell every answer

module _ (s : Said (Option ℕ)) where
  tells_refused : (number place : ℕ) → 1 ≤ number → Answers (moved_numbers s) number place ↔ (s ≡ refused number place)
  tells_refused number place l = (forth s, λ e. (ap (λ (x : Said (Option ℕ)). (moved_numbers x).number) e, ap (λ (x : Said (Option ℕ)). (moved_numbers x).value) e))
    where
      forth : (s : Said (Option ℕ)) → Answers (moved_numbers s) number place → s ≡ refused number place
      forth (says (some q)) e = absurd (omega (arith, e.0))
      forth (says none) e = absurd (omega (arith, e.0))
      forth (refused n p) e = rw (e.0, e.1)

  module _ (some_number : (number place : ℕ) → s ≡ refused number place → 1 ≤ number) where
    tells_statement : (q : ℕ) → 1 ≤ q → Answers (moved_numbers s) 0 q ↔ (s ≡ says (some q))
    tells_statement q l = (forth s some_number, λ e. (ap (λ (x : Said (Option ℕ)). (moved_numbers x).number) e, ap (λ (x : Said (Option ℕ)). (moved_numbers x).value) e))
      where
        forth : (s : Said (Option ℕ)) → ((number place : ℕ) → s ≡ refused number place → 1 ≤ number) → Answers (moved_numbers s) 0 q → s ≡ says (some q)
        forth (says (some p)) h e = rw e.1
        forth (says none) h e = absurd (omega (arith, e.1))
        forth (refused n p) h e = absurd (omega (arith, e.0, h n p refl))

    tells_nobody : ((q : ℕ) → s ≡ says (some q) → 1 ≤ q) → Answers (moved_numbers s) 0 0 ↔ (s ≡ says none)
    tells_nobody placed =
        (forth s some_number placed, λ e. (ap (λ (x : Said (Option ℕ)). (moved_numbers x).number) e, ap (λ (x : Said (Option ℕ)). (moved_numbers x).value) e))
      where
        forth : (s : Said (Option ℕ)) → ((number place : ℕ) → s ≡ refused number place → 1 ≤ number) → ((q : ℕ) → s ≡ says (some q) → 1 ≤ q)
            → Answers (moved_numbers s) 0 0 → s ≡ says none
        forth (says (some p)) h k e = absurd (omega (arith, e.1, k p refl))
        forth (says none) h k e = refl
        forth (refused n p) h k e = absurd (omega (arith, e.0, h n p refl))

  number_of : {P : ℕ → Type 0} → P 0 → ((number place : ℕ) → s ≡ refused number place → P number) → P (moved_numbers s).number
  number_of {P} z h = go s h
    where
      go : (s : Said (Option ℕ)) → ((number place : ℕ) → s ≡ refused number place → P number) → P (moved_numbers s).number
      go (says (some q)) h = z
      go (says none) h = z
      go (refused n p) h = h n p refl

move_tells : (card seats : List ℕ) → MoveTells card seats (moved_numbers (move_said card seats))
move_tells card seats =
    record {
      statement = λ q l. tells_statement s some_number q l ↔∙ h.statement q;
      nobody = tells_nobody s some_number placed ↔∙ h.nobody;
      wrong_card = λ r p l m. tells_refused s r p l ↔∙ h.wrong_card r p m;
      wrong_count = λ p. tells_refused s wrong_seats p (omega arith) ↔∙ h.wrong_count p;
      wrong_seat = λ p. tells_refused s seat_above_top p (omega arith) ↔∙ h.wrong_seat p;
      no_other = number_of s {P = λ r. (r ≤ seat_above_top) ⊎ (r ≡ decimal_weight)} (inl (omega arith)) h.no_other;
    }
  where
    s : Said (Option ℕ)
    s = move_said card seats

    h : Moves (λ (t : Said (Option ℕ)). t) card seats s
    h = answers card seats (λ t u e. e)

    some_number : (r p : ℕ) → s ≡ refused r p → 1 ≤ r
    some_number r p e = go (of_card? r)
      where
        go : Dec (OfCard r) → 1 ≤ r
        go (yes l) = number_some card_rule card ((h.wrong_card r p l).0 e)
        go (no l) = let m : r ≤ wrong_weight → ⊥ = λ h. l (inl h) in omega arith

    placed : (q : ℕ) → s ≡ says (some q) → 1 ≤ q
    placed q e = omega (arith, ((h.statement q).0 e).1.1.place)

-- ---- beside the panel

turn : {A B : Type 0} → A ↔ B → B ↔ A
turn h = (h.1, h.0)

module _ {A B : Type 0} (r p : ℕ) (f : Card → Said A) (g : Card → Said B) (h : (c : Card) → (f c ≡ refused r p) ↔ (g c ≡ refused r p)) where
  alike : (o : Outcome) → (outcome_said o >>= f ≡ refused r p) ↔ (outcome_said o >>= g ≡ refused r p)
  alike (taken c) = h c
  alike (turned n q) = (λ e. rw (same_number e, same_place e), λ e. rw (same_number e, same_place e))

as_panel : (card seats : List ℕ) (r p : ℕ) → (move_said card seats ≡ refused r p) ↔ (panel_said card seats ≡ refused r p)
unfolding move_said panel_said
as_panel card seats r p = alike r p (move_seated seats) (shown_said seats)
    (λ c. last (seats_stage seats c) (λ _. first_move c (seating_of c seats)) r p ↔∙ turn (last (seats_stage seats c) (λ _. panel_of c (seating_of c seats)) r p)) (read_of card)

module _ (card : List ℕ) (c : Card) (h : read_of card ≡ taken c) where
  fine : (x : Seating) → ValidSeating c x → move_said card (bytes_of c x) ≡ says (first_move c x)
  unfolding move_said
  fine x ok = rw (h, (valid_exactly c (bytes_of c x)).1 (bytes_seated c x ok), bytes_back c x ok)

  reordered : {x y : Seating} → Reordered x y → ValidSeating c x → move_said card (bytes_of c x) ≡ move_said card (bytes_of c y)
  reordered {x} {y} r ok = fine x ok ∙ ap says (reordered_first c r ok) ∙ sym (fine y (reordered_valid c r ok))

pub first_moves : FirstMoves
first_moves = record {
  meaning = meaning;
  answers = λ card seats a e. subst (Moves moved card seats) (sym e) (answers card seats moved_faithful);
  for_c = λ card seats a e. subst (MoveTells card seats) (sym e) (move_tells card seats);
  as_panel = as_panel;
  reordered = λ card c h r ok. reordered card c h r ok;
}
