-- The odds after several nights, by citing; what C is told, as for the other entries: no refusal has the number 0. Assumes nothing.
use Prim.Native.Nat.{ℕ, zero, suc, ◌-◌, ◌≤◌}
use mathlib.Core.Path.{◌≡◌, refl, sym, ap, ◌∙◌, subst}
use mathlib.Core.Logic.{◌⊎◌, inl}
use mathlib.Core.List.{List, [], ◌∷◌, ◌++◌, map}
use native.Mathlib.Omega.{arith}
use borrow.Author.Tests.{ne_eqb}
use lib.ListN.{length, get_or, length-map, length-append}
use Rattle.rows.proofs.Theorems.{of_card?}
use Rattle.card.specs.Laid.{zeros, padded}
use Rattle.card.proofs.Filling.{length_zeros}
use Rattle.card.specs.Weight.{card_rule}
use Rattle.card.specs.Refusals.{wrong_weight, wrong_seats, seat_above_top, OfCard}
use Rattle.card.specs.Card.{Card}
use Rattle.reading.specs.Reading.{taken, read_of}
use Rattle.meaning.specs.Position.{Position, shared_values}
use Rattle.meaning.specs.Seats.{Seating, ValidSeating, counted}
use Rattle.meaning.specs.Reordered.{Reordered}
use Rattle.meaning.proofs.Reorder.{reordered_valid, reordered_counts}
use Rattle.entry.specs.Said.{Said, says, ◌>>=◌}
use Rattle.entry.specs.Contract.{Ends, Two, Enters, in_rows, valued}
use Rattle.entry.proofs.Exactly.{◌↔∙◌}
use Rattle.entry.proofs.Entries.{enters_unique}
use Rattle.seating.specs.Judged.{seating_of, Seated, bytes_of}
use Rattle.seating.proofs.Judging.{valid_exactly}
use Rattle.seating.proofs.Bytes.{bytes_back, bytes_seated}
use Rattle.room.specs.Answer.{told}
use Rattle.room.specs.Answer.{Answer}
use Rattle.room.specs.Answer.{Refused}
use Rattle.room.proofs.Entries.{told_faithful}
use Rattle.asking.specs.Meant.{Question}
use Rattle.evenings.specs.Limits.{most_vectors, too_many_vectors, too_many_nights, wrong_row}
use Rattle.evenings.specs.Rounds.{Aim}
use Rattle.evenings.proofs.Exact.{mean_exact}
use Rattle.evenings.proofs.Best.{extreme_best}
use Rattle.vectors.proofs.Positions.{how_many_positions}
use Rattle.listed.proofs.Order.{listed}
use Rattle.listed.proofs.Seated.{counted_position, position_seated}
use Rattle.chances.specs.Chances.{chance_at, positions_of, PositionOf, held_for, round_row, row_before}
use Rattle.ask_said.specs.AskSaid.{question_said}
use Rattle.odds_said.specs.OddsSaid.{vectors_said, nights_said, rows_said, odds_of, odds_said, Odds}
use Rattle.odds_said.proofs.Chance.{chance}
use Rattle.odds_said.proofs.Theorems.{odds}
use Rattle.chances.proofs.Rows.{row_holds}
use Rattle.odds_edges.proofs.OddsEdges.{odds_edges}
use Rattle.answers.specs.Numbered.{numbers}
use Rattle.promises.specs.Nights.{OddsMeaning, OddsTells, Nights}
use Rattle.card_promises.proofs.Numbers.{number_some}
use Rattle.entry_promises.proofs.ForC.{tells_done, tells_refused, is_refused, number_of}

-- ---- the rows

zeros_at : (z i : ℕ) → get_or (zeros z) i 0 ≡ 0
unfolding zeros
zeros_at zero i = refl
zeros_at (suc z) zero = refl
zeros_at (suc z) (suc i) = zeros_at z i

past : (xs : List ℕ) (z i : ℕ) → length xs ≤ i → get_or (xs ++ zeros z) i 0 ≡ 0
past [] z i h = zeros_at z i
past (x ∷ xs) z zero h = absurd (omega arith)
past (x ∷ xs) z (suc i) h = past xs z i (omega arith)

padded_past : (most : ℕ) (xs : List ℕ) (i : ℕ) → length xs ≤ i → get_or (padded most xs) i 0 ≡ 0
unfolding padded
padded_past most xs i h = past xs (most - length xs) i h

padded_long : (most : ℕ) (xs : List ℕ) → length xs ≤ most → length (padded most xs) ≡ most
unfolding padded
padded_long most xs h = length-append xs (zeros (most - length xs)) ∙ rw (length_zeros (most - length xs)) (omega arith)

in_row : (c : Card) (q : Question) (a : Aim) (m : ℕ) (v : Position) → PositionOf c v → held_for c (round_row c q a m) v ≡ chance_at c q a m v
unfolding round_row
in_row c q a m v is = row_holds c (chance_at c q a m) v is

meaning : OddsMeaning
unfolding round_row row_before
meaning = record {
  chance = chance;
  exact_mean = mean_exact;
  listed = λ c. listed c.k c.n (shared_values c.shared);
  how_many = λ c. how_many_positions (suc c.k) c.n (shared_values c.shared);
  of_seatings = λ c v. (position_seated c v, λ h. subst (PositionOf c) h.2 (counted_position c h.0 h.1));
  in_row = in_row;
  behind = λ c q a m i h. padded_past most_vectors (map (chance_at c q a m) (positions_of c)) i (rw (length-map (positions_of c) (chance_at c q a m)) h);
  best = λ a top f l n e. extreme_best a top f l n e;
  aims = (refl, refl);
  aims_for_c = (refl, λ b. rw (ne_eqb (suc b) 0 (omega arith)));
  long = λ c q a m h. padded_long most_vectors (map (chance_at c q a m) (positions_of c)) (rw (length-map (positions_of c) (chance_at c q a m)) h);
  none_before = λ c q a. refl;
  before = λ c q a m. refl;
  edges = odds_edges;
}

-- ---- what is answered

module _ (card question seats : List ℕ) (m : ℕ) (aim : Aim) (was is : Two (List ℕ)) where
  abbrev what : Said (Ends ℕ (Two (List ℕ)))
  what = odds_said card question seats m aim (length was.first) (length was.second)

  answers : (a : Answer) → Enters in_rows told was is what a → Odds told card question seats m aim was is a
  answers a e = odds card question seats m aim was is told_faithful e

  odds_tells : (a : Answer) → Odds told card question seats m aim was is a → OddsTells card question seats m aim was is (numbers a)
  odds_tells a h =
      record {
        answered = λ v. tells_done a some v ↔∙ h.answered v;
        stands = λ c q f.
            let x = counted c.0.k (seating_of c.0 seats) in
            (tells_done a some (held_for c.0 is.first x)).1 ((h.answered (held_for c.0 is.first x)).1
            (c, (q, (f, ap (λ (row : List ℕ). held_for c.0 row x) (h.first_holds c q f) ∙ in_row c.0 q.0 aim m x (counted_position c.0 (seating_of c.0 seats) f.seating.valid)))));
        first_holds = h.first_holds;
        second_holds = h.second_holds;
        wrong_card = λ r p l m. tells_refused a some r p l ↔∙ h.wrong_card r p m;
        wrong_question = λ r p l m. tells_refused a some r p (omega arith) ↔∙ h.wrong_question r p l m;
        wrong_count = λ p. tells_refused a some wrong_seats p (omega arith) ↔∙ h.wrong_count p;
        wrong_seat = λ p. tells_refused a some seat_above_top p (omega arith) ↔∙ h.wrong_seat p;
        too_many_vectors_holds = λ p. tells_refused a some too_many_vectors p (omega arith) ↔∙ h.too_many_vectors_holds p;
        too_many_nights_holds = λ p. tells_refused a some too_many_nights p (omega arith) ↔∙ h.too_many_nights_holds p;
        wrong_rows = λ p. tells_refused a some wrong_row p (omega arith) ↔∙ h.wrong_rows p;
        no_other = number_of a some {P = λ r. ((r ≤ seat_above_top) ⊎ ((14 ≤ r) × (r ≤ 17))) ⊎ ((21 ≤ r) × (r ≤ 26))} (inl (inl (omega arith))) h.no_other;
        untouched = λ z. let (r, p, e) = is_refused a some z in h.untouched r p e;
      }
    where
      some : (r p : ℕ) → a ≡ Refused r p → 1 ≤ r
      some r p e = go (of_card? r)
        where
          go : Dec (OfCard r) → 1 ≤ r
          go (yes l) = number_some card_rule card ((h.wrong_card r p l).0 e)
          go (no l) = let m : r ≤ wrong_weight → ⊥ = λ h. l (inl h) in omega arith

-- ---- seats in another order: only their counts are asked for

module _ (card : List ℕ) (c : Card) (h : read_of card ≡ taken c) (question : List ℕ) (m : ℕ) (aim : Aim) (long long₁ : ℕ) where
  -- what is said of a seating, by its counts
  abbrev at : Position → Said (Ends ℕ (Two (List ℕ)))
  at v = question_said question c >>= (λ q. vectors_said c >>= (λ _. nights_said m >>= (λ _. rows_said long long₁ >>= (λ _. says (odds_of c q aim m v)))))

  seated : (b : List ℕ) → Seated c b → odds_said card question b m aim long long₁ ≡ at (counted c.k (seating_of c b))
  unfolding odds_said
  seated b s = rw (h, (valid_exactly c b).1 s)

  of_seating : (x : Seating) → ValidSeating c x → odds_said card question (bytes_of c x) m aim long long₁ ≡ at (counted c.k x)
  of_seating x ok = seated (bytes_of c x) (bytes_seated c x ok) ∙ ap (λ (y : Seating). at (counted c.k y)) (bytes_back c x ok)

  reordered : {x y : Seating} → Reordered x y → ValidSeating c x → odds_said card question (bytes_of c x) m aim long long₁ ≡ odds_said card question (bytes_of c y) m aim long long₁
  reordered {x} {y} r ok = of_seating x ok ∙ ap at (reordered_counts c.k r) ∙ sym (of_seating y (reordered_valid c r ok))

pub nights : Nights
nights = record {
  unique = λ tell said was is₁ is₂ a₁ a₂ h k. enters_unique h k;
  reordered = λ card c h question m aim long long₁ r ok. reordered card c h question m aim long long₁ r ok;
  meaning = meaning;
  answers = answers;
  for_c = λ card question seats m aim was is a e. subst (OddsTells card question seats m aim was is) (sym e.answers)
      (odds_tells card question seats m aim was is (told (valued (what card question seats m aim was is)))
      (answers card question seats m aim was is (told (valued (what card question seats m aim was is))) (record { answers = refl; leaves = e.leaves })));
}
