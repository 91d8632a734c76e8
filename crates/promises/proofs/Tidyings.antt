-- Tidying and adding: the answers from what is said of each stage; what C is told, as for the other entries; the new decks by citing. Assumes nothing.
use Prim.Native.Nat.{ℕ, ◌≤◌}
use mathlib.Core.Path.{◌≡◌, refl, sym, ap, ◌∙◌, subst}
use mathlib.Core.Logic.{◌⊎◌, inl, inr}
use mathlib.Core.List.{List, ◌++◌, append-nil}
use native.Mathlib.Omega.{arith}
use lib.ListN.{length, drop_of_length-le}
use Rattle.card.specs.Refusals.{malformed_deck, no_live_card, room_too_small, not_added}
use Rattle.card.specs.Weight.{card_rule}
use Rattle.entry.specs.Said.{Said, says}
use Rattle.entry.specs.Contract.{valued, left, in_place}
use Rattle.entry.proofs.Exactly.{◌↔∙◌}
use Rattle.entry.proofs.Entries.{enters_unique}
use Rattle.reading.specs.Reading.{refused as turned, read_of}
use Rattle.reading.proofs.Numbers.{read_number}
use Rattle.deck.specs.Deck.{Bytes}
use Rattle.room.specs.Answer.{Answer}
use Rattle.room.specs.Answer.{Done, Refused}
use Rattle.room.specs.Answer.{told}
use Rattle.room.proofs.Entries.{told_faithful}
use Rattle.answers.specs.Numbered.{numbers}
use Rattle.answers.specs.declared.OpenPanelAnswer.{OpenPanelAnswer}
use Rattle.tidying.specs.Tidying.{tidy_said, add_said}
use Rattle.tidying.specs.Tidied.{tidy_text, text_with, zeroed, lent_after, Tidiable, Tidy}
use Rattle.tidying.proofs.InPlace.{place_refused, place_unchanged, place_stands, place_done}
use Rattle.tidying.proofs.NewDecks.{tidy_same, tidied_deck, added_deck, length_with}
use Rattle.tidying.proofs.TidiesFirst.{same_room, same_said}
use Rattle.tidying.proofs.Refusals.{tidy_stage, tidy_malformed, tidy_none, tidy_one_of}
use Rattle.tidying.proofs.Refusals.{add_stage, add_malformed, add_none, add_wrong_card, add_no_place, add_small, add_one_of}
use Rattle.tidy.specs.Tidies.{Tidied}
use Rattle.tablet.specs.LentDeck.{DeckTold}
use Rattle.tidying_edges.proofs.TidyingEdges.{tidying_edges}
use Rattle.card_promises.proofs.Numbers.{number_some}
use Rattle.entry_promises.proofs.ForC.{tells_done, tells_refused, is_refused, number_of}
use Rattle.promises.specs.Tidyings.{TidiesDeck, TidyTells, AddRefuses, AddsCard, AddTells, Tidyings}

-- the answer that C is told in numbers
tidied_for : {was is : List ℕ} (said : Said (List ℕ)) {r : OpenPanelAnswer} → DeckTold was is said r → Tidied was is said (told (valued (in_place was said)))
tidied_for said e = record { answers = refl; leaves = e.leaves }

-- ---- tidying

tidies : {was is : List ℕ} {a : Answer} → Tidied was is (tidy_said was) a → TidiesDeck was is a
tidies {was} e = record {
  malformed = λ p. place_refused told_faithful e malformed_deck p ↔∙ tidy_malformed was p;
  none_live = λ p. place_refused told_faithful e no_live_card p ↔∙ tidy_none was p;
  done = place_done told_faithful e (tidy_stage was).found;
  stands = place_stands told_faithful e (tidy_stage was).found;
  no_other = λ r p h. tidy_one_of was r p ((place_refused told_faithful e r p).0 h);
  unchanged = place_unchanged told_faithful e;
}

tidy_tells : {was is : List ℕ} (a : Answer) → TidiesDeck was is a → TidyTells was is (numbers a)
tidy_tells a h =
    let some : (r p : ℕ) → a ≡ Refused r p → 1 ≤ r = λ r p e. positive r (h.no_other r p e) in
    record {
      done = λ long. tells_done a some long ↔∙ h.done long;
      stands = h.stands;
      malformed = λ p. tells_refused a some malformed_deck p (omega arith) ↔∙ h.malformed p;
      none_live = λ p. tells_refused a some no_live_card p (omega arith) ↔∙ h.none_live p;
      no_other = number_of a some {P = λ r. (r ≡ 0) ⊎ (r ≡ malformed_deck) ⊎ (r ≡ no_live_card)} (inl refl) (λ r p e. inr (h.no_other r p e));
      unchanged = λ z. let (r, p, e) = is_refused a some z in h.unchanged r p e;
    }
  where
    positive : (r : ℕ) → (r ≡ malformed_deck) ⊎ (r ≡ no_live_card) → 1 ≤ r
    positive r (inl e) = omega (arith, e)
    positive r (inr e) = omega (arith, e)

-- ---- adding

refuses : (card : List ℕ) (r p : ℕ) → (r ≡ malformed_deck) ⊎ (r ≡ no_live_card) ⊎ (read_of card ≡ turned r p) ⊎ (r ≡ not_added) ⊎ (r ≡ room_too_small) → (1 ≤ r) × AddRefuses r
refuses card r p (inl k) = (omega (arith, k), inl k)
refuses card r p (inr (inl k)) = (omega (arith, k), inr (inl k))
refuses card r p (inr (inr (inl k))) = (number_some card_rule card k, inr (inr (inl (read_number card_rule card k))))
refuses card r p (inr (inr (inr (inl k)))) = (omega (arith, k), inr (inr (inr (inl k))))
refuses card r p (inr (inr (inr (inr k)))) = (omega (arith, k), inr (inr (inr (inr k))))

adds : (new : ℕ) (card : List ℕ) {was is : List ℕ} {a : Answer} → Tidied was is (add_said was new card) a → AddsCard new card was is a
adds new card {was} e = record {
  malformed = λ p. place_refused told_faithful e malformed_deck p ↔∙ add_malformed was new card p;
  none_live = λ p. place_refused told_faithful e no_live_card p ↔∙ add_none was new card p;
  wrong_card = λ r p h. place_refused told_faithful e r p ↔∙ add_wrong_card was new card r p h;
  no_place = λ p. place_refused told_faithful e not_added p ↔∙ add_no_place was new card p;
  small_room = λ p. place_refused told_faithful e room_too_small p ↔∙ add_small was new card p;
  done = place_done told_faithful e (add_stage was new card).found;
  stands = place_stands told_faithful e (add_stage was new card).found;
  no_other = λ r p h. refuses card r p (add_one_of was new card r p ((place_refused told_faithful e r p).0 h));
  unchanged = place_unchanged told_faithful e;
}

add_tells : {new : ℕ} {card was is : List ℕ} (a : Answer) → AddsCard new card was is a → AddTells new card was is (numbers a)
add_tells a h =
    let some : (r p : ℕ) → a ≡ Refused r p → 1 ≤ r = λ r p e. (h.no_other r p e).0 in
    record {
      done = λ long. tells_done a some long ↔∙ h.done long;
      stands = h.stands;
      malformed = λ p. tells_refused a some malformed_deck p (omega arith) ↔∙ h.malformed p;
      none_live = λ p. tells_refused a some no_live_card p (omega arith) ↔∙ h.none_live p;
      wrong_card = λ r p l m. tells_refused a some r p l ↔∙ h.wrong_card r p m;
      no_place = λ p. tells_refused a some not_added p (omega arith) ↔∙ h.no_place p;
      small_room = λ p. tells_refused a some room_too_small p (omega arith) ↔∙ h.small_room p;
      no_other = number_of a some {P = λ r. (r ≡ 0) ⊎ AddRefuses r} (inl refl) (λ r p e. inr (h.no_other r p e).1);
      unchanged = λ z. let (r, p, e) = is_refused a some z in h.unchanged r p e;
    }

-- ---- the deck

-- a deck of all its room has no byte behind it
whole_room : (deck : List ℕ) → lent_after deck deck ≡ deck
whole_room deck =
    let all : length deck ≤ length deck = omega arith in
    ap (λ (l : List ℕ). deck ++ zeroed l) (drop_of_length-le deck all) ∙ append-nil deck

-- what is said is a text: its length is told, and it stands in the room
said_so : {was is t : List ℕ} {said : Said (List ℕ)} {a : Answer} → Tidied was is said a → said ≡ says t → (a ≡ Done (length t)) × (is ≡ lent_after t was)
said_so {was} {is} {t} {said} {a} e k = (e.answers ∙ ap (λ (x : Said (List ℕ)). told (valued (in_place was x))) k, e.leaves ∙ ap (λ (x : Said (List ℕ)). left was (in_place was x)) k)

same : (deck is : List ℕ) (a : Answer) → Tidy deck → Bytes deck → Tidied deck is (tidy_said deck) a → (a ≡ Done (length deck)) × (is ≡ deck)
same deck is a t b e =
    let (n, s) = said_so e (tidy_same deck b t) in
    (n, s ∙ whole_room deck)

again : (deck is₁ is₂ : List ℕ) (a₁ a₂ : Answer) → Tidiable deck → Bytes deck → Tidied deck is₁ (tidy_said deck) a₁ → Tidied is₁ is₂ (tidy_said is₁) a₂ → (a₂ ≡ a₁) × (is₂ ≡ is₁)
again deck is₁ is₂ a₁ a₂ t b p q =
    let new = (tidied_deck deck b t).new in
    let (n, s) = said_so p ((tidy_stage deck).found.each t) in
    let (m, r) = said_so q (ap tidy_said s ∙ new.room_again) in
    (m ∙ sym n, r ∙ ap (lent_after (tidy_text deck)) s ∙ new.room_same ∙ sym s)

pub tidyings : Tidyings
tidyings = record {
  tidy = λ was is a e. tidies e;
  tidy_for_c = λ was is a e. subst (TidyTells was is) (sym e.answers) (tidy_tells (told (valued (in_place was (tidy_said was)))) (tidies (tidied_for (tidy_said was) e)));
  add = λ new card was is a e. adds new card e;
  add_for_c = λ new card was is a e.
      subst (AddTells new card was is) (sym e.answers) (add_tells (told (valued (in_place was (add_said was new card)))) (adds new card (tidied_for (add_said was new card) e)));
  tidied = λ deck t b. tidied_deck deck b t;
  added = λ deck new card a n b. added_deck deck b new card n a;
  tidies_first = λ deck new card t free b. (same_said deck b t new free card, same_room deck b t (text_with deck new card));
  length_with = length_with;
  same = same;
  again = again;
  unique = λ said was is₁ is₂ a₁ a₂ h k. enters_unique h k;
  unique_for_c = λ said was is₁ is₂ a₁ a₂ h k. enters_unique h k;
  edges = tidying_edges;
}
