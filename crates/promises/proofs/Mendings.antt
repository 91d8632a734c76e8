-- Mending a box, from the one theorem of stages; what C is told, as for the other entries; the rest by citing. Assumes nothing.
use Prim.Native.Nat.{ℕ, ◌≤◌}
use mathlib.Core.Path.{◌≡◌, refl, sym, ap, ◌∙◌, subst}
use mathlib.Core.Logic.{◌↔◌, ◌⊎◌, inl, inr}
use mathlib.Core.List.{List}
use native.Mathlib.Decide.{dec_le}
use native.Mathlib.Omega.{arith}
use lib.ListN.{length, set}
use Rattle.card.specs.Limits.{deck_bytes}
use Rattle.card.specs.Refusals.{malformed_deck, room_too_small}
use Rattle.entry.specs.Said.{Said, refused}
use Rattle.entry.specs.Contract.{Two, in_rooms, InRooms}
use Rattle.entry.proofs.Exactly.{◌↔∙◌}
use Rattle.entry.proofs.Entries.{enters_unique, answer_refused, in_rooms_law}
use Rattle.deck.specs.Deck.{Bytes}
use Rattle.room.specs.Answer.{Answer}
use Rattle.std.specs.Prelude.{Ok, Err}
use Rattle.room.specs.Answer.{Done as Wrote, Refused as Turned}
use Rattle.answers.specs.Numbered.{numbers}
use Rattle.answers.specs.declared.OpenPanelAnswer.{OpenPanelAnswer}
use Rattle.mending.specs.Mending.{mended, mend_said, list_room}
use Rattle.mending.specs.Accepted.{Mendable}
use Rattle.mending.proofs.MendStage.{mendable, refused_exactly, mend_stage}
use Rattle.mending.proofs.Unchanged.{comes_out_the_same, all_there}
use Rattle.mending.proofs.Rules.{by_rules}
use Rattle.mending.proofs.Again.{new_short, new_back, new_whole, again}
use Rattle.mended_rooms.proofs.Listed.{list_short}
use Rattle.mended_rooms.specs.Mends.{Mended}
use Rattle.card.specs.Verdict.{Refused}
use Rattle.mended_rooms.specs.Mends.{Done}
use Rattle.mended_rooms.specs.Mends.{told, Mends}
use Rattle.mended_rooms.proofs.Faithful.{done≢refused, same_deck, same_list, told_faithful}
use Rattle.card.proofs.Verdicts.{refused_number, refused_place, refusal_is, ok_is}
use Rattle.card.specs.declared.Refusal.{Refusal}
use Rattle.mended_told.specs.LentRooms.{mended_numbers, list_length, LentRooms, lent, RoomsTold}
use Rattle.mended_told.proofs.Telling.{told_back}
use Rattle.mending_edges.proofs.MendingEdges.{mending_edges}
use Rattle.promises.specs.Mendings.{Fits, TooSmall, both_in, MendsDeck, MendTells, Mendings}
use Rattle.entry_promises.specs.ForC.{Answers}
use Rattle.entry_promises.proofs.ForC.{tells_done, tells_refused, is_refused, number_of}

-- ---- the entry

module _ (deck : List ℕ) {was is : Two (List ℕ)} {a : Mended} (e : Mends was is deck a) where
  rooms : InRooms told (Mendable deck) (λ _. mended deck) was is a
  rooms = in_rooms_law told_faithful e (mend_stage deck) refl

  -- what may be answered, by the deck and by the rooms
  data Outcome : Type 0 where
    turned : (Mendable deck → ⊥) → Outcome
    small : (place : ℕ) → TooSmall deck was place → Outcome
    fits : Fits deck was → Outcome

  outcome : Outcome
  outcome = go (mendable deck)
    where
      second : Mendable deck → length (mended deck).first ≤ length was.first → Dec (length (mended deck).second ≤ length was.second) → Outcome
      second m k (yes l) = fits (m, k, l)
      second m k (no l) = small (length (mended deck).second) (m, inr (k, omega arith, refl))

      first : Mendable deck → Dec (length (mended deck).first ≤ length was.first) → Outcome
      first m (yes k) = second m k (dec_le (length (mended deck).second) (length was.second))
      first m (no k) = small (length (mended deck).first) (m, inl (omega arith, refl))

      go : Dec (Mendable deck) → Outcome
      go (yes m) = first m (dec_le (length (mended deck).first) (length was.first))
      go (no m) = turned m

  refused_first : (r p : ℕ) → mend_said deck ≡ refused r p → a ≡ Refused r p
  refused_first r p k = (answer_refused e told_faithful r p).1 (ap (λ (s : Said (Two (List ℕ))). in_rooms was s) k)

  is_done : Fits deck was → a ≡ Done (length (mended deck).first) (length (mended deck).second)
  is_done f = (rooms.stands f.0 f.1 f.2).0

  malformed : (p : ℕ) → (a ≡ Refused malformed_deck p) ↔ ((p ≡ 0) × (Mendable deck → ⊥))
  malformed p = (λ h. forth outcome h, λ h. refused_first malformed_deck p ((refused_exactly deck malformed_deck p).1 (refl, h.0, h.1)))
    where
      forth : Outcome → a ≡ Refused malformed_deck p → (p ≡ 0) × (Mendable deck → ⊥)
      forth (turned m) h = (refused_place (sym h ∙ refused_first malformed_deck 0 ((refused_exactly deck malformed_deck 0).1 (refl, refl, m))), m)
      forth (small q t) h = absurd (omega (arith, refused_number (sym h ∙ (rooms.small_room q).1 t)))
      forth (fits f) h = done≢refused (sym (is_done f) ∙ h)

  done : (d l : ℕ) → (a ≡ Done d l) ↔ (Fits deck was × (d ≡ length (mended deck).first) × (l ≡ length (mended deck).second))
  done d l = (λ h. forth outcome h, λ h. is_done h.0 ∙ rw (h.1, h.2))
    where
      forth : Outcome → a ≡ Done d l → Fits deck was × (d ≡ length (mended deck).first) × (l ≡ length (mended deck).second)
      forth (turned m) h = done≢refused (sym h ∙ (malformed 0).1 (refl, m))
      forth (small q t) h = done≢refused (sym h ∙ (rooms.small_room q).1 t)
      forth (fits f) h = let k = sym h ∙ is_done f in (f, same_deck k, same_list k)

  no_other : (r p : ℕ) → a ≡ Refused r p → (r ≡ malformed_deck) ⊎ (r ≡ room_too_small)
  no_other r p h = go outcome
    where
      go : Outcome → (r ≡ malformed_deck) ⊎ (r ≡ room_too_small)
      go (turned m) = inl (refused_number (sym h ∙ (malformed 0).1 (refl, m)))
      go (small q t) = inr (refused_number (sym h ∙ (rooms.small_room q).1 t))
      go (fits f) = done≢refused (sym (is_done f) ∙ h)

  mends : MendsDeck deck was is a
  mends = record {
    malformed = malformed;
    small_room = rooms.small_room;
    done = done;
    stands = λ f. (rooms.stands f.0 f.1 f.2).1;
    no_other = no_other;
    untouched = rooms.untouched;
  }

-- ---- the name for C

-- the deck's length alone, as another entry answers
abbrev deck_only : Mended → Answer
deck_only (Ok long) = Wrote long.0
deck_only (Err e) = Err e

turned_exactly : (m : Mended) (r p : ℕ) → (deck_only m ≡ Turned r p) ↔ (m ≡ Refused r p)
turned_exactly (Ok long) r p = (λ h. let z : ◌≡◌ {A = ℕ} 0 1 = cc in absurd (omega arith), λ h. done≢refused h)
turned_exactly (Err e) r p = (λ h. ap (λ (x : Refusal). Err x) (refusal_is h), λ h. ap (λ (x : Refusal). Err x) (refusal_is h))

wrote_exactly : (m : Mended) (d : ℕ) → (deck_only m ≡ Wrote d) ↔ ((l : ℕ) × (m ≡ Done d l))
wrote_exactly (Ok long) d = (λ h. let a : long.0 ≡ d = ok_is h in (long.1, λ i. Ok (a i, long.1)), λ h. ap Wrote (same_deck h.1))
wrote_exactly (Err e) d = (λ h. let z : ◌≡◌ {A = ℕ} 0 1 = cc in absurd (omega arith), λ h. done≢refused (sym h.1))

as_numbers : (m : Mended) → mended_numbers m ≡ numbers (deck_only m)
as_numbers (Ok long) = refl
as_numbers (Err e) = refl

module _ (deck : List ℕ) {was is : Two (List ℕ)} {m : Mended} (h : MendsDeck deck was is m) where
  positive : (r : ℕ) → (r ≡ malformed_deck) ⊎ (r ≡ room_too_small) → 1 ≤ r
  positive r (inl e) = omega (arith, e)
  positive r (inr e) = omega (arith, e)

  some : (r p : ℕ) → deck_only m ≡ Turned r p → 1 ≤ r
  some r p e = positive r (h.no_other r p ((turned_exactly m r p).0 e))

  of_refused : (r p : ℕ) → 1 ≤ r → Answers (numbers (deck_only m)) r p ↔ (m ≡ Refused r p)
  of_refused r p l = tells_refused (deck_only m) some r p l ↔∙ turned_exactly m r p

  tells : {k k' : List ℕ} → k' ≡ list_length m k → MendTells deck (lent was k) (lent is k') (numbers (deck_only m))
  tells {k} {k'} long = record {
    done = λ d. tells_done (deck_only m) some d ↔∙ wrote_exactly m d
        ↔∙ (λ z. (((h.done d z.0).0 z.1).0, ((h.done d z.0).0 z.1).1), λ z. (length (mended deck).second, (h.done d (length (mended deck).second)).1 (z.0, z.1, refl)));
    stands = λ f.
        let done-is = (h.done (length (mended deck).first) (length (mended deck).second)).1 (f, refl, refl) in
        let there : k' ≡ set k 0 (length (mended deck).second) = long ∙ ap (λ (x : Mended). list_length x k) done-is in
        ap (λ (x : Two (List ℕ)). lent x k') (h.stands f) ∙ ap (lent (both_in deck was)) there;
    malformed = λ p. of_refused malformed_deck p (omega arith) ↔∙ h.malformed p;
    small_room = λ p. of_refused room_too_small p (omega arith) ↔∙ h.small_room p;
    no_other = number_of (deck_only m) some {P = λ r. (r ≡ 0) ⊎ (r ≡ malformed_deck) ⊎ (r ≡ room_too_small)} (inl refl) (λ r p e. inr (h.no_other r p ((turned_exactly m r p).0 e)));
    untouched = λ z.
        let (r, p, e) = is_refused (deck_only m) some z in
        let refusal = (turned_exactly m r p).0 e in
        let there : k' ≡ k = long ∙ ap (λ (x : Mended). list_length x k) refusal in
        ap (λ (x : Two (List ℕ)). lent x k') (h.untouched r p refusal) ∙ ap (lent was) there;
  }

for_c : (deck : List ℕ) {was is : LentRooms} {a : OpenPanelAnswer} → RoomsTold was is (mend_said deck) a → MendTells deck was is a
for_c deck {was} {is} e =
    let (m, p, t) = told_back deck e in
    subst (MendTells deck was is) (sym (t.answers ∙ as_numbers m)) (tells deck (mends deck p) t.leaves)

-- ---- all of it

enough : (deck : List ℕ) → Mendable deck → Bytes deck → (length (mended deck).first ≤ deck_bytes) × (length (mended deck).second ≤ list_room)
enough deck m b = (omega (arith, new_short deck m b, m.head.short), omega (arith, list_short deck, m.head.few))

pub mendings : Mendings
mendings = record {
  fates = by_rules;
  mend = λ deck was is a e. mends deck e;
  mend_for_c = λ deck was is a e. for_c deck e;
  all_there = all_there;
  same = λ deck w b. comes_out_the_same deck w b;
  new_deck = λ deck m b. record { no_longer = new_short deck m b; back = new_back deck m b; whole = new_whole deck m b; again = again deck m b };
  unique = λ deck was is₁ is₂ a₁ a₂ h k. enters_unique h k;
  unique_for_c = λ deck was is₁ is₂ a₁ a₂ h k. enters_unique h k;
  rooms_enough = enough;
  edges = mending_edges;
}
