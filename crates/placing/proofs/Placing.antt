-- What is said of a card's place, stage by stage; and a tidied deck in its room has place for the card, which leaves zero bytes behind the new deck. Assumes nothing.
use Prim.Native.Nat.{ℕ, zero, suc, ◌+◌, ◌-◌, ◌≤◌, ◌<◌}
use mathlib.Core.Path.{◌≡◌, refl, sym, ap, ◌∙◌, subst}
use mathlib.Core.Bool.{true}
use mathlib.Core.List.{List, [], ◌∷◌, ◌++◌}
use native.Mathlib.Omega.{arith}
use borrow.Author.Tests.{le-leb, lt-leb, lt-ltb, le-ltb}
use lib.ListN.{length, drop}
use lib.Seq.{drop-drop, drop-append_seam, drop-append-add}
use Rattle.card.specs.Refusals.{room_too_small, not_added}
use Rattle.card.specs.Valid.{Every}
use Rattle.entry.specs.Said.{says, refused}
use Rattle.deck.specs.Contents.{behind, contents_of}
use Rattle.deck.specs.Deck.{Entry, held_by, bodies, deck_text}
use Rattle.deck.proofs.Written.{length_text}
use Rattle.tidying.specs.Tidying.{number_free, is_live_entry, live_card, with_card, added_text, place_said}
use Rattle.tidying.specs.Tidied.{live_cards, tidy_text, zeroed, lent_after}
use Rattle.tidying.proofs.Added.{with_count, with_bodies}
use Rattle.tidying.proofs.Gap.{gap_held}
use Rattle.tidying.proofs.Live.{kept_pass}
use Rattle.tidying.proofs.NewDecks.{length_after}
use Rattle.gathering.specs.declared.Live.{Live}
use Rattle.placing.specs.Inserts.{Insertable}
use Rattle.tidy.specs.Tidies.{Measured}
use Rattle.tidy.proofs.LiveDeck.{cards_count}
use Rattle.tidy.proofs.Closing.{few, inside, text_long}

drop_zeros : (n : ℕ) (t : List ℕ) → drop n (zeroed t) ≡ zeroed (drop n t)
drop_zeros zero t = refl
drop_zeros (suc n) [] = refl
drop_zeros (suc n) (x ∷ t) = drop_zeros n t

module _ (was : List ℕ) (number : ℕ) (card : List ℕ) {known : Live} (m : Measured was known) where
  abbrev cards : ℕ
  cards = known.cards

  abbrev bytes : ℕ
  bytes = known.bytes

  abbrev es : List Entry
  es = live_cards was

  abbrev new : List ℕ
  new = added_text number card es

  cards_are : length es ≡ cards
  cards_are = cards_count was m.sound ∙ sym m.live.cards

  bytes_are : length (bodies es) ≡ bytes
  bytes_are = omega (arith, length_text es, text_long was m refl, cards_are)

  pub need_is : behind (cards + 1) + bytes + length card ≡ length new
  need_is = omega (arith, length_text (with_card (live_card number card) es), with_count (live_card number card) es, with_bodies (live_card number card) es, cards_are, bytes_are)

  pub few_cards : cards ≤ 64
  few_cards = omega (arith, few was m refl, m.sound.head.few)

  pub few_bytes : bytes ≤ 65535
  few_bytes = omega (arith, inside was m refl, m.sound.head.short)

  -- ---- what is said

  pub number_taken : {p : ℕ} → number_free number 1 (contents_of was) ≡ refused not_added p → place_said was number card es ≡ refused not_added p
  number_taken e = rw e

  module _ (free : number_free number 1 (contents_of was) ≡ says tt) where
    pub too_many : 64 ≤ cards → place_said was number card es ≡ refused not_added 0
    too_many h = rw (free, le-ltb (length es) 64 (omega (arith, cards_are)))

    module _ (h : cards < 64) where
      pub too_small : length was < behind (cards + 1) + bytes + length card → place_said was number card es ≡ refused room_too_small (behind (cards + 1) + bytes + length card)
      too_small l = rw (free, lt-ltb (length es) 64 (omega (arith, cards_are)), lt-leb (length new) (length was) (omega (arith, need_is))) (ap (refused room_too_small) (sym need_is))

      pub place_found : behind (cards + 1) + bytes + length card ≤ length was → place_said was number card es ≡ says new
      place_found l = rw (free, lt-ltb (length es) 64 (omega (arith, cards_are)), le-leb (length new) (length was) (omega (arith, need_is)))

  -- ---- in the room

  module _ {tidy : List ℕ} (e : tidy ≡ lent_after (tidy_text was) was) where
    abbrev zeros : List ℕ
    zeros = zeroed (drop (length (tidy_text was)) was)

    held_there : held_by tidy ≡ es
    held_there = ap held_by e ∙ gap_held es zeros

    short : length (tidy_text was) ≤ length was
    short = omega (arith, text_long was m refl, few was m refl, inside was m refl)

    pub long_there : length tidy ≡ length was
    long_there = ap length e ∙ length_after (tidy_text was) was short

    text_there : tidy ≡ deck_text (held_by tidy) ++ drop (length (deck_text (held_by tidy))) tidy
    text_there =
        e
        ∙ ap (λ (t : List ℕ). tidy_text was ++ t) (sym (drop-append_seam (tidy_text was) zeros))
        ∙ ap (λ (t : List ℕ). tidy_text was ++ drop (length (tidy_text was)) t) (sym e)
        ∙ ap (λ (l : List Entry). deck_text l ++ drop (length (deck_text l)) tidy) (sym held_there)

    pub insertable : number < 65536 → cards < 64 → behind (cards + 1) + bytes + length card ≤ length was → Insertable tidy known number card
    insertable w h l = record {
      text = text_there;
      live = subst (Every (λ (x : Entry). x.live ≡ true)) (sym held_there) (kept_pass is_live_entry (held_by was));
      count = sym cards_are ∙ sym (ap length held_there);
      total = sym bytes_are ∙ sym (ap (λ (x : List Entry). length (bodies x)) held_there);
      word = w;
      few = h;
      room = omega (arith, long_there);
      short = omega (arith, long_there, m.sound.head.short);
    }

    pub placed : behind (cards + 1) + bytes + length card ≤ length was → {is : List ℕ}
        → is ≡ added_text number card (held_by tidy) ++ drop (length (added_text number card (held_by tidy))) tidy → is ≡ lent_after new was
    placed l {is} k =
        let t = tidy_text was in
        let more = length new - length t in
        let there : length t + more ≡ length new = omega (arith, need_is, text_long was m refl) in
        k
        ∙ ap (λ (x : List Entry). added_text number card x ++ drop (length (added_text number card x)) tidy) held_there
        ∙ ap (λ (x : List ℕ). new ++ drop (length new) x) e
        ∙ ap (λ (n : ℕ). new ++ drop n (t ++ zeros)) (sym there)
        ∙ ap (λ (x : List ℕ). new ++ x) (drop-append-add t zeros more ∙ drop_zeros more (drop (length t) was) ∙ ap zeroed (drop-drop more (length t) was))
        ∙ ap (λ (n : ℕ). new ++ zeroed (drop n was)) there
