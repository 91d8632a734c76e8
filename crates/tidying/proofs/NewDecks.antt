-- The deck that tidying makes, and the one that adding a card makes: written without gaps from live entries whose numbers rise, so that it is sound, holds them in the lent room too,
-- and is its own tidying; so is any deck that is tidy already. Assumes nothing.
use Prim.Native.Nat.{ℕ, zero, suc, ◌+◌, ◌≤◌, ◌<◌}
use mathlib.Core.Path.{◌≡◌, refl, sym, ap, ◌∙◌}
use mathlib.Core.Bool.{true}
use mathlib.Core.List.{List, [], ◌∷◌, ◌++◌}
use native.Mathlib.Nat.{le_trans}
use native.Mathlib.Omega.{arith}
use borrow.Author.Tests.{le-leb}
use lib.ListN.{length, drop, length-append, length-drop, length-map}
use Rattle.card.specs.Limits.{deck_bytes, word_numbers}
use Rattle.card.specs.Valid.{Every}
use Rattle.entry.specs.Said.{Said, says, ◌>>=◌}
use Rattle.deck.specs.Contents.{byte}
use Rattle.deck.specs.Deck.{Entry, held_by, deck_of, deck_text, Writable, Bytes}
use Rattle.deck.specs.Lookup.{live_in}
use Rattle.deck.proofs.Kept.{kept_writable, kept_no_longer, held_said, held_writable, tidy_no_longer}
use Rattle.deck.proofs.Written.{length_text, text_sound, text_back}
use Rattle.deck_written.proofs.NoGaps.{no_gaps}
use Rattle.mending.proofs.Unchanged.{text_same}
use Rattle.tidying.specs.Tidying.{is_live_entry, live_entries, live_said, tidy_said, live_card, with_card}
use Rattle.tidying.specs.Tidied.{live_cards, tidy_text, text_with, zeroed, lent_after, Tidiable, Addable, Tidy, NewDeck, TidiedDeck, AddedDeck}
use Rattle.tidying.proofs.Gap.{gap_sound, gap_back}
use Rattle.tidying.proofs.Live.{kept_pass, kept_all, found_live}
use Rattle.tidying.proofs.Added.{with_every, with_count, with_bodies, with_rising, at_its_place, finds_new, finds_others}
use Rattle.tidying.proofs.Free.{live_others}

-- ---- what is said

live_held : (deck : List ℕ) (es : List Entry) → deck_of deck ≡ says es → 1 ≤ length (live_entries es) → live_said deck ≡ says (live_entries es)
live_held deck es e l = rw (e, le-leb 1 (length (live_entries es)) l)

pub live_says : (deck : List ℕ) → Tidiable deck → live_said deck ≡ says (live_cards deck)
live_says deck t = live_held deck (held_by deck) (held_said deck t.sound) t.some

pub tidy_says : (deck : List ℕ) → Tidiable deck → tidy_said deck ≡ says (tidy_text deck)
unfolding tidy_said
tidy_says deck t = rw (live_says deck t)

-- a deck of live cards only
tidy_live : (deck : List ℕ) (es : List Entry) → deck_of deck ≡ says es → Every (λ (e : Entry). e.live ≡ true) es → 1 ≤ length es → tidy_said deck ≡ says (deck_text es)
unfolding tidy_said
tidy_live deck es e all l =
    let same = kept_all is_live_entry es all in
    let n : 1 ≤ length (live_entries es) = omega (arith, ap length same) in
    ap (λ (x : Said (List Entry)). x >>= (λ (s : List Entry). says (deck_text s))) (live_held deck es e n) ∙ ap (λ (s : List Entry). says (deck_text s)) same

-- ---- the new deck

zeros : (t : List ℕ) (i : ℕ) → byte (zeroed t) i ≡ 0
zeros [] i = refl
zeros (b ∷ t) zero = refl
zeros (b ∷ t) (suc i) = zeros t i

zero_behind : (new t : List ℕ) (i : ℕ) → length new ≤ i → byte (new ++ zeroed t) i ≡ 0
zero_behind [] t i h = zeros t i
zero_behind (b ∷ new) t zero h = absurd (omega (arith, h))
zero_behind (b ∷ new) t (suc i) h = zero_behind new t i (omega (arith, h))

pub length_after : (new was : List ℕ) → length new ≤ length was → length (lent_after new was) ≡ length was
length_after new was h =
    let z : length (zeroed (drop (length new) was)) ≡ length (drop (length new) was) = length-map (drop (length new) was) _ in
    omega (arith, z, length-append new (zeroed (drop (length new) was)), length-drop (length new) was)

-- zero bytes become zero bytes
zeroed_zeroed : (t : List ℕ) → zeroed (zeroed t) ≡ zeroed t
zeroed_zeroed [] = refl
zeroed_zeroed (b ∷ t) = ap (λ (l : List ℕ). 0 ∷ l) (zeroed_zeroed t)

drop_past : (s t : List ℕ) → drop (length s) (s ++ t) ≡ t
drop_past [] t = refl
drop_past (b ∷ s) t = drop_past s t

after_after : (new was : List ℕ) → lent_after new (lent_after new was) ≡ lent_after new was
after_after new was =
    let rest = zeroed (drop (length new) was) in
    ap (λ (l : List ℕ). new ++ zeroed l) (drop_past new rest) ∙ ap (λ (l : List ℕ). new ++ l) (zeroed_zeroed (drop (length new) was))

new_deck : (was : List ℕ) (es : List Entry) → Writable es → Every (λ (e : Entry). e.live ≡ true) es → length (deck_text es) ≤ length was → length was ≤ deck_bytes → NewDeck was (deck_text es) es
new_deck was es w all h s =
    let rest = zeroed (drop (length (deck_text es)) was) in
    let k : length (deck_text es ++ rest) ≤ deck_bytes = omega (arith, length_after (deck_text es) was h) in
    record {
      live = all;
      short = h;
      sound = text_sound es w;
      no_gaps = no_gaps es w.some;
      holds = text_back es w;
      room_long = length_after (deck_text es) was h;
      room_zero = λ i l. zero_behind (deck_text es) (drop (length (deck_text es)) was) i l;
      room_sound = gap_sound es rest w k;
      room_holds = gap_back es rest w k;
      again = tidy_live (deck_text es) es (text_back es w) all w.some;
      room_again = tidy_live (deck_text es ++ rest) es (gap_back es rest w k) all w.some;
      room_same = after_after (deck_text es) was;
    }

module _ (deck : List ℕ) (b : Bytes deck) where
  module _ (t : Tidiable deck) where
    live_writable : Writable (live_cards deck)
    live_writable = kept_writable is_live_entry (held_by deck) (held_writable deck t.sound b) t.some

    tidy_short : length (tidy_text deck) ≤ length deck
    tidy_short = le_trans (kept_no_longer is_live_entry (held_by deck)) (tidy_no_longer deck t.sound)

    tidied_new : NewDeck deck (tidy_text deck) (live_cards deck)
    tidied_new = new_deck deck (live_cards deck) live_writable (kept_pass is_live_entry (held_by deck)) tidy_short t.sound.head.short

    pub tidied_deck : TidiedDeck deck
    tidied_deck = record {
      new = tidied_new;
      finds = λ number.
          ap (λ (x : Said (List Entry)). x >>= live_in number) tidied_new.room_holds
          ∙ found_live number (held_by deck)
          ∙ sym (ap (λ (x : Said (List Entry)). x >>= live_in number) (held_said deck t.sound));
    }

  -- a deck that is tidy already
  pub tidy_same : Tidy deck → tidy_said deck ≡ says deck
  tidy_same t =
      let some = (held_writable deck t.sound b).some in
      tidy_live deck (held_by deck) (held_said deck t.sound) t.live some ∙ ap says (text_same deck t.sound t.no_gaps b)

  module _ (number : ℕ) (card : List ℕ) (n : number < word_numbers) (a : Addable deck number card) where
    abbrev entries : List Entry
    entries = with_card (live_card number card) (live_cards deck)

    added_writable : Writable entries
    added_writable =
        let w = live_writable a.placeable.tidiable in
        let k = with_count (live_card number card) (live_cards deck) in
        record {
          some = omega (arith, k);
          few = omega (arith, k, a.placeable.few);
          rising = with_rising (live_card number card) 0 (live_cards deck) (omega arith) n (live_others number deck a.placeable.free) w.rising;
          short = omega (arith, length_text entries, a.room, a.placeable.tidiable.sound.head.short);
        }

    added_new : NewDeck deck (text_with deck number card) entries
    added_new =
        new_deck deck entries added_writable (with_every (live_card number card) (λ (e : Entry). e.live ≡ true) (live_cards deck) refl (kept_pass is_live_entry (held_by deck))) a.room
        a.placeable.tidiable.sound.head.short

    pub added_deck : AddedDeck deck number card
    added_deck = record {
      new = added_new;
      placed = at_its_place (live_card number card) 0 (live_cards deck) (live_others number deck a.placeable.free) (live_writable a.placeable.tidiable).rising;
      finds = ap (λ (x : Said (List Entry)). x >>= live_in number) added_new.room_holds ∙ finds_new (live_card number card) refl (live_cards deck);
      others = λ other h.
          ap (λ (x : Said (List Entry)). x >>= live_in other) added_new.room_holds
          ∙ finds_others (live_card number card) other h (live_cards deck)
          ∙ found_live other (held_by deck)
          ∙ sym (ap (λ (x : Said (List Entry)). x >>= live_in other) (held_said deck a.placeable.tidiable.sound));
    }

-- an entry and the card more than the tidied deck
pub length_with : (deck : List ℕ) (number : ℕ) (card : List ℕ) → length (text_with deck number card) ≡ length (tidy_text deck) + 8 + length card
length_with deck number card =
    let new = live_card number card in
    let es = live_cards deck in
    omega (arith, length_text es, length_text (with_card new es), with_count new es, with_bodies new es)
