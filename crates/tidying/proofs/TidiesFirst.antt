-- Adding to a tidied deck in its room says what adding to the deck itself says: it holds the live cards and finds what the deck found; and zero bytes are told by their count alone. Assumes nothing.
use Prim.Native.Nat.{ℕ}
use mathlib.Core.Path.{◌≡◌, refl, sym, ap, ◌∙◌}
use mathlib.Core.List.{List, [], ◌∷◌, ◌++◌}
use native.Mathlib.Omega.{arith}
use lib.ListN.{length, drop, length-drop}
use lib.Dec.{leb, ltb}
use Rattle.card.specs.Limits.{most_cards}
use Rattle.card.specs.Refusals.{room_too_small, not_added}
use Rattle.card.specs.Card.{Card}
use Rattle.entry.specs.Said.{Said, says, ◌>>=◌, ◌>>◌, unless}
use Rattle.rows.specs.Said.{card_said}
use Rattle.deck.specs.Deck.{Entry, held_by, Bytes}
use Rattle.deck.specs.Given.{NoLive}
use Rattle.deck.proofs.Lookups.{find_none}
use Rattle.tidying.specs.Tidying.{is_live_entry, live_entries, added_text, place_said, add_said}
use Rattle.tidying.specs.Tidied.{live_cards, tidy_text, zeroed, lent_after, Tidiable, TidiedDeck}
use Rattle.tidying.proofs.Gap.{gap_held}
use Rattle.tidying.proofs.Live.{kept_pass, kept_all}
use Rattle.tidying.proofs.NewDecks.{tidied_deck}
use Rattle.tidying.proofs.Free.{number_free_law}
use Rattle.tidying.proofs.Refusals.{live_stage}

zeroed_alike : (s t : List ℕ) → length s ≡ length t → zeroed s ≡ zeroed t
zeroed_alike [] [] h = refl
zeroed_alike [] (b ∷ t) h = absurd (omega (arith, h))
zeroed_alike (a ∷ s) [] h = absurd (omega (arith, h))
zeroed_alike (a ∷ s) (b ∷ t) h = ap (λ (l : List ℕ). 0 ∷ l) (zeroed_alike s t (omega (arith, h)))

module _ (deck : List ℕ) (b : Bytes deck) (t : Tidiable deck) where
  abbrev room : List ℕ
  room = lent_after (tidy_text deck) deck

  after : TidiedDeck deck
  after = tidied_deck deck b t

  same_live : live_cards room ≡ live_cards deck
  same_live = ap live_entries (gap_held (live_cards deck) (zeroed (drop (length (tidy_text deck)) deck))) ∙ kept_all is_live_entry (live_cards deck) (kept_pass is_live_entry (held_by deck))

  still_free : (number : ℕ) → NoLive deck number → NoLive room number
  still_free number h = ((find_none room number 0).0 (after.finds number ∙ (find_none deck number 0).1 (t.sound, h, refl))).1

  pub same_room : (new : List ℕ) → lent_after new room ≡ lent_after new deck
  same_room new =
      let long = after.new.room_long in
      let alike : length (drop (length new) room) ≡ length (drop (length new) deck) = omega (arith, long, length-drop (length new) room, length-drop (length new) deck) in
      ap (λ (l : List ℕ). new ++ l) (zeroed_alike (drop (length new) room) (drop (length new) deck) alike)

-- what is said behind the number, which is free: by the live cards and the lent length alone
module _ (number : ℕ) (card : List ℕ) where
  abbrev by_length : ℕ → List Entry → Said (List ℕ)
  by_length long es =
      unless (ltb (length es) most_cards) not_added 0
      >> (unless (leb (length (added_text number card es)) long) room_too_small (length (added_text number card es)) >> says (added_text number card es))

  placed : (deck : List ℕ) (es : List Entry) → NoLive deck number → place_said deck number card es ≡ by_length (length deck) es
  placed deck es h = ap (λ (x : Said (Unit {0})). x >> by_length (length deck) es) (number_free_law number deck h)

  said_by : (deck : List ℕ) → Tidiable deck → NoLive deck number → add_said deck number card ≡ card_said card >>= (λ (c : Card). by_length (length deck) (live_cards deck))
  unfolding add_said
  said_by deck t h =
      ap (λ (x : Said (List Entry)). x >>= (λ (es : List Entry). card_said card >>= (λ (c : Card). place_said deck number card es))) ((live_stage deck).found.each t)
      ∙ ap (λ (x : Said (List ℕ)). card_said card >>= (λ (c : Card). x)) (placed deck (live_cards deck) h)

module _ (deck : List ℕ) (b : Bytes deck) (t : Tidiable deck) (number : ℕ) (free : NoLive deck number) (card : List ℕ) where
  abbrev tidied : List ℕ
  tidied = lent_after (tidy_text deck) deck

  pub same_said : add_said tidied number card ≡ add_said deck number card
  same_said =
      let new = (tidied_deck deck b t).new in
      let count = ap length (same_live deck b t) in
      said_by number card tidied (record { sound = new.room_sound; some = omega (arith, count, t.some) }) (still_free deck b t number free)
      ∙ ap (λ (es : List Entry). card_said card >>= (λ (c : Card). by_length number card (length tidied) es)) (same_live deck b t)
      ∙ ap (λ (long : ℕ). card_said card >>= (λ (c : Card). by_length number card long (live_cards deck))) new.room_long
      ∙ sym (said_by number card deck t free)
